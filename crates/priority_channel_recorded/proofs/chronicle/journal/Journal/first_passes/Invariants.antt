use Rattle.std.proofs.Common.{◌≡◌, ◌+◌, vec_len}
use Rattle.priority_channel_recorded.specs.chronicle.Passes.{AreNew}
use Rattle.priority_channel_recorded.proofs.chronicle.journal.Journal.first_passes.Given as goal

abbrev pub invariant-loop-number : goal.invariant-loop-number
invariant-loop-number g l = record {
  len : vec_len l.passes ≡ l.number;
  parts : l.rest.parts + l.number ≡ l.count;
  amount : l.rest.amount ≡ 0;
  new : AreNew l.passes.items;
}
