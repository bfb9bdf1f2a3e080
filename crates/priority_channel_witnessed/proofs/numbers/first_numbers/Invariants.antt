use Rattle.std.proofs.Common.{◌≡◌, vec_len}
use Rattle.priority_channel_witnessed.specs.Passes.{AreGiven}
use Rattle.priority_channel_witnessed.proofs.numbers.first_numbers.Given as goal

abbrev pub invariant-loop-number : goal.invariant-loop-number
invariant-loop-number g l = record {
  len : vec_len l.numbers ≡ l.number;
  given : AreGiven l.numbers.items l.number;
}
