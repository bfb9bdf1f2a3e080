use Rattle.std.proofs.Common.{◌≡◌, ◌≤◌, ◌+◌, length, All}
use mathlib.Core.List.{IsPrefix}
use Rattle.priority_channel_recorded.specs.chronicle.Passes.{calls_of, calls_made}
use Rattle.priority_channel_recorded.proofs.chronicle.journal.Journal.leave_all.Given as goal

abbrev pub invariant-loop-pass : goal.invariant-loop-pass
invariant-loop-pass g l = record {
  parts : l.rest.parts ≡ l.fn.rest.parts + length l.yielded;
  amount : l.rest.amount ≡ l.fn.rest.amount + calls_made l.yielded;
  seen : All (λ pass. IsPrefix pass.seen l.fn.self) l.yielded;
  counted : All (λ pass. pass.count ≤ calls_of g.H.Chronicle.who pass.number l.fn.self) l.yielded;
}
