use Rattle.std.proofs.Common.{◌++◌, map, take, IsPermutation}
use Rattle.priority_channel_witnessed.proofs.numbers.strike_all.Given as goal

abbrev pub invariant-loop-at : goal.invariant-loop-at
invariant-loop-at g l = record {
  struck : IsPermutation l.fn.out.items (map (λ pass. pass.number) (take l.at l.passes.items) ++ l.out.items);
}
