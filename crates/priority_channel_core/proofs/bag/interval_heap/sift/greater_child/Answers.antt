use Rattle.std.proofs.Common.{arith}
use Rattle.std.proofs.lemmas.Grind.{common_steps}
use Rattle.priority_channel_core.proofs.bag.interval_heap.sift.greater_child.Goals as goal

pub returns-then-is_lt-clause-right : goal.returns-then-is_lt-clause-right
returns-then-is_lt-clause-right g c = grind (arith, common_steps)

pub returns-else-is_lt-clause-left : goal.returns-else-is_lt-clause-left
returns-else-is_lt-clause-left g c = grind (arith, common_steps)

pub returns-else-is_lt-clause-right : goal.returns-else-is_lt-clause-right
returns-else-is_lt-clause-right g c = grind (arith, common_steps)
