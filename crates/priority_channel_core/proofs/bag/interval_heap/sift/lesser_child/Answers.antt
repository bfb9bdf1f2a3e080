use Rattle.std.proofs.Common.{arith}
use Rattle.std.proofs.lemmas.Grind.{common_steps}
use Rattle.priority_channel_core.proofs.bag.interval_heap.sift.lesser_child.Goals as goal

pub returns-else-left-right-clause-left : goal.returns-else-left-right-clause-left
returns-else-left-right-clause-left g c = grind (arith, common_steps)

pub returns-else-left-right-clause-right : goal.returns-else-left-right-clause-right
returns-else-left-right-clause-right g c = grind (arith, common_steps)
