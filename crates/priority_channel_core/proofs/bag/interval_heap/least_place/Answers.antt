use Rattle.priority_channel_core.specs.bag.Prelude.{item_cmp}
use Rattle.std.proofs.Common.{arith}
use Rattle.priority_channel_core.proofs.items.ItemOrder.{item_total}
use Rattle.priority_channel_core.proofs.items.IntervalHeaps.{is_least}
use Rattle.priority_channel_core.proofs.bag.interval_heap.least_place.Goals as goal

pub returns-in_default-clause-least : goal.returns-in_default-clause-least
returns-in_default-clause-least g c = is_least (item_cmp g.P.Ord.cmp) (item_total g.met.P.Ord.total) c.args.items.now (omega arith)
