use Rattle.std.specs.Iterator.Adapters.{peekable_can}
use Rattle.priority_channel_core.specs.Prelude.{HasList}
use Rattle.priority_channel_waiting.specs.Holding.{HoldsTail}
use Rattle.priority_channel_waiting.proofs.Holdings.{left_kept, polled_tail, if_both}
use Rattle.priority_channel_waiting.proofs.polled.PeekablePolled.poll_on.Goals as goal

pub returns-clause-left : goal.returns-clause-left
returns-clause-left g c =
    let can = left_kept (peekable_can g.I.Iterator.can_next) c.poll_sendv.result.0 c.poll_sendv.ensures.callable in
    let tail = polled_tail (HasList g.I.Iterator.next_gives) g.P.Ord.cmp g.W.Clone.is_clone _ _ _ _ _ _ _ c.poll_sendv.ensures.step in
    if_both (peekable_can g.I.Iterator.can_next) (HoldsTail (HasList g.I.Iterator.next_gives) c.args.self) _ can
    (left_kept (HoldsTail (HasList g.I.Iterator.next_gives) c.args.self) c.poll_sendv.result.0 tail)
