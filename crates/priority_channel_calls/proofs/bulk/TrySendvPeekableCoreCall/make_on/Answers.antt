use Rattle.std.specs.Iterator.Adapters.{peekable_can}
use Rattle.priority_channel_core.specs.Prelude.{HasList, rest_of}
use Rattle.priority_channel_calls.specs.Tails.{HoldsTail}
use Rattle.priority_channel_calls.proofs.Fronts.{sends_some}
use Rattle.priority_channel_calls.proofs.Tails.{refused_tail, both}
use Rattle.priority_channel_calls.proofs.bulk.TrySendvPeekableCoreCall.make_on.Goals as goal

pub returns-clause-made : goal.returns-clause-made
returns-clause-made g c =
    let e = c.try_sendv.ensures in
    sends_some g.P.Ord.cmp g.W.Clone.is_clone c.args.core.now.state c.try_sendv.new.self.state c.try_sendv.result.1 e.good
    e.front.0 e.front.1 (λ closed. (e.closed closed).1) (λ opened none. (e.no_room opened none).1)

pub returns-clause-gives : goal.returns-clause-gives
returns-clause-gives g c =
    let holds = HasList g.I.Iterator.next_gives in
    let e = c.try_sendv.ensures in
    both (λ error. HoldsTail holds c.args.self.msgs (rest_of error)) (λ error. peekable_can g.I.Iterator.can_next (rest_of error)) c.try_sendv.result.0
    (refused_tail holds g.P.Ord.cmp _ _ _ _ _ _ e.step) e.callable
