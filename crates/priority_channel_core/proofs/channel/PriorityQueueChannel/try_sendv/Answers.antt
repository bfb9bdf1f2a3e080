use Rattle.std.proofs.Common.{[], rules}
use Rattle.priority_channel_core.specs.Prelude.{HasList}
use Rattle.priority_channel_core.proofs.Bulk.{performs_sendv, replies_closed, replies_full, replies_ended, replies_filled, replies_cut}
use Rattle.priority_channel_core.proofs.Fronts.{more_left, none_left, sent_peeked}
use Rattle.priority_channel_core.proofs.Sends.{adds_none}
use Rattle.priority_channel_core.proofs.channel.PriorityQueueChannel.try_sendv.Goals as goal

pub returns-then-is_closed-clause-step : goal.returns-then-is_closed-clause-step
returns-then-is_closed-clause-step g c =
    let s = c.args.self.now.state in let holds = HasList g.I.Iterator.next_gives in
    rw c.nobody.ensures (performs_sendv holds g.P.Ord.cmp g.W.Clone.is_clone s s c.args.msgs _ _ (search rules) (replies_closed holds s c.args.msgs (search rules)))

pub returns-then-is_closed-clause-front : goal.returns-then-is_closed-clause-front
returns-then-is_closed-clause-front g c = rw c.nobody.ensures ([], adds_none c.args.self.now.state, search rules)

pub returns-then-taken-self-clause-step : goal.returns-then-taken-self-clause-step
returns-then-taken-self-clause-step g c =
    let s = c.args.self.now.state in let holds = HasList g.I.Iterator.next_gives in
    rw c.nobody-then-taken-self.ensures (performs_sendv holds g.P.Ord.cmp g.W.Clone.is_clone s s c.args.msgs _ _ (search rules)
    (replies_full holds s c.args.msgs (search rules) (search rules)))

pub returns-then-taken-self-clause-front : goal.returns-then-taken-self-clause-front
returns-then-taken-self-clause-front g c = rw c.nobody-then-taken-self.ensures ([], adds_none c.args.self.now.state, search rules)

pub returns-in-Ended-clause-step : goal.returns-in-Ended-clause-step
returns-in-Ended-clause-step g c =
    let steps = g.I.Iterator.next_gives in let s = c.args.self.now.state in
    let sends = c.send_while_room-stop.ensures in let stops = rw c.in-Ended.is at sends.stops in
    performs_sendv (HasList steps) g.P.Ord.cmp g.W.Clone.is_clone s _ c.args.msgs _ _ sends.good
    (replies_ended steps s _ _ _ c.args.msgs _ (search rules) (search rules) sends.sent stops.1 (search rules))

pub returns-in-Memory-clause-step : goal.returns-in-Memory-clause-step
returns-in-Memory-clause-step g c =
    let steps = g.I.Iterator.next_gives in let s = c.args.self.now.state in
    let sends = c.send_while_room-stop.ensures in let stops = rw c.in-Memory.is at sends.stops in
    performs_sendv (HasList steps) g.P.Ord.cmp g.W.Clone.is_clone s _ c.args.msgs _ _ sends.good
    (replies_cut steps s _ _ _ c.args.msgs _ (search rules) (search rules) (rw c.in-Memory.is at sends.sent) stops.1 (search rules) stops.2)

pub returns-then-has_next-clause-step : goal.returns-then-has_next-clause-step
returns-then-has_next-clause-step g c =
    let steps = g.I.Iterator.next_gives in let s = c.args.self.now.state in
    let sends = c.send_while_room-stop.ensures in let stops = rw c.in-Filled.is at sends.stops in
    performs_sendv (HasList steps) g.P.Ord.cmp g.W.Clone.is_clone s _ c.args.msgs _ _ sends.good
    (replies_filled steps s _ _ _ c.args.msgs _ (search rules) (search rules) (sent_peeked c.has_next.new.msgs sends.sent c.has_next.ensures.same_list)
    (more_left c.has_next.new.msgs c.has_next.result c.has_next.ensures.more (search rules)) (search rules))

pub returns-else-has_next-clause-step : goal.returns-else-has_next-clause-step
returns-else-has_next-clause-step g c =
    let steps = g.I.Iterator.next_gives in let s = c.args.self.now.state in
    let sends = c.send_while_room-stop.ensures in let stops = rw c.in-Filled.is at sends.stops in
    performs_sendv (HasList steps) g.P.Ord.cmp g.W.Clone.is_clone s _ c.args.msgs _ _ sends.good
    (replies_ended steps s _ _ _ c.args.msgs _ (search rules) (search rules) (sent_peeked c.has_next.new.msgs sends.sent c.has_next.ensures.same_list)
    (none_left c.has_next.new.msgs c.has_next.result c.has_next.ensures.more (search rules)) (search rules))
