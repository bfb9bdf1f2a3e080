use Rattle.std.proofs.lemmas.Option.{IfSome_then}
use Rattle.priority_channel_core.proofs.Waiting.{listed_at, listing_renewed, without_unlisted}
use Rattle.priority_channel_core.proofs.waiting_list.WaitingList.listen.Goals as goal

pub returns-in-None-position_of-clause-refused : goal.returns-in-None-position_of-clause-refused
returns-in-None-position_of-clause-refused g c =
    rw (c.in-Some.is, without_unlisted c.args.self.now c.in-Some.ticket c.in-None-position_of.ensures.absent) c.list_next-in-None-position_of.ensures.refused

pub returns-in-Some-position_of-clause-listed : goal.returns-in-Some-position_of-clause-listed
returns-in-Some-position_of-clause-listed g c =
    let found = c.in-Some-position_of.ensures.found in
    let h = listed_at c.args.self.now c.in-Some.ticket c.in-Some-position_of.position found.0 found.1 in
    IfSome_then c.renew.result c.renew.ensures.renewed (λ u k.
    (k.1.0, k.1.1, rw (c.in-Some.is, k.0, k.1.2) (listing_renewed c.args.self.now c.in-Some.ticket c.args.next_ticket.now k.1.0 h)))
