use Rattle.priority_channel_core.proofs.Lists.{list_at_peeked}
use Rattle.priority_channel_core.proofs.channel.bulk.has_next.Goals as goal

pub returns-clause-more : goal.returns-clause-more
returns-clause-more g c = λ list has. rw c.is_some.ensures (list_at_peeked c.peek.result has c.peek.follows.holds-at-none.2)
