use Rattle.priority_channel_witnessed.proofs.Leaving.{shared_none}
use Rattle.priority_channel_witnessed.proofs.journal.Journal.new.Goals as goal

pub invariant_of-result : goal.invariant_of-result
invariant_of-result g c =
    (c.requires.parts, c.requires.out, c.requires.given, rw (c.requires.amount, c.requires.made) (shared_none c.args.out.items c.args.next))
