use Rattle.std.proofs.Common.{arith, ◌∙◌}
use Rattle.priority_channel_recorded.proofs.Accounts.{account}
use Rattle.priority_channel_recorded.proofs.chronicle.journal.Journal.end.Goals as goal

pub returns-clause-seen : goal.returns-clause-seen
returns-clause-seen g c = rw c.self.view_is c.leave_all.ensures.seen

pub returns-clause-accounts : goal.returns-clause-accounts
returns-clause-accounts g c =
    let left = c.leave_all.ensures in
    λ none apart. account g.H.Chronicle.who c.args.passes.items c.self.inside.seen (rw c.self.view_is left.counted)
    (omega (arith, none, left.amount, c.audit.ensures.whole (left.parts ∙ c.requires.all), c.self.invariant.1)) apart
