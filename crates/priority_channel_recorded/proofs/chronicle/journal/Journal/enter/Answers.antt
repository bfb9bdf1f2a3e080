use Rattle.std.proofs.Common.{refl, sym, ap, ◌∙◌}
use Rattle.priority_channel_recorded.proofs.Accounts.{told_more}
use Rattle.priority_channel_recorded.proofs.chronicle.journal.Journal.enter.Goals as goal

pub returns-clause-told : goal.returns-clause-told
returns-clause-told g c =
    rw (← c.pass.view_is) (told_more g.H.Chronicle.who (g.H.Chronicle.legal g.J.Recording.capacity g.J.Recording.is_reserved) _ _ _ (g.X.Telling.entry c.args.telling.now)
    c.append-seen.ensures.before c.pass.invariant.2 (c.requires.who ∙ sym (ap (λ p. p.number) c.pass.view_is)) refl refl (c.again.ensures.same ∙ c.append-seen.ensures.seen) c.again.ensures.legal)
