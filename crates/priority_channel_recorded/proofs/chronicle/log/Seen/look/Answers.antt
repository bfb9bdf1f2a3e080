use Rattle.std.proofs.Common.{sym, ◌∙◌, ap}
use Rattle.priority_channel_recorded.proofs.Lines.{seen_front}
use Rattle.priority_channel_recorded.proofs.Adding.{looks}
use Rattle.priority_channel_recorded.proofs.chronicle.log.Seen.look.Goals as goal

pub load-requires : goal.load-requires
load-requires g c =
    let word = c.log.invariant in
    let offer = c.plain-offer.ensures in (
      ap (λ w. w.tracked) word,
      c.self.invariant.0 ∙ sym (ap (λ w. w.book) word),
      offer.0,
      rw (ap (λ w. w.key) word, offer.3) (looks g.H.Chronicle.legal c.self.inside.token.log c.plain-offer.result.ask),
    )

pub returns-clause-seen : goal.returns-clause-seen
returns-clause-seen g c = seen_front c.self.inside.token.log c.load.new.seen.log c.args.self.now c.self.view_is c.load.ensures.5
