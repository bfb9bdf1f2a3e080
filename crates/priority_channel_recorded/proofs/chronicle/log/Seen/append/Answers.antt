use Rattle.std.proofs.Common.{nat_eq, sym, ◌∙◌, ap}
use Rattle.priority_channel_recorded.specs.chronicle.Log.{MayFollow, entries_in}
use Rattle.priority_channel_recorded.proofs.Adding.{adds, tells_added}
use Rattle.priority_channel_recorded.proofs.chronicle.log.Seen.append.Goals as goal

pub compare_exchange-found-requires : goal.compare_exchange-found-requires
compare_exchange-found-requires g c =
    let word = c.log.invariant in
    let offer = c.plain-offer.ensures in
    let pen = c.no_pen-pen.ensures in
    let same_book = c.self.invariant.0 ∙ sym (ap (λ w. w.book) word) in
    let may : MayFollow g.H.Chronicle.legal g.J.Recording.capacity g.J.Recording.is_reserved (entries_in c.self.inside.token.log) c.args.count (g.X.Telling.entry c.args.telling.now) = rw c.self.view_is c.requires.next in (
      ap (λ w. w.tracked) word,
      same_book,
      pen.0 ∙ same_book,
      offer.0,
      rw (ap (λ w. w.key) word, pen.1, offer.1, offer.3) (adds g.H.Chronicle.legal g.J.Recording.capacity g.J.Recording.is_reserved c.self.inside.token.log c.self.invariant.1 (g.X.Telling.entry c.args.telling.now) c.args.count may),
    )

pub returns-clause-added : goal.returns-clause-added
returns-clause-added g c =
    let may : MayFollow g.H.Chronicle.legal g.J.Recording.capacity g.J.Recording.is_reserved (entries_in c.self.inside.token.log) c.args.count (g.X.Telling.entry c.args.telling.now) = rw c.self.view_is c.requires.next in
    let told = c.compare_exchange-found.ensures in
    tells_added g.H.Chronicle.legal g.J.Recording.capacity g.J.Recording.is_reserved c.self.inside.token.log c.self.invariant.1 (g.X.Telling.entry c.args.telling.now) c.args.count may c.compare_exchange-found.new.seen.log
    c.args.self.now c.plain-offer.result.ask c.self.view_is c.plain-offer.ensures.1 told.6 (nat_eq c.compare_exchange-found.result c.args.count) told.7
