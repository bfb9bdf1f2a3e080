use Rattle.std.proofs.Common.{◌≡◌, ◌+◌, ◌∷◌, List, drop, map, sym, ap, subst, ◌∙◌, arith, refl}
use Rattle.std.proofs.lemmas.List.{drop_all, drop_more}
use Rattle.std.specs.List.{FoldsTo}
use Rattle.priority_channel_core.specs.bag.Prelude.{pair_of, Folds, Item}
use Rattle.priority_channel_core.proofs.bag.by_test.fold.Goals as goal

pub loop-at-preserved : goal.loop-at-preserved
loop-at-preserved g c = λ last rest.
    let xs = c.args.items.now in
    let at = c.loop-at.at in
    let item = c.index-items-at.result in
    let more : drop at xs ≡ item ∷ drop (at + 1) xs = drop_more xs at item c.loop-at-test.true ∙ ap (λ x. x ∷ drop (at + 1) xs) (sym c.index-items-at.is) in
    let one : Folds g.F.Fn c.args.step.now c.loop-at.folded (pair_of item) c.step-folded.result = record { msg = _; priority = _; shows = (refl, refl); says = record { met = c.step-folded.ensures } } in
    c.loop-at.invariant last
    (subst (λ (l : List (Item g.row.T.Denot g.row.P.Denot)). FoldsTo (Folds g.F.Fn c.args.step.now) c.loop-at.folded (map pair_of l) last) (sym more) (c.step-folded.result, one, rest))

pub returns : goal.returns
returns g c =
    let xs = c.args.items.now in
    let at = c.loop-at.at in
    c.loop-at.invariant _
    (subst (λ (l : List (Item g.row.T.Denot g.row.P.Denot)). FoldsTo (Folds g.F.Fn c.args.step.now) c.loop-at.folded (map pair_of l) c.loop-at.folded) (sym (drop_all at xs (omega arith))) refl)
