use Rattle.std.proofs.Common.{◌≡◌, ◌+◌, true, false, ◌∷◌, drop, sym, ap, subst, ◌∙◌, arith, refl, inl, inr}
use Rattle.std.proofs.lemmas.List.{drop_all, drop_more}
use Rattle.priority_channel_core.specs.bag.Prelude.{pair_of, Counts, Tells, Item}
use Rattle.priority_channel_core.proofs.bag.by_test.count.Goals as goal
use Rattle.priority_channel_core.proofs.bag.by_test.count.Goals.{then-test, else-test}

pub loop-at-preserved : goal.loop-at-preserved
loop-at-preserved g c =
    let passes : Item g.row.T.Denot g.row.P.Denot → Type 0 = (λ item. Tells g.F.Fn c.args.test.now (pair_of item) true) in
    let fails : Item g.row.T.Denot g.row.P.Denot → Type 0 = (λ item. Tells g.F.Fn c.args.test.now (pair_of item) false) in
    let xs = c.args.items.now in
    let at = c.loop-at.at in
    let item = c.index-items-at.result in
    let told : Tells g.F.Fn c.args.test.now (pair_of item) c.test.result = record { msg = _; priority = _; shows = (refl, refl); says = record { met = c.test.ensures } } in
    let more : drop at xs ≡ item ∷ drop (at + 1) xs = drop_more xs at item c.loop-at-test.true ∙ ap (λ x. x ∷ drop (at + 1) xs) (sym c.index-items-at.is) in
    elim c.if-test.branch [
      | then-test w ↦ (
        omega (arith, c.loop-at.invariant.0, w.count-is),
        λ n h.
            let passed = subst (Tells g.F.Fn c.args.test.now (pair_of item)) w.if-test.true told in
            let counted : Counts passes fails (item ∷ drop (at + 1) xs) (n + 1) = inr (passed, n, refl, h) in
            grind (arith, more, counted, c.loop-at.invariant.1 (n + 1), w.count-is),
      )
      | else-test w ↦ (
        omega (arith, c.loop-at.invariant.0, w.count-is),
        λ n h.
            let failed = subst (Tells g.F.Fn c.args.test.now (pair_of item)) w.if-test.false told in
            let counted : Counts passes fails (item ∷ drop (at + 1) xs) n = inl (failed, h) in
            grind (arith, more, counted, c.loop-at.invariant.1 n, w.count-is),
      )
    ]

pub returns : goal.returns
returns g c =
    let passes : Item g.row.T.Denot g.row.P.Denot → Type 0 = (λ item. Tells g.F.Fn c.args.test.now (pair_of item) true) in
    let fails : Item g.row.T.Denot g.row.P.Denot → Type 0 = (λ item. Tells g.F.Fn c.args.test.now (pair_of item) false) in
    let xs = c.args.items.now in
    let at = c.loop-at.at in
    let none : Counts passes fails (drop at xs) 0 = rw (drop_all at xs (omega arith)) refl in
    grind (arith, c.loop-at.invariant.1 0 none)
