use Rattle.std.proofs.Common.{◌≡◌, ◌+◌, true, false, sym, subst, ◌∙◌, arith, refl, rules, is_gt}
use Rattle.std.proofs.lemmas.List.{get_or_default}
use Rattle.priority_channel_core.specs.bag.Prelude.{item_cmp, pair_of, Tells, Item}
use Rattle.priority_channel_core.proofs.items.Firsts.{FoundWithin, found_now, failed_now, passed_by, of_all}
use Rattle.priority_channel_core.proofs.items.ItemOrder.{item_total, never_above_itself, above_chain}
use Rattle.priority_channel_core.proofs.bag.by_test.find_greatest.Goals as goal
use Rattle.priority_channel_core.proofs.bag.by_test.find_greatest.Goals.{then-test+then-is_above, else-test, else-test-via-then-test+else-is_above, else-test-via-else-test}

pub loop-at-preserved : goal.loop-at-preserved
loop-at-preserved g c =
    let passes : Item g.row.T.Denot g.row.P.Denot → Type 0 = (λ item. Tells g.F.Fn c.args.test.now (pair_of item) true) in
    let fails : Item g.row.T.Denot g.row.P.Denot → Type 0 = (λ item. Tells g.F.Fn c.args.test.now (pair_of item) false) in
    let above : Item g.row.T.Denot g.row.P.Denot → Item g.row.T.Denot g.row.P.Denot → Type 0 = (λ x y. is_gt (item_cmp g.P.Ord.cmp x y) ≡ true) in
    let xs = c.args.items.now in
    let at = c.loop-at.at in
    let greatest = c.loop-at.greatest in
    let item = c.index-items-at.result in
    let was = c.loop-at.invariant.0 in
    let told : Tells g.F.Fn c.args.test.now (pair_of item) c.test.result = record { msg = _; priority = _; shows = (refl, refl); says = record { met = c.test.ensures } } in
    elim c.if-test.branch [
      | then-test+then-is_above w ↦ (
        subst (FoundWithin passes fails above xs (at + 1)) (sym w.greatest-is)
            (found_now passes fails above xs (never_above_itself (item_total g.met.P.Ord.total)) (above_chain (item_total g.met.P.Ord.total)) at greatest was (omega arith)
            (λ d. subst passes (c.index-items-at.is ∙ get_or_default xs at item d (omega arith)) (subst (Tells g.F.Fn c.args.test.now (pair_of item)) w.if-test.true told))
            (w.is_above.ensures.only_above w.if-is_above.true)),
        search rules,
      )
      | else-test w ↦ elim w.else-test.branch [
        | else-test-via-then-test+else-is_above v ↦ (
          subst (FoundWithin passes fails above xs (at + 1)) (sym w.greatest-is)
              (passed_by passes fails above xs at greatest was v.is_above.result v.if-is_above.false v.is_above.ensures.none v.is_above.ensures.above),
          search rules,
        )
        | else-test-via-else-test v ↦ (
          subst (FoundWithin passes fails above xs (at + 1)) (sym w.greatest-is)
              (failed_now passes fails above xs at greatest was
              (λ d. subst fails (c.index-items-at.is ∙ get_or_default xs at item d (omega arith)) (subst (Tells g.F.Fn c.args.test.now (pair_of item)) v.if-test.false told))),
          search rules,
        )
      ]
    ]

pub returns-clause-greatest : goal.returns-clause-greatest
returns-clause-greatest g c = (of_all _ _ _ c.args.items.now c.loop-at.at _ c.loop-at.invariant.0 (omega arith)).ahead

pub returns-clause-none : goal.returns-clause-none
returns-clause-none g c = (of_all _ _ _ c.args.items.now c.loop-at.at _ c.loop-at.invariant.0 (omega arith)).none
