use Rattle.std.proofs.Common.{◌+◌, ◌<◌, true, false, sym, subst, ◌∙◌, arith, refl}
use Rattle.std.proofs.lemmas.List.{get_or_default}
use Rattle.priority_channel_core.specs.bag.Prelude.{pair_of, Tells, Item}
use Rattle.priority_channel_core.proofs.items.Firsts.{FoundWithin, found_now, failed_now, passed_by, of_all}
use Rattle.priority_channel_core.proofs.bag.by_test.find_first.Goals as goal
use Rattle.priority_channel_core.proofs.bag.by_test.find_first.Goals.{then-is_before+then-test, else-is_before, else-is_before-via-then-is_before+else-test, else-is_before-via-else-is_before}

pub loop-at-preserved : goal.loop-at-preserved
loop-at-preserved g c =
    let passes : Item g.row.T.Denot g.row.P.Denot → Type 0 = (λ item. Tells g.F.Fn c.args.test.now (pair_of item) true) in
    let fails : Item g.row.T.Denot g.row.P.Denot → Type 0 = (λ item. Tells g.F.Fn c.args.test.now (pair_of item) false) in
    let before : Item g.row.T.Denot g.row.P.Denot → Item g.row.T.Denot g.row.P.Denot → Type 0 = (λ x y. x.number < y.number) in
    let xs = c.args.items.now in
    let at = c.loop-at.at in
    let first = c.loop-at.first in
    let item = c.index-items-at.result in
    let was = c.loop-at.invariant in
    elim c.if-is_before.branch [
      | then-is_before+then-test w ↦
          let passed = subst (Tells g.F.Fn c.args.test.now (pair_of item)) w.if-test.true (record { msg = _; priority = _; shows = (refl, refl); says = record { met = w.test.ensures } }) in
          subst (FoundWithin passes fails before xs (at + 1)) (sym w.first-is)
          (found_now passes fails before xs (λ x h. omega (arith, h)) (λ x y z h i. omega (arith, h, i)) at first was (omega arith)
          (λ d. subst passes (c.index-items-at.is ∙ get_or_default xs at item d (omega arith)) passed) (c.is_before.ensures.only_before w.if-is_before.true))
      | else-is_before w ↦
          subst (FoundWithin passes fails before xs (at + 1)) (sym w.first-is)
          (elim w.else-is_before.branch [
            | else-is_before-via-then-is_before+else-test v ↦
                let failed = subst (Tells g.F.Fn c.args.test.now (pair_of item)) v.if-test.false (record { msg = _; priority = _; shows = (refl, refl); says = record { met = v.test.ensures } }) in
                failed_now passes fails before xs at first was (λ d. subst fails (c.index-items-at.is ∙ get_or_default xs at item d (omega arith)) failed)
            | else-is_before-via-else-is_before v ↦
                passed_by passes fails before xs at first was c.is_before.result v.if-is_before.false c.is_before.ensures.none c.is_before.ensures.before
          ])
    ]

pub returns-clause-first : goal.returns-clause-first
returns-clause-first g c = (of_all _ _ _ c.args.items.now c.loop-at.at _ c.loop-at.invariant (omega arith)).ahead

pub returns-clause-none : goal.returns-clause-none
returns-clause-none g c = (of_all _ _ _ c.args.items.now c.loop-at.at _ c.loop-at.invariant (omega arith)).none
