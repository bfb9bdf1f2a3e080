use Rattle.std.proofs.Common.{true, false, slice_index_or, sym, ap, subst, ◌∙◌, arith, refl, inl, inr}
use Rattle.std.proofs.lemmas.List.{get_or_default}
use Rattle.std.proofs.Permutation.{which}
use Rattle.priority_channel_core.specs.bag.Prelude.{pair_of, Tells}
use Rattle.priority_channel_core.proofs.bag.by_test.find.Goals as goal

pub returns-then-test-clause-found : goal.returns-then-test-clause-found
returns-then-test-clause-found g c = λ d.
    let is_true = subst (Tells g.F.Fn c.args.test.now (pair_of c.index-items-at.result)) c.if-test.true (record { msg = _; priority = _; shows = (refl, refl); says = record { met = c.test.ensures } }) in
    subst (λ x. Tells g.F.Fn c.args.test.now (pair_of x) true) (c.index-items-at.is ∙ get_or_default c.args.items.now c.loop-at.at c.index-items-at.result d (omega arith)) is_true

pub loop-at-preserved : goal.loop-at-preserved
loop-at-preserved g c =
    let is_false = subst (Tells g.F.Fn c.args.test.now (pair_of c.index-items-at.result)) c.if-test.false (record { msg = _; priority = _; shows = (refl, refl); says = record { met = c.test.ensures } }) in
    let xs = c.args.items.now in
    let at = c.loop-at.at in
    λ k d p. elim (which k at) [
      | inl e ↦ subst (λ x. Tells g.F.Fn c.args.test.now (pair_of x) false)
          (c.index-items-at.is ∙ get_or_default xs at c.index-items-at.result d (omega arith) ∙ ap (λ m. slice_index_or xs m d) (sym e)) is_false
      | inr u ↦ c.loop-at.invariant k d (omega arith)
    ]
