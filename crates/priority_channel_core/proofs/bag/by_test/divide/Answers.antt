use Rattle.std.proofs.Common.{◌≡◌, ◌-◌, ◌<◌, true, false, [], ◌∷◌, ◌++◌, length, length-append, map, slice_index_or, sym, ap, subst, ◌∙◌, arith, refl, inl, inr, IsPermutation}
use Rattle.std.proofs.lemmas.List.{append-nil, append_assoc, get_or_default, length-map, map-append}
use Rattle.std.proofs.lemmas.List.Elements.{All-nil, All-push}
use Rattle.std.proofs.lemmas.List.Sorted.{length_permutation, IsPermutation-refl, IsPermutation-trans, IsPermutation-append_right, IsPermutation-swap_remove}
use Rattle.std.proofs.Permutation.{which}
use Rattle.priority_channel_core.specs.bag.Prelude.{Item, pair_of, Tells}
use Rattle.priority_channel_core.proofs.bag.by_test.divide.Goals as goal

pub loop-at-init : goal.loop-at-init
loop-at-init g c = record {
  within = let long = c.args.items.now.ok in omega arith;
  others = [];
  taken = sym (append-nil _);
  moves = IsPermutation-refl _;
  refused = All-nil _;
  kept = let long = c.args.items.now.ok in λ k d p q. absurd (omega arith);
  slots = refl;
  out_slots = refl;
}

pub push_reserved-requires : goal.push_reserved-requires
push_reserved-requires g c =
    let l = c.loop-at in
    let others = l.invariant.others in
    let long = l.out.ok in
    omega (
      arith,
      c.requires.fits,
      ap length l.invariant.taken,
      length-append c.args.out.now.items (map pair_of others),
      length-map others pair_of,
      length_permutation _ _ l.invariant.moves,
      length-append others l.items.items,
      l.invariant.within,
      l.invariant.out_slots,
    )

pub loop-at-preserved-then-not-test : goal.loop-at-preserved-then-not-test
loop-at-preserved-then-not-test g c =
    let l = c.loop-at in
    let xs = l.items.items in
    let counted = l.items.ok in
    let others = l.invariant.others in
    let item = c.index-item.result.now in
    let is_false = subst (Tells g.F.Fn c.args.test.now (pair_of item)) c.if-not-test.true (record { msg = _; priority = _; shows = (refl, refl); says = record { met = c.test.ensures } }) in
    let r = c.swap_remove in
    let x = r.result in
    let left = r.new.self.items in
    let fewer = r.new.self.ok in
    let within : l.at - 1 < length xs = omega arith in
    let seen : item ≡ x = c.index-item.ensures ∙ get_or_default xs (l.at - 1) item x within ∙ sym r.ensures.value in
    let out = subst (λ zs. IsPermutation xs (x ∷ zs)) (sym r.ensures.items) (IsPermutation-swap_remove xs (l.at - 1) x within r.ensures.value) in
    record {
      within = omega arith;
      others = others ++ x ∷ [];
      taken = c.push_reserved.ensures.items ∙ ap (λ p. l.out.items ++ p ∷ []) c.into_pair.ensures ∙ ap (λ ys. ys ++ pair_of x ∷ []) l.invariant.taken ∙ append_assoc c.args.out.now.items (map pair_of others) (pair_of x ∷ [])
          ∙ ap (λ ys. c.args.out.now.items ++ ys) (sym (map-append pair_of others (x ∷ [])));
      moves = subst (λ ys. IsPermutation c.args.items.now.items ys) (sym (append_assoc others (x ∷ []) left))
          (IsPermutation-trans _ _ _ l.invariant.moves (IsPermutation-append_right others xs (x ∷ left) out));
      refused = All-push (λ (i : Item g.row.T.Denot g.row.P.Denot). Tells g.F.Fn c.args.test.now (pair_of i) false) others x l.invariant.refused (subst (λ i. Tells g.F.Fn c.args.test.now (pair_of i) false) seen is_false);
      kept = λ k d p q. elim (which k (l.at - 1)) [
        | inl e ↦ subst (λ i. Tells g.F.Fn c.args.test.now (pair_of i) true)
            (sym (ap (λ m. slice_index_or left m d) e ∙ r.ensures.by_index.0 d (omega arith))) (l.invariant.kept (l.items.len - 1) d (omega arith) (omega arith))
        | inr u ↦ subst (λ i. Tells g.F.Fn c.args.test.now (pair_of i) true)
            (sym (r.ensures.by_index.1 k d u (omega arith))) (l.invariant.kept k d (omega arith) (omega arith))
      ];
      slots = r.ensures.capacity ∙ l.invariant.slots;
      out_slots = c.push_reserved.ensures.capacity ∙ l.invariant.out_slots;
    }

pub loop-at-preserved : goal.loop-at-preserved
loop-at-preserved g c =
    let l = c.loop-at in
    let xs = l.items.items in
    let counted = l.items.ok in
    let item = c.index-item.result.now in
    let is_true = subst (Tells g.F.Fn c.args.test.now (pair_of item)) c.if-not-test.false (record { msg = _; priority = _; shows = (refl, refl); says = record { met = c.test.ensures } }) in
    record {
      within = omega (arith, l.invariant.within);
      others = l.invariant.others;
      taken = l.invariant.taken;
      moves = l.invariant.moves;
      refused = l.invariant.refused;
      kept = λ k d p q. elim (which k (l.at - 1)) [
        | inl e ↦ subst (λ x. Tells g.F.Fn c.args.test.now (pair_of x) true)
            (c.index-item.ensures ∙ get_or_default xs (l.at - 1) item d (omega arith) ∙ ap (λ m. slice_index_or xs m d) (sym e)) is_true
        | inr u ↦ l.invariant.kept k d (omega arith) q
      ];
      slots = l.invariant.slots;
      out_slots = l.invariant.out_slots;
    }

pub returns-clause-kept : goal.returns-clause-kept
returns-clause-kept g c = λ k d p. c.loop-at.invariant.kept k d (omega arith) p
