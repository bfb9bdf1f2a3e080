-- What is known of the list of a `Peekable` at a call of `next`, and at a `peek`.
use Rattle.std.proofs.Common.{◌≡◌, ◌<◌, ◌↔◌, IsTrue, is_some, List, [], ◌∷◌, ◌++◌, length, refl, sym, ap, arith, Option, Some, None, Bor, option_copied}
use Rattle.std.specs.Iterator.Adapters.{peekable_source, peekable_peeked, peekable_steps, PeeksNext}
use Rattle.std.specs.Iterator.{AlwaysYields}
use Rattle.std.specs.declared.iter.Ahead.{Ahead}
use Rattle.priority_channel_core.specs.Prelude.{HasList}

module _ {S A : Type 0} (steps : S → Option A → S → Type 0) where
  step-after_peek : (s t : Ahead S A) → PeeksNext steps s t → (r : Option A) (j : Ahead S A) → peekable_steps steps t r j → peekable_steps steps s r j
  step-after_peek s t p r j q = grind arith

  taken : Ahead S A → Ahead S A
  taken t = record { iter = t.iter; peeked = None }

  peeked-step : (t : Ahead S A) (o : Option A) → peekable_peeked t ≡ Some o → peekable_steps steps t o (taken t)
  unfolding taken
  peeked-step t o e = grind arith

  list_from_steps : (s t : Ahead S A) (list : List A) → ((r : Option A) (j : Ahead S A) → peekable_steps steps t r j → peekable_steps steps s r j) → HasList steps s list → HasList steps t list
  list_from_steps s t [] k h = record { runs = λ x j q. h.runs x j (k (Some x) j q) }
  list_from_steps s t (y ∷ ys) k h = record { runs = ((λ j q. h.runs.0 j (k None j q)), (λ x j q. h.runs.1 x j (k (Some x) j q))) }

module _ {S A : Type 0} {steps : S → Option A → S → Type 0} where
  pub list_at_none : {s : Ahead S A} (t : Ahead S A) {list : List A} → HasList steps s list → peekable_steps steps s None t → list ≡ []
  list_at_none t {list = []} h q = refl
  list_at_none t {list = y ∷ ys} h q = absurd (h.runs.0 t q)

  pub list_at_some : {s : Ahead S A} (t : Ahead S A) {list : List A} (x : A) → HasList steps s list → peekable_steps steps s (Some x) t → (rest : List A) × (list ≡ x ∷ rest) × HasList steps t rest
  list_at_some t {list = []} x h q = absurd (h.runs x t q)
  list_at_some t {list = y ∷ ys} x h q = (ys, ap (λ z. z ∷ ys) (sym (h.runs.1 x t q).0), record { runs = (h.runs.1 x t q).1 })

  pub list_after_peek : {s : Ahead S A} (t : Ahead S A) {list : List A} → HasList steps s list → PeeksNext steps s t → HasList steps t list
  list_after_peek {s} t {list} h p = list_from_steps steps s t list (step-after_peek steps s t p) h

  -- a peek gave an item exactly if the list has one
  pub list_at_peeked : {t : Ahead S A} {list : List A} (r : Option (Bor A)) → HasList steps t list → peekable_peeked t ≡ Some (option_copied r) → (IsTrue (is_some r) ↔ (0 < length list))
  list_at_peeked {t} None h e = rw (list_at_none (taken steps t) h (peeked-step steps t None e)) ((λ k. absurd (cc)), (λ k. absurd (omega arith)))
  list_at_peeked {t} (Some x) h e = let k = list_at_some (taken steps t) x.now h (peeked-step steps t (Some x.now) e) in rw k.1 ((λ _. omega arith), (λ _. refl))

module _ {S A : Type 0} (steps : S → Option A → S → Type 0) where
  at_source : (s j : Ahead S A) (r : Option A) → peekable_peeked s ≡ None → peekable_steps steps s r j → steps (peekable_source s) r (peekable_source j)
  at_source s j r e q = grind arith

  -- the list of an iterator that was not peeked
  pub list_from_source : (s : Ahead S A) (list : List A) → peekable_peeked s ≡ None → AlwaysYields steps (λ x. x) (peekable_source s) list → HasList steps s list
  list_from_source s [] e h = record { runs = λ x j q. h x (peekable_source j) (at_source s j (Some x) e q) }
  list_from_source s (y ∷ ys) e h = record {
    runs = (
      (λ j q. h.0 (peekable_source j) (at_source s j None e q)),
      λ x j q. let k = h.1 x (peekable_source j) (at_source s j (Some x) e q) in (k.0, (list_from_source j ys q.0 k.1).runs),
    );
  }

-- a list with an item is not empty
pub has_item : {X : Type 0} (xs ys : List X) (x : X) → xs ++ x ∷ ys ≡ [] → ⊥
has_item [] ys x is = absurd (cc)
has_item (y ∷ xs) ys x is = absurd (cc)
