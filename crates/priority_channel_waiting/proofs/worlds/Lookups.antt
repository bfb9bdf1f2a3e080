-- The waker under a ticket, after a list has changed.
use Rattle.std.proofs.Common.{◌≡◌, ℕ, ◌<◌, ◌≢◌, true, false, ◌∙◌, List, [], ◌∷◌, ◌++◌, refl, ap, arith, inl, inr, ◌+◌, ◌⊎◌, ◌==◌, if◌then◌else◌, Option, Some, None, All}
use Rattle.std.proofs.lemmas.Bool.{cases_lt, ne_eqb}
use Rattle.priority_channel_core.specs.Prelude.{is_listed, without, with_waker, listing}
use Rattle.priority_channel_waiting.specs.laws.WaitingLaw.{waker_of}
use Rattle.priority_channel_core.proofs.Tickets.{unlisted_above}

module _ {W : Type 0} where
  abbrev pub put : ℕ → ℕ → Option W → Option W → Option W
  put u t new old = if u == t then new else old

  pub waker_of-without : (xs : List (ℕ × W)) (u t : ℕ) → waker_of t (without u xs) ≡ put u t None (waker_of t xs)
  waker_of-without [] u t = grind arith
  waker_of-without (a ∷ xs) u t = grind (arith, waker_of-without xs u t)

  pub waker_of-unlisted : (xs : List (ℕ × W)) (t : ℕ) → is_listed t xs ≡ false → waker_of t xs ≡ None
  waker_of-unlisted [] t none = refl
  waker_of-unlisted (a ∷ xs) t none = grind (arith, waker_of-unlisted xs t)

  with_waker_any : (xs : List (ℕ × W)) (u t : ℕ) (w : W) → waker_of t (with_waker u w xs) ≡ (if is_listed u xs then put u t (Some w) (waker_of t xs) else waker_of t xs)
  with_waker_any [] u t w = refl
  with_waker_any (a ∷ xs) u t w = grind (arith, with_waker_any xs u t w)

  pub waker_of-with_waker : (xs : List (ℕ × W)) (u t : ℕ) (w : W) → is_listed u xs ≡ true → waker_of t (with_waker u w xs) ≡ put u t (Some w) (waker_of t xs)
  waker_of-with_waker xs u t w listed = let any = with_waker_any xs u t w in rw listed at any

  pub waker_of-push : (xs : List (ℕ × W)) (n t : ℕ) (w : W) → is_listed n xs ≡ false → waker_of t (xs ++ (n, w) ∷ []) ≡ put n t (Some w) (waker_of t xs)
  waker_of-push [] n t w none = refl
  waker_of-push (a ∷ xs) n t w none = grind (arith, waker_of-push xs n t w)

  -- The ticket of the listed waiter has its waker, and the others keep theirs.
  pub waker_of-listing : (xs : List (ℕ × W)) (given : Option ℕ) (w : W) (n t : ℕ) → All (λ a. a.0 < n) xs
      → waker_of t (listing given w xs n).waiters ≡ put (listing given w xs n).ticket t (Some w) (waker_of t xs)
  waker_of-listing xs None w n t below = waker_of-push xs n t w (unlisted_above xs n n below (omega arith))
  waker_of-listing xs (Some u) w n t below = grind (arith, waker_of-with_waker xs u t w, waker_of-push xs n t w, unlisted_above xs n n below)

  pub waker_of-listed : (xs : List (ℕ × W)) (t : ℕ) (w : W) → waker_of t xs ≡ Some w → is_listed t xs ≡ true
  waker_of-listed xs t w h = grind (arith, waker_of-unlisted xs t)

  -- the ticket under which a waiter is listed: its own, which is in the list, or the next one
  pub record OwnOrNext (xs : List (ℕ × W)) (given : Option ℕ) (w : W) (n : ℕ) : Type 0 where
    pub own_or_next : ((given ≡ Some (listing given w xs n).ticket) × ((listing given w xs n).next_ticket ≡ n))
        ⊎ (((listing given w xs n).ticket ≡ n) × ((listing given w xs n).next_ticket ≡ n + 1) × ((u : ℕ) → given ≡ Some u → is_listed u xs ≡ false))

  pub ticket_listed : (xs : List (ℕ × W)) (given : Option ℕ) (w : W) (n : ℕ) → OwnOrNext xs given w n
  ticket_listed xs None w n = record { own_or_next = inr (refl, refl, λ u e. absurd (cc)) }
  ticket_listed xs (Some u) w n = record { own_or_next = grind arith }

  -- a ticket of another is as it was
  pub waker_of-relisted : (xs : List (ℕ × W)) (given : Option ℕ) (w : W) (n t : ℕ) → All (λ a. a.0 < n) xs → given ≢ Some t → t < n
      → waker_of t (listing given w xs n).waiters ≡ waker_of t xs
  waker_of-relisted xs given w n t below ne lt =
      let l = listing given w xs n in
      let other : l.ticket ≢ t = λ e. elim (ticket_listed xs given w n).own_or_next [ inl own ↦ ne (own.0 ∙ ap Some e) | inr new ↦ let next = new.0 in absurd (omega arith) ] in
      waker_of-listing xs given w n t below ∙ rw (ne_eqb l.ticket t other) refl

  pub waker_of-below : (xs : List (ℕ × W)) (n t : ℕ) (w : W) → All (λ a. a.0 < n) xs → waker_of t xs ≡ Some w → t < n
  waker_of-below xs n t w below h =
      elim (cases_lt t n) [
        | inl lt ↦ lt
        | inr le ↦ let a = waker_of-listed xs t w h in let b = unlisted_above xs n t below le in absurd (cc)
      ]
