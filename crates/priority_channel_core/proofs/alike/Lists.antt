-- Waiting lists and states that are the same except for clones of wakers.
use Rattle.std.proofs.Common.{◌≡◌, ℕ, Bool, true, false, List, [], ◌∷◌, refl, sym, ap, ◌∙◌, subst, inl, inr, is_some, Option, Some, None, ◌==◌, if◌then◌else◌}
use Rattle.std.specs.List.{AllZip}
use Rattle.std.proofs.lemmas.Bool.Decides.{eqb_tells}
use Rattle.std.proofs.lemmas.List.Elements.{AllZip-push}
use Rattle.priority_channel_core.specs.Prelude.{State, Handed, nobody, is_listed, without, without_given, with_waker, listing, Listing, fresh, Waiters, on_side, unlist, enlist, Enlists, Side, Room, Message}
use Rattle.priority_channel_core.specs.laws.Alike.{SameWaiter, SameWaiters, SameHanded, SameState}

module _ {W : Type 0} (is_clone : W → W → Type 0) where
  abbrev pub SameList : List (ℕ × W) → List (ℕ × W) → Type 0
  SameList xs ys = AllZip (SameWaiter is_clone) xs ys

  pub list_same : (xs : List (ℕ × W)) → SameList xs xs
  list_same [] = tt
  list_same (x ∷ xs) = ((refl, inl refl), list_same xs)

  pub same_listed : (t : ℕ) (xs ys : List (ℕ × W)) → SameList xs ys → is_listed t ys ≡ is_listed t xs
  same_listed t [] [] h = refl
  same_listed t (x ∷ xs) (y ∷ ys) h = let e = h.0.0 in let r = same_listed t xs ys h.1 in rw (e, r) refl
  same_listed t xs ys h = absurd h

  pub same_without : (t : ℕ) (xs ys : List (ℕ × W)) → SameList xs ys → SameList (without t xs) (without t ys)
  same_without t [] [] h = tt
  same_without t (x ∷ xs) (y ∷ ys) h =
      let e : (y.0 == t) ≡ (x.0 == t) = ap (λ (u : ℕ). u == t) h.0.0 in let rest = same_without t xs ys h.1 in
      rw e (elim (eqb_tells x.0 t) [ inl u ↦ let r = u.0 in rw r rest | inr u ↦ let r = u.0 in rw r (h.0, rest) ])
  same_without t xs ys h = absurd h

  pub same_without_given : (given : Option ℕ) (xs ys : List (ℕ × W)) → SameList xs ys → SameList (without_given given xs) (without_given given ys)
  same_without_given None xs ys h = h
  same_without_given (Some t) xs ys h = same_without t xs ys h

  pub same_with_waker : (t : ℕ) (k l w : W) (xs ys : List (ℕ × W)) → is_clone w k → is_clone w l → SameList xs ys → SameList (with_waker t k xs) (with_waker t l ys)
  same_with_waker t k l w [] [] c d h = tt
  same_with_waker t k l w (x ∷ xs) (y ∷ ys) c d h =
      let e : (y.0 == t) ≡ (x.0 == t) = ap (λ (u : ℕ). u == t) h.0.0 in let rest = same_with_waker t k l w xs ys c d h.1 in
      rw e (elim (eqb_tells x.0 t) [ inl u ↦ let r = u.0 in rw r ((refl, inr (w, c, d)), rest) | inr u ↦ let r = u.0 in rw r (h.0, rest) ])
  same_with_waker t k l w xs ys c d h = absurd h

  -- the same ticket, in lists of the same waiters
  pub record SameListing (one other : Listing W) : Type 0 where
    pub ticket : other.ticket ≡ one.ticket
    pub waiters : SameList one.waiters other.waiters
    pub next : other.next_ticket ≡ one.next_ticket

  same_fresh : (n : ℕ) (k l w : W) (xs ys : List (ℕ × W)) → is_clone w k → is_clone w l → SameList xs ys → SameListing (fresh k xs n) (fresh l ys n)
  same_fresh n k l w xs ys c d h = record { ticket = refl; waiters = AllZip-push (SameWaiter is_clone) xs ys (n, k) (n, l) h (refl, inr (w, c, d)); next = refl }

  pub same_listing : (given : Option ℕ) (n : ℕ) (k l w : W) (xs ys : List (ℕ × W)) → is_clone w k → is_clone w l → SameList xs ys → SameListing (listing given k xs n) (listing given l ys n)
  same_listing None n k l w xs ys c d h = same_fresh n k l w xs ys c d h
  same_listing (Some t) n k l w xs ys c d h =
      let e = same_listed t xs ys h in
      rw e (either (is_listed t xs))
    where
      either : (b : Bool) → SameListing (if b then record { ticket = t; waiters = with_waker t k xs; next_ticket = n } else fresh k xs n) (if b then record { ticket = t; waiters = with_waker t l ys; next_ticket = n } else fresh l ys n)
      either true = record { ticket = refl; waiters = same_with_waker t k l w xs ys c d h; next = refl }
      either false = same_fresh n k l w xs ys c d h

  pub nobody_same : (h h' : Handed W) → h ≡ nobody → h' ≡ nobody → SameHanded is_clone h h'
  nobody_same h h' e f = rw (e, f) (record { room = tt; message = tt })

  pub same_unlist : (given : Option ℕ) (w v : Waiters W) → SameWaiters is_clone w v → SameWaiters is_clone (unlist given w) (unlist given v)
  same_unlist given w v same = record {
    room = same_without_given given _ _ same.room;
    message = same_without_given given _ _ same.message;
    next_ticket = same.next_ticket;
  }

  same_enlist : (side : Side) (one other : Listing W) (w v : Waiters W) → SameListing one other → SameWaiters is_clone w v
      → SameWaiters is_clone (enlist side one w) (enlist side other v)
  same_enlist Room one other w v listings same = record { room = listings.waiters; message = same.message; next_ticket = listings.next }
  same_enlist Message one other w v listings same = record { room = same.room; message = listings.waiters; next_ticket = listings.next }

  same_on_side : (side : Side) (w v : Waiters W) → SameWaiters is_clone w v → SameList (on_side side w) (on_side side v)
  same_on_side Room w v same = same.room
  same_on_side Message w v same = same.message

  pub same_enlists : (side : Side) (given t u : Option ℕ) (waker : W) (old new old' new' : Waiters W) → SameWaiters is_clone old old'
      → is_some u ≡ is_some t → Enlists is_clone side given waker t old new → Enlists is_clone side given waker u old' new'
      → (u ≡ t) × SameWaiters is_clone new new'
  same_enlists side given None None waker old new old' new' same both a b = (refl, rw (a, b) (same_unlist given old old' same))
  same_enlists side given (Some t) (Some u) waker old new old' new' same both a b =
      let n = old.next_ticket in
      let at : ℕ → Type 0 = λ m. let listings = listing given b.0 (on_side side old') m in (u ≡ listings.ticket) × (new' ≡ enlist side listings old') in
      let here : at n = subst at same.next_ticket b.2 in
      let listings = same_listing given n a.0 b.0 waker (on_side side old) (on_side side old') a.1 b.1 (same_on_side side old old' same) in (
        ap (λ (m : ℕ). Some m) (here.0 ∙ (listings.ticket ∙ sym a.2.0)),
        rw (a.2.1, here.1) (same_enlist side _ _ old old' listings same),
      )
  same_enlists side given t u waker old new old' new' same both a b = absurd (cc)

  pub waiters_same : (w : Waiters W) → SameWaiters is_clone w w
  waiters_same w = record { room = list_same w.room; message = list_same w.message; next_ticket = refl }

  module _ {T P : Type 0} where
    pub state_same : (s : State T P W) → SameState is_clone s s
    state_same s = record { waiters = waiters_same s.waiters; others = refl }

    -- states that were the same, and that have the same waiters now
    pub same_waiting : (k l s r : State T P W) → k ≡ record s { waiters = k.waiters } → l ≡ record r { waiters = l.waiters }
        → SameState is_clone s r → SameWaiters is_clone k.waiters l.waiters → SameState is_clone k l
    same_waiting k l s r e f same waiters = record {
      waiters = waiters;
      others = f ∙ (ap (λ (x : State T P W). record x { waiters = l.waiters }) same.others ∙ sym (ap (λ (x : State T P W). record x { waiters = l.waiters }) e));
    }

    pub same_left : (s r : State T P W) (xs ys : List (T × P)) (w v : Waiters W) → xs ≡ ys → SameState is_clone s r → SameWaiters is_clone w v
        → SameState is_clone (record s { pending = xs; waiters = w }) (record r { pending = ys; waiters = v })
    same_left s r xs ys w v e same waiters = record {
      waiters = waiters;
      others = ap (λ (x : State T P W). record x { pending = ys; waiters = v }) same.others ∙ ap (λ (l : List (T × P)). record s { pending = l; waiters = v }) (sym e);
    }

    pub same_unlisted : (given : Option ℕ) (s r : State T P W) → SameState is_clone s r
        → SameState is_clone (record s { waiters = unlist given s.waiters }) (record r { waiters = unlist given r.waiters })
    same_unlisted given s r h = same_waiting _ _ s r refl refl h (same_unlist given s.waiters r.waiters h.waiters)

    pub same_pending : {s r : State T P W} → SameState is_clone s r → r.pending ≡ s.pending
    same_pending h = ap (λ (x : State T P W). x.pending) h.others

    pub same_ends : {s r : State T P W} → SameState is_clone s r → r.ends_when_done ≡ s.ends_when_done
    same_ends h = ap (λ (x : State T P W). x.ends_when_done) h.others

    pub same_held : {s r : State T P W} → SameState is_clone s r → r.held ≡ s.held
    same_held h = ap (λ (x : State T P W). x.held) h.others

    pub same_closed : {s r : State T P W} → SameState is_clone s r → r.is_closed ≡ s.is_closed
    same_closed h = ap (λ (x : State T P W). x.is_closed) h.others

    pub same_capacity : {s r : State T P W} → SameState is_clone s r → r.capacity ≡ s.capacity
    same_capacity h = ap (λ (x : State T P W). x.capacity) h.others

    pub same_senders : {s r : State T P W} → SameState is_clone s r → r.sender_count ≡ s.sender_count
    same_senders h = ap (λ (x : State T P W). x.sender_count) h.others

    pub same_receivers : {s r : State T P W} → SameState is_clone s r → r.receiver_count ≡ s.receiver_count
    same_receivers h = ap (λ (x : State T P W). x.receiver_count) h.others
