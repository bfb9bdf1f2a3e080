-- A future ends or waits: the changes that this makes in a world.
use Rattle.std.proofs.Common.{eq-eqb, ◌≡◌, ◌≢◌, ℕ, ◌<◌, ◌⊎◌, true, List, [], refl, ap, sym, ◌∙◌, inl, inr, arith, Option, Some, None, slice_get, ◌==◌, All}
use Rattle.std.proofs.lemmas.Bool.Decides.{eqb_tells}
use Rattle.priority_channel_core.specs.declared.side.Side.{Side}
use Rattle.priority_channel_core.specs.Prelude.{without_given, listing}
use Rattle.priority_channel_waiting.specs.Future.{Futures, ticket_of}
use Rattle.priority_channel_waiting.specs.Future.Standing.{Waiting, Done}
use Rattle.priority_channel_waiting.specs.laws.WaitingLaw.{waker_of, side_of}
use Rattle.priority_channel_waiting.proofs.worlds.Positions.{Some-same}
use Rattle.priority_channel_waiting.proofs.worlds.Lookups.{put, waker_of-without, waker_of-listing, waker_of-listed, waker_of-relisted, ticket_listed}
use Rattle.priority_channel_waiting.proofs.worlds.Worlds.{Keeps, Changes}

pub gone : {W : Type 0} (xs : List (ℕ × W)) (given : Option ℕ) (t : ℕ) → given ≢ Some t → waker_of t (without_given given xs) ≡ waker_of t xs
gone xs None t ne = refl
gone xs (Some u) t ne = let n : u ≢ t = λ e. ne (ap Some e) in grind (arith, waker_of-without xs u t)

gone_only : {W : Type 0} (xs : List (ℕ × W)) (given : Option ℕ) (t : ℕ) (k : W) → waker_of t (without_given given xs) ≡ Some k → (waker_of t xs ≡ Some k) × (given ≢ Some t)
gone_only xs None t k h = (h, λ e. cc)
gone_only xs (Some u) t k h = let p : put u t None (waker_of t xs) ≡ Some k = sym (waker_of-without xs u t) ∙ h in grind arith

pub same_side : (a b : Side) → (a ≡ b) ⊎ (a ≢ b)
same_side a b = grind arith

module _ {T P W : Type 0} (is_clone : W → W → Type 0) where
  pub Keeps-same : (lists lists' : Side → List (ℕ × W)) (next next' : ℕ) (futures : List (Futures T P W))
      → ((side : Side) → lists' side ≡ lists side) → next' ≡ next → Keeps is_clone lists next futures → Keeps is_clone lists' next' futures
  Keeps-same lists lists' next next' futures same e k = record {
    kept = λ i f t w at waits. let o = k.kept i f t w at waits in (o.0, o.1, ap (waker_of t) (same (side_of f.task)) ∙ o.2);
    listed = λ side t kept here. k.listed side t kept (ap (waker_of t) (sym (same side)) ∙ here);
    below = λ i f t at has. let b = k.below i f t at has in omega arith;
    differ = k.differ;
  }

  pub Keeps-none : (lists : Side → List (ℕ × W)) (next : ℕ) (futures : List (Futures T P W)) → ((side : Side) → lists side ≡ [])
      → ((i : ℕ) (f : Futures T P W) → slice_get futures i ≡ Some f → ticket_of f.standing ≡ None) → Keeps is_clone lists next futures
  Keeps-none lists next futures empty none = record {
    kept = λ i f t w at is. let z : None ≡ Some t = sym (none i f at) ∙ ap ticket_of is in absurd (cc);
    listed = λ side t k here. let z : None ≡ Some k = rw (empty side) at here in absurd (cc);
    below = λ i f t at has. let z : None ≡ Some t = sym (none i f at) ∙ has in absurd (cc);
    differ = λ i j f g t at at' has has'. let z : None ≡ Some t = sym (none i f at) ∙ has in absurd (cc);
  }

  module _ (lists : Side → List (ℕ × W)) (next : ℕ) (futures : List (Futures T P W)) (keeps : Keeps is_clone lists next futures)
      (i : ℕ) (f g : Futures T P W) (at : slice_get futures i ≡ Some f) where
    pub ends : (given : Option ℕ) → given ≡ ticket_of f.standing → g.standing ≡ Done
        → Changes is_clone lists next futures keeps i f g at (λ side. without_given given (lists side)) next
    ends given own done = record {
      grows = omega arith;
      same = λ side t lt ne. gone (lists side) given t (λ e. ne (sym own ∙ e));
      own = λ t w waits. absurd (cc);
      only = λ side t k here. let r = gone_only (lists side) given t k here in inl (r.0, λ e. r.1 (own ∙ e));
      ticket = λ t has. let n : None ≡ Some t = rw done at has in absurd (cc);
    }

    -- a ticket of `f` that is listed is its own
    owner : (side : Side) (t : ℕ) (k : W) → waker_of t (lists side) ≡ Some k → ticket_of f.standing ≡ Some t
        → (w : W) × (side_of f.task ≡ side) × (f.standing ≡ Waiting t w) × is_clone w k
    owner side t k here has =
        let found = keeps.listed side t k here in
        let same : i ≡ found.which = keeps.differ i found.which f found.future t at found.there has (ap ticket_of found.waits) in
        let one : f ≡ found.future = Some-same _ f found.future at (ap (slice_get futures) same ∙ found.there) in
        (found.waker, ap (λ (x : Futures T P W). side_of x.task) one ∙ found.on_side, ap (λ (x : Futures T P W). x.standing) one ∙ found.waits, found.clone)

    pub waits : (given : Option ℕ) (kept waker : W) (side : Side) (lists' : Side → List (ℕ × W)) (next' : ℕ)
        → given ≡ ticket_of f.standing → is_clone waker kept → side_of f.task ≡ side → side_of g.task ≡ side
        → All (λ a. a.0 < next) (lists side)
        → lists' side ≡ (listing given kept (lists side) next).waiters
        → ((other : Side) → other ≢ side → lists' other ≡ lists other)
        → next' ≡ (listing given kept (lists side) next).next_ticket
        → g.standing ≡ Waiting (listing given kept (lists side) next).ticket waker
        → Changes is_clone lists next futures keeps i f g at lists' next'
    waits given kept waker side lists' next' own clone on_side goes_on below mine others nexts stands =
        let xs = lists side in
        let l = listing given kept xs next in
        let p = (ticket_listed xs given kept next).own_or_next in
        let put_is : (t : ℕ) → waker_of t (lists' side) ≡ put l.ticket t (Some kept) (waker_of t xs)
        = λ t. ap (waker_of t) mine ∙ waker_of-listing xs given kept next t below in
        record {
          grows = elim p [ inl a ↦ let e = a.1 in omega arith | inr b ↦ let e = b.1 in omega arith ];
          same = λ s t lt ne.
              elim (same_side s side) [
                | inl e ↦ rw e (ap (waker_of t) mine ∙ waker_of-relisted xs given kept next t below (λ q. ne (sym own ∙ q)) lt)
                | inr ne ↦ ap (waker_of t) (others s ne)
              ];
          own = λ t w is.
              let q : l.ticket ≡ t = cc in let v : waker ≡ w = cc in
              let r : (l.ticket == t) ≡ true = eq-eqb l.ticket t q in
              (kept, rw (← v) clone, rw goes_on (put_is t ∙ rw r refl));
          only = λ s t k here.
              elim (same_side s side) [
                | inl e ↦
                    let put_at : put l.ticket t (Some kept) (waker_of t xs) ≡ Some k = sym (put_is t) ∙ (rw e at here) in
                    elim (eqb_tells l.ticket t) [
                      | inl q ↦
                          let r = q.0 in let v : Some kept ≡ Some k = rw r at put_at in let same : kept ≡ k = cc in
                          inr (waker, goes_on ∙ sym e, stands ∙ ap (λ (u : ℕ). Waiting u waker) q.1, rw (← same) clone)
                      | inr q ↦
                          let r = q.0 in let old : waker_of t xs ≡ Some k = rw r at put_at in
                          inl (
                            rw e old,
                            λ has. elim p [
                              | inl a ↦ let z : l.ticket ≡ t = cc (own) in q.1 z
                              | inr b ↦ let z = b.2 t (own ∙ has) in let y = waker_of-listed xs t k old in absurd (cc)
                            ],
                          )
                    ]
                | inr ne ↦
                    let old : waker_of t (lists s) ≡ Some k = ap (waker_of t) (sym (others s ne)) ∙ here in
                    inl (old, λ has. ne (sym (owner s t k old has).1 ∙ on_side))
              ];
          ticket = λ t has.
              let q : l.ticket ≡ t = cc in
              elim p [
                | inl a ↦
                    let mine : ticket_of f.standing ≡ Some t = sym own ∙ (a.0 ∙ ap Some q) in
                    let b = keeps.below i f t at mine in let e = a.1 in (omega arith, inl mine)
                | inr b ↦ let c = b.0 in let d = b.1 in (omega arith, inr (omega arith))
              ];
        }
