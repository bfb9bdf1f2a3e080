-- What each event preserves of the futures and the two waiting lists.
use Rattle.std.proofs.Common.{◌≡◌, ◌≢◌, ℕ, ◌<◌, ◌≤◌, ◌⊎◌, true, false, List, [], ◌∷◌, set, refl, ap, sym, ◌∙◌, inl, inr, arith, Some, None, slice_get}
use Rattle.std.proofs.Math.Bool.{or-false}
use Rattle.std.proofs.lemmas.Bool.Decides.{eqb_tells}
use Rattle.priority_channel_core.specs.declared.side.Side.{Side}
use Rattle.priority_channel_core.specs.declared.side.Side.TheVariants.{Room, Message}
use Rattle.priority_channel_core.specs.Prelude.{Handed, is_listed}
use Rattle.priority_channel_waiting.specs.Future.{Futures, ticket_of}
use Rattle.priority_channel_waiting.specs.Future.Standing.{Waiting, Called}
use Rattle.priority_channel_waiting.specs.laws.WaitingLaw.{waker_of, side_of, HasWaiting}
use Rattle.priority_channel_waiting.specs.laws.World.{is_handed, standing_after, call_out}
use Rattle.priority_channel_waiting.proofs.worlds.Positions.{Some-same, mapped_at, at_mapped, changed_at, at_changed, at_unchanged}
use Rattle.priority_channel_waiting.proofs.worlds.Lookups.{waker_of-listed}
use Rattle.priority_channel_core.proofs.runs.Hands.{handed_of, StaysOrLeaves}
use Rattle.priority_channel_waiting.proofs.worlds.Callings.{called-ticket, called-waiting, called-stays, called-called}

-- a future has the ticket that it had
pub had_ticket : {T P W : Type 0} (handed : Handed W) (futures : List (Futures T P W)) (i : ℕ) (g : Futures T P W) (t : ℕ)
    → slice_get (call_out handed futures) i ≡ Some g → ticket_of g.standing ≡ Some t
    → (f : Futures T P W) × (slice_get futures i ≡ Some f) × (ticket_of f.standing ≡ Some t)
had_ticket {T} {P} {W} handed futures i g t at has =
    let m = mapped_at _ futures i g at in
    (m.0, m.1, sym (called-ticket handed m.0.standing) ∙ (ap (λ (x : Futures T P W). ticket_of x.standing) m.2 ∙ has))

module _ {T P W : Type 0} (is_clone : W → W → Type 0) where
  -- the two lists have exactly the waiting futures, and each ticket has one future
  pub record Keeps (lists : Side → List (ℕ × W)) (next : ℕ) (futures : List (Futures T P W)) : Type 0 where
    pub kept : (i : ℕ) (f : Futures T P W) (t : ℕ) (w : W) → slice_get futures i ≡ Some f → f.standing ≡ Waiting t w
        → (k : W) × is_clone w k × (waker_of t (lists (side_of f.task)) ≡ Some k)
    pub listed : (side : Side) (t : ℕ) (k : W) → waker_of t (lists side) ≡ Some k → HasWaiting is_clone futures side t k
    pub below : (i : ℕ) (f : Futures T P W) (t : ℕ) → slice_get futures i ≡ Some f → ticket_of f.standing ≡ Some t → t < next
    pub differ : (i j : ℕ) (f g : Futures T P W) (t : ℕ) → slice_get futures i ≡ Some f → slice_get futures j ≡ Some g
        → ticket_of f.standing ≡ Some t → ticket_of g.standing ≡ Some t → i ≡ j

  module _ (lists : Side → List (ℕ × W)) (next : ℕ) (futures : List (Futures T P W)) (keeps : Keeps lists next futures) where
    other_side : (t : ℕ) (k l : W) → waker_of t (lists Room) ≡ Some k → waker_of t (lists Message) ≡ Some l → ⊥
    other_side t k l h j =
        let a = keeps.listed Room t k h in
        let b = keeps.listed Message t l j in
        let ta : ticket_of a.future.standing ≡ Some t = ap ticket_of a.waits in
        let tb : ticket_of b.future.standing ≡ Some t = ap ticket_of b.waits in
        let same : a.which ≡ b.which = keeps.differ a.which b.which a.future b.future t a.there b.there ta tb in
        let one : a.future ≡ b.future = Some-same _ _ _ (rw same at a.there) b.there in
        let s = ap (λ (f : Futures T P W). side_of f.task) one in
        let x = a.on_side in let y = b.on_side in absurd (cc)

    unlisted_by : (t : ℕ) (xs : List (ℕ × W)) → ((k : W) → waker_of t xs ≡ Some k → ⊥) → is_listed t xs ≡ false
    unlisted_by t [] h = refl
    unlisted_by t (a ∷ xs) h =
        elim (eqb_tells a.0 t) [
          | inl e ↦ let r = e.0 in absurd (h a.1 (rw r refl))
          | inr e ↦ let r = e.0 in rw r (unlisted_by t xs (λ k j. h k (rw r j)))
        ]

    -- some waiting lists are emptied, and all of their waiters are woken
    module _ (handed : Handed W) (lists' : Side → List (ℕ × W)) (stays : (side : Side) → StaysOrLeaves (lists side) (handed_of side handed) (lists' side)) where
      unhanded : (side : Side) (t : ℕ) → ((k : W) → waker_of t (lists side) ≡ Some k → ⊥) → is_listed t (handed_of side handed) ≡ false
      unhanded side t none =
          elim (stays side) [
            | inl s ↦ rw s.1 refl
            | inr s ↦ rw s.1 (unlisted_by t (lists side) none)
          ]

      -- a waiter of one side is woken on that side or not at all
      handed_there : (side : Side) (t : ℕ) (k : W) → waker_of t (lists side) ≡ Some k → is_handed t handed ≡ is_listed t (handed_of side handed)
      handed_there Room t k here = let none = unhanded Message t (λ l h. other_side t k l here h) in rw none (or-false _)
      handed_there Message t k here = let none = unhanded Room t (λ l h. other_side t l k h here) in rw none refl

      -- it stays with its waker, or is woken with it
      stays_or_woken : (side : Side) (t : ℕ) (k : W) → waker_of t (lists side) ≡ Some k
          → ((is_handed t handed ≡ false) × (waker_of t (lists' side) ≡ Some k))
          ⊎ ((is_handed t handed ≡ true) × (waker_of t (lists' side) ≡ None) × (waker_of t (handed_of side handed) ≡ Some k))
      stays_or_woken side t k here =
          elim (stays side) [
            | inl s ↦ inl (handed_there side t k here ∙ rw s.1 refl, rw s.0 here)
            | inr s ↦ inr (handed_there side t k here ∙ rw s.1 (waker_of-listed (lists side) t k here), rw s.0 refl, rw s.1 here)
          ]

      was_listed : (side : Side) (t : ℕ) (k : W) → waker_of t (lists' side) ≡ Some k → waker_of t (lists side) ≡ Some k
      was_listed side t k here =
          elim (stays side) [
            | inl s ↦ rw s.0 at here
            | inr s ↦ let n : None ≡ Some k = rw s.0 at here in absurd (cc)
          ]

      pub keeps-call_out : Keeps lists' next (call_out handed futures)
      keeps-call_out = record {
        kept = λ i g t w at waits.
            let m = mapped_at _ futures i g at in
            let f = m.0 in
            let c = called-waiting handed f.standing t w (ap (λ (x : Futures T P W). x.standing) m.2 ∙ waits) in
            let old = keeps.kept i f t w m.1 c.0 in
            let side : side_of g.task ≡ side_of f.task = sym (ap (λ (x : Futures T P W). side_of x.task) m.2) in
            elim (stays_or_woken (side_of f.task) t old.0 old.2) [
              | inl s ↦ (old.0, old.1, rw side s.1)
              | inr s ↦ let no = c.1 in absurd (cc)
            ];
        listed = λ side t k here.
            let was = was_listed side t k here in
            let old = keeps.listed side t k was in
            let out : is_handed t handed ≡ false = elim (stays_or_woken side t k was) [ inl s ↦ s.0 | inr s ↦ let gone = s.1 in absurd (cc) ] in
            record {
              which = old.which;
              future = record { task = old.future.task; standing = standing_after handed old.future.standing };
              waker = old.waker;
              there = at_mapped _ futures old.which old.future old.there;
              on_side = old.on_side;
              waits = ap (standing_after handed) old.waits ∙ called-stays handed t old.waker out;
              clone = old.clone;
            };
        below = λ i g t at has. let m = had_ticket handed futures i g t at has in keeps.below i m.0 t m.1 m.2;
        differ = λ i j f g t at at' has has'.
            let m = had_ticket handed futures i f t at has in
            let n = had_ticket handed futures j g t at' has' in
            keeps.differ i j m.0 n.0 t m.1 n.1 m.2 n.2;
      }

      -- a waiter that was woken, on either side, was woken with the clone of its waker
      handed_kept : (side : Side) (t : ℕ) (k : W) → waker_of t (lists side) ≡ Some k → is_handed t handed ≡ true
          → (waker_of t handed.room ≡ Some k) ⊎ (waker_of t handed.message ≡ Some k)
      handed_kept side t k here out =
          elim (stays_or_woken side t k here) [
            | inl s ↦ let no = s.0 in absurd (cc)
            | inr s ↦ either side s.2
          ]
        where
          either : (side : Side) → waker_of t (handed_of side handed) ≡ Some k → (waker_of t handed.room ≡ Some k) ⊎ (waker_of t handed.message ≡ Some k)
          either Room h = inl h
          either Message h = inr h

      pub called_from : (i : ℕ) (g : Futures T P W) (t : ℕ) (w : W) → slice_get (call_out handed futures) i ≡ Some g → g.standing ≡ Called t w
          → (f : Futures T P W) × (slice_get futures i ≡ Some f)
          × ((f.standing ≡ Called t w) ⊎ ((f.standing ≡ Waiting t w) × (k : W) × is_clone w k × ((waker_of t handed.room ≡ Some k) ⊎ (waker_of t handed.message ≡ Some k))))
      called_from i g t w at is =
          let m = mapped_at _ futures i g at in (
            m.0,
            m.1,
            elim (called-called handed m.0.standing t w (ap (λ (x : Futures T P W). x.standing) m.2 ∙ is)) [
              | inl c ↦ inl c
              | inr c ↦ let l = keeps.kept i m.0 t w m.1 c.0 in inr (c.0, l.0, l.1, handed_kept (side_of m.0.task) t l.0 l.2 c.1)
            ],
          )

    -- one future gets a new standing, and the lists change only at its tickets
    module _ (i : ℕ) (f g : Futures T P W) (at : slice_get futures i ≡ Some f) (lists' : Side → List (ℕ × W)) (next' : ℕ) where
      pub record Changes : Type 0 where
        pub grows : next ≤ next'
        pub same : (side : Side) (t : ℕ) → t < next → ticket_of f.standing ≢ Some t → waker_of t (lists' side) ≡ waker_of t (lists side)
        pub own : (t : ℕ) (w : W) → g.standing ≡ Waiting t w → (k : W) × is_clone w k × (waker_of t (lists' (side_of g.task)) ≡ Some k)
        pub only : (side : Side) (t : ℕ) (k : W) → waker_of t (lists' side) ≡ Some k
            → ((waker_of t (lists side) ≡ Some k) × (ticket_of f.standing ≢ Some t))
            ⊎ ((w : W) × (side_of g.task ≡ side) × (g.standing ≡ Waiting t w) × is_clone w k)
        pub ticket : (t : ℕ) → ticket_of g.standing ≡ Some t → (t < next') × ((ticket_of f.standing ≡ Some t) ⊎ (next ≤ t))

      not_own : (j : ℕ) (h : Futures T P W) (t : ℕ) → i ≢ j → slice_get futures j ≡ Some h → ticket_of h.standing ≡ Some t → ticket_of f.standing ≢ Some t
      not_own j h t ne there has = λ mine. ne (keeps.differ i j f h t at there mine has)

      not_new : Changes → (j : ℕ) (h : Futures T P W) (t : ℕ) → i ≢ j → slice_get futures j ≡ Some h → ticket_of h.standing ≡ Some t → ticket_of g.standing ≢ Some t
      not_new c j h t ne there has = λ now.
          elim (c.ticket t now).1 [
            | inl mine ↦ not_own j h t ne there has mine
            | inr above ↦ let b = keeps.below j h t there has in absurd (omega arith)
          ]

      pub keeps-change : Changes → Keeps lists' next' (set futures i g)
      keeps-change c = record {
        kept = λ j h t w there waits.
            elim (changed_at futures i j g h there) [
              | inl s ↦ let e = s.1 in rw (← e) (c.own t w (ap (λ (x : Futures T P W). x.standing) e ∙ waits))
              | inr s ↦
                  let has : ticket_of h.standing ≡ Some t = ap ticket_of waits in
                  let old = keeps.kept j h t w s.1 waits in
                  (old.0, old.1, c.same (side_of h.task) t (keeps.below j h t s.1 has) (not_own j h t s.0 s.1 has) ∙ old.2)
            ];
        listed = λ side t k here.
            elim (c.only side t k here) [
              | inl s ↦
                  let old = keeps.listed side t k s.0 in
                  let has : ticket_of old.future.standing ≡ Some t = ap ticket_of old.waits in
                  record {
                    which = old.which;
                    future = old.future;
                    waker = old.waker;
                    there = at_unchanged futures i old.which g old.future
                        (λ e. s.1 (ap (λ (x : Futures T P W). ticket_of x.standing) (Some-same _ f old.future at (ap (slice_get futures) e ∙ old.there)) ∙ has)) old.there;
                    on_side = old.on_side;
                    waits = old.waits;
                    clone = old.clone;
                  }
              | inr s ↦ record { which = i; future = g; waker = s.0; there = at_changed futures i g f at; on_side = s.1; waits = s.2; clone = s.3 }
            ];
        below = λ j h t there has.
            elim (changed_at futures i j g h there) [
              | inl s ↦ (c.ticket t (ap (λ (x : Futures T P W). ticket_of x.standing) s.1 ∙ has)).0
              | inr s ↦ let b = keeps.below j h t s.1 has in let l = c.grows in omega arith
            ];
        differ = λ j l h m t there there' has has'.
            elim (changed_at futures i j g h there) [
              | inl s ↦ elim (changed_at futures i l g m there') [
                | inl u ↦ sym s.0 ∙ u.0
                | inr u ↦ absurd (not_new c l m t u.0 u.1 has' (ap (λ (x : Futures T P W). ticket_of x.standing) s.1 ∙ has))
              ]
              | inr s ↦ elim (changed_at futures i l g m there') [
                | inl u ↦ absurd (not_new c j h t s.0 s.1 has (ap (λ (x : Futures T P W). ticket_of x.standing) u.1 ∙ has'))
                | inr u ↦ keeps.differ j l h m t s.1 u.1 has has'
              ]
            ];
      }
