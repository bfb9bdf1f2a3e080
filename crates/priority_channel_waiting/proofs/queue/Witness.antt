-- The acts of threads occur: a thread joins, is the head, and is listed; then the channel closes.
use Rattle.std.proofs.Common.{rules, ◌<◌, ◌≡◌, ℕ, List, [], ◌∷◌, refl, inl, arith, false, true, Bool, Some, None, slice_get, ◌^◌, All}
use Rattle.std.proofs.lemmas.List.Elements.{All-nil, All-cons}
use Rattle.priority_channel_core.specs.declared.side.Side.TheVariants.{Message}
use Rattle.priority_channel_core.specs.Prelude.{IsRising, State, opening, IsGood, Ordering}
use Rattle.priority_channel_waiting.specs.Lines.{Lined}
use Rattle.priority_channel_core.specs.declared.calls.Call.TheVariants as call
use Rattle.priority_channel_core.specs.declared.calls.Answer.TheVariants as answer
use Rattle.priority_channel_waiting.specs.laws.WaitingLaw.{CanGoOn}
use Rattle.priority_channel_waiting.specs.laws.Threads.{Phase, Thread, ThreadWorld, IsUnused}
use Rattle.priority_channel_waiting.specs.laws.Threads.Phase.{Outside, Sleeps}
use Rattle.priority_channel_waiting.specs.laws.ThreadEvents.{ThreadEvent, LeadsTo}
use Rattle.priority_channel_waiting.specs.laws.ThreadEvents.ThreadEvent.{Does, Makes}
use Rattle.priority_channel_waiting.specs.laws.ThreadEvents.Act.{Joins, AsksForLead, ListsItself}

abbrev line : Lined
line = record { first = Some (0, 7); ticket = Some 0; others = []; next_number = 1; spinning = 0 }

module _ {T P : Type 0} where
  -- an empty channel of capacity 1
  abbrev empty : List (ℕ × ℕ) → ℕ → State T P ℕ
  empty waiters next = record (opening 1 false) { waiters = record { room = []; message = waiters; next_ticket = next } }

  good : (waiters : List (ℕ × ℕ)) (next : ℕ) → IsRising waiters → All (λ a. a.0 < next) waiters → next < 2 ^ 64 → IsGood (empty waiters next)
  good waiters next rising given fits = grind arith

  abbrev closed : State T P ℕ
  closed = record (empty [] 1) { is_closed = true }

  good_closed : IsGood closed
  good_closed = grind arith

  abbrev world : State T P ℕ → Lined → Phase → Bool → ThreadWorld T P
  world state line phase is_woken = record {
    side = Message;
    state = state;
    line = line;
    threads = record { waiter = 7; phase = phase; is_woken = is_woken } ∷ [];
  }

  abbrev before : ThreadWorld T P
  before = world (empty [] 0) (record { first = None; ticket = None; others = []; next_number = 0; spinning = 0 }) Outside false

  abbrev asleep : ThreadWorld T P
  asleep = world (empty ((0, 7) ∷ []) 1) line (Sleeps 0) false

  abbrev after : ThreadWorld T P
  after = world closed line (Sleeps 0) true

  abbrev events : List (ThreadEvent T P)
  events = Does 0 Joins ∷ Does 0 AsksForLead ∷ Does 0 ListsItself ∷ Makes call.Close ∷ []

  unused : IsUnused before
  unused = (
    good [] 0 (search rules) (All-nil (λ (a : ℕ × ℕ). a.0 < 0)) (omega arith),
    refl,
    refl,
    All-cons (λ (thread : Thread). thread.phase ≡ Outside) _ [] refl (All-nil (λ (thread : Thread). thread.phase ≡ Outside)),
  )

  good_after : IsGood (empty ((0, 7) ∷ []) 1)
  good_after = good ((0, 7) ∷ []) 1 (search rules) (All-cons (λ (a : ℕ × ℕ). a.0 < 1) (0, 7) [] (omega arith) (All-nil (λ (a : ℕ × ℕ). a.0 < 1))) (omega arith)

  leads : (cmp : P → P → Ordering) → LeadsTo cmp before events after
  leads cmp = (
    _,
    (_, refl, (refl, inl (refl, refl), refl)),
    (
      _,
      (_, refl, (0, refl, inl ((7, refl), refl))),
      (
        asleep,
        (_, refl, (0, refl, ((0, 7), refl, (inl refl, refl), ((7, refl, (refl, refl)), refl), refl, good_after, refl))),
        (
          after,
          (
            λ ticket given. absurd (cc),
            answer.Close true,
            record { room = []; message = (0, 7) ∷ [] },
            record { moves = (refl, (refl, refl)); good = good_closed },
            refl,
          ),
          refl,
        ),
      ),
    ),
  )

  pub occurs : (cmp : P → P → Ordering)
      → (start : ThreadWorld T P) × (world : ThreadWorld T P) × (events : List (ThreadEvent T P)) × IsUnused start × LeadsTo cmp start events world
      × (thread : Thread) × (slice_get world.threads 0 ≡ Some thread) × (thread.phase ≡ Sleeps 0) × CanGoOn world.state world.side
  occurs cmp = (before, after, events, unused, leads cmp, _, refl, refl, inl (refl, refl))
