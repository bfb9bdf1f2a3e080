-- Each waiting list stays as it was, or all of its waiters are woken.
use Rattle.std.proofs.Common.{◌≡◌, ℕ, ◌⊎◌, Bool, true, false, if◌then◌else◌, List, [], refl, sym, subst, inl, inr}
use Rattle.priority_channel_core.specs.Prelude.{State, Handed, Change, Does, moved, wakes_senders, wakes_receivers, Moves, Calls, Answers, Ordering, Side, Room, Message}
use Rattle.priority_channel_core.specs.laws.Direct.{IsDirect}
use Rattle.priority_channel_core.proofs.runs.Changes.{changed}

abbrev pub handed_of : {W : Type 0} → Side → Handed W → List (ℕ × W)
handed_of Room handed = handed.room
handed_of Message handed = handed.message

-- a list that stayed, or whose waiters were all woken
abbrev pub StaysOrLeaves : {W : Type 0} → List (ℕ × W) → List (ℕ × W) → List (ℕ × W) → Type 0
StaysOrLeaves old out new = ((new ≡ old) × (out ≡ [])) ⊎ ((new ≡ []) × (out ≡ old))

module _ {T P W : Type 0} (old new : State T P W) (handed : Handed W) where
  pub record Hands : Type 0 where
    pub room : StaysOrLeaves old.waiters.room handed.room new.waiters.room
    pub message : StaysOrLeaves old.waiters.message handed.message new.waiters.message
    pub next : new.waiters.next_ticket ≡ old.waiters.next_ticket

  either : (b : Bool) (list : List (ℕ × W)) → StaysOrLeaves list (if b then list else []) (if b then [] else list)
  either true list = inr (refl, refl)
  either false list = inl (refl, refl)

  lists_stay : (by : Change T P) → ((ticket : ℕ) → by ≡ Change.Unlists ticket → ⊥) → (moved old by).waiters ≡ old.waiters
  lists_stay (Change.Counts Room n) listed = refl
  lists_stay (Change.Counts Message n) listed = refl
  lists_stay (Change.Unlists ticket) listed = absurd (listed ticket refl)
  lists_stay by listed = refl

  hands_by : (by : Change T P) → Does old handed new by → ((ticket : ℕ) → by ≡ Change.Unlists ticket → ⊥) → Hands
  hands_by by (woken, is) listed = rw (woken, is, lists_stay by listed)
      (record { room = either (wakes_senders old by) old.waiters.room; message = either (wakes_receivers old by) old.waiters.message; next = refl })

pub hands : {T P W : Type 0} (old new : State T P W) (handed : Handed W) (cmp : P → P → Ordering) (is_clone : W → W → Type 0) (made : Calls T P W) (reply : Answers T P)
    → IsDirect made → Moves cmp is_clone old made reply handed new → Hands old new handed
hands {T} {P} {W} old new handed cmp is_clone made reply direct h =
    let shown = changed cmp is_clone old new handed made reply h in
    subst (λ (s : State T P W). Hands old s handed) (sym (shown.direct direct))
    (hands_by old shown.mid handed shown.by shown.does (λ ticket is. (rw is at shown.fits).0 direct))
