-- The same change of two states that are the same.
use Rattle.std.proofs.Common.{◌≡◌, ℕ, Bool, true, false, List, [], refl, ap, Some, ◌||◌, if◌then◌else◌}
use Rattle.priority_channel_core.specs.Prelude.{State, Handed, Change, Does, after, woken, moved, shuts, wakes_senders, wakes_receivers, is_done, Room, Message}
use Rattle.priority_channel_core.specs.laws.Alike.{SameHanded, SameWaiters, SameState}
use Rattle.priority_channel_core.proofs.alike.Lists.{SameList, same_unlist, same_pending, same_held, same_ends, same_closed}

module _ {T P W : Type 0} (is_clone : W → W → Type 0) where
  pub record Both (h h' : Handed W) (k k' : State T P W) : Type 0 where
    pub handed : SameHanded is_clone h h'
    pub state : SameState is_clone k k'

  module _ (s r : State T P W) (same : SameState is_clone s r) where
    gives : (b : Bool) (x y : List (ℕ × W)) → SameList is_clone x y → SameList is_clone (if b then x else []) (if b then y else [])
    gives true x y lists = lists
    gives false x y lists = tt

    keeps : (b : Bool) (x y : List (ℕ × W)) → SameList is_clone x y → SameList is_clone (if b then [] else x) (if b then [] else y)
    keeps true x y lists = tt
    keeps false x y lists = lists

    dones : is_done r ≡ is_done s
    dones = rw (same_pending is_clone same, same_held is_clone same) refl

    shuts_same : (c : Change T P) → shuts r c ≡ shuts s c
    shuts_same Change.Marks = dones
    shuts_same c = refl

    senders_same : (c : Change T P) → wakes_senders r c ≡ wakes_senders s c
    senders_same Change.Marks = dones
    senders_same c = refl

    receivers_same : (c : Change T P) → wakes_receivers r c ≡ wakes_receivers s c
    receivers_same Change.Marks = dones
    receivers_same Change.Frees = rw (same_closed is_clone same, same_ends is_clone same, same_pending is_clone same, same_held is_clone same) refl
    receivers_same c = refl

    lists_same : (c : Change T P) → SameWaiters is_clone (moved s c).waiters (moved r c).waiters
    lists_same (Change.Counts Room n) = same.waiters
    lists_same (Change.Counts Message n) = same.waiters
    lists_same (Change.Unlists ticket) = same_unlist is_clone (Some ticket) s.waiters r.waiters same.waiters
    lists_same c = same.waiters

    -- beside the lists a change does not depend on them
    moved_same : (c : Change T P) → moved r c ≡ record (moved s c) { waiters = (moved r c).waiters }
    moved_same (Change.Counts Room n) = ap (λ (x : State T P W). record (moved x (Change.Counts Room n)) { waiters = r.waiters }) same.others
    moved_same (Change.Counts Message n) = ap (λ (x : State T P W). record (moved x (Change.Counts Message n)) { waiters = r.waiters }) same.others
    moved_same c = ap (λ (x : State T P W). record (moved x c) { waiters = (moved r c).waiters }) same.others

    woken_same : (c : Change T P) → SameHanded is_clone (woken s c) (woken r c)
    woken_same c = rw (senders_same c, receivers_same c)
        (record { room = gives (wakes_senders s c) _ _ same.waiters.room; message = gives (wakes_receivers s c) _ _ same.waiters.message })

    after_same : (c : Change T P) → SameState is_clone (after s c) (after r c)
    after_same c =
        let lists = lists_same c in
        record {
          waiters = record {
            room = rw (senders_same c) (keeps (wakes_senders s c) _ _ lists.room);
            message = rw (receivers_same c) (keeps (wakes_receivers s c) _ _ lists.message);
            next_ticket = lists.next_ticket;
          };
          others = λ i. record (moved_same c i) { is_closed = shuts_same c i || (moved_same c i).is_closed; waiters = (after r c).waiters };
        }

    pub does_same : (k k' : State T P W) (h h' : Handed W) (c : Change T P) → Does s h k c → Does r h' k' c → Both h h' k k'
    does_same k k' h h' c a b =
        record { handed = rw (a.0, b.0) (woken_same c); state = rw (a.1, b.1) (after_same c) }
