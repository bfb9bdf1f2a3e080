-- Which calls may be made: a drop must find a handle to drop.
use Rattle.std.specs.Prelude.{◌≡◌, ℕ, ◌+◌, ◌-◌, ◌<◌, ◌≤◌, ◌^◌, ◌⊎◌, Bool, true, false, if◌then◌else◌, List, [], ◌∷◌, ⊤, count_by}
use Rattle.std.specs.List.{list_any}
use Rattle.priority_channel_core.specs.Types.{Call}
use Rattle.priority_channel_core.specs.declared.calls.Call.TheVariants.{CloneSender, CloneReceiver, DropSender, DropReceiver}
use Rattle.priority_channel_core.specs.machine.State.{State}

abbrev pub IsAllowed : {T P W M F : Type 0} → State T P W → Call T P W M F → Type 0
IsAllowed s DropSender = 0 < s.sender_count
IsAllowed s DropReceiver = 0 < s.receiver_count
IsAllowed s made = ⊤

module _ {T P W M F : Type 0} where
  abbrev pub is_sender_clone : Call T P W M F → Bool
  is_sender_clone CloneSender = true
  is_sender_clone made = false

  abbrev pub is_sender_drop : Call T P W M F → Bool
  is_sender_drop DropSender = true
  is_sender_drop made = false

  abbrev pub is_receiver_clone : Call T P W M F → Bool
  is_receiver_clone CloneReceiver = true
  is_receiver_clone made = false

  abbrev pub is_receiver_drop : Call T P W M F → Bool
  is_receiver_drop DropReceiver = true
  is_receiver_drop made = false

module _ {C : Type 0} (is_clone is_drop : C → Bool) where
  -- the count after this call, if no clone is refused
  abbrev pub count_after : ℕ → C → ℕ
  count_after count made =
      if is_clone made then count + 1 else if is_drop made then count - 1 else count

  -- as asked, or not at all if a clone was refused
  abbrev pub ChangesCount : ℕ → C → ℕ → Type 0
  ChangesCount old made new =
      (new ≡ count_after old made) ⊎ ((2 ^ 63 ≤ old) × (new ≡ old) × (is_clone made ≡ true))

  -- a drop finds a handle in each prefix of the calls
  abbrev pub DropsFindHandles : ℕ → List C → Type 0
  DropsFindHandles count [] = ⊤
  DropsFindHandles count (made ∷ calls) =
      (is_drop made ≡ true → 0 < count) × DropsFindHandles (count_after count made) calls

  -- and, if there is a drop, no clone is refused
  pub record AllowsSide (count : ℕ) (calls : List C) : Type 0 where
    pub drops : DropsFindHandles count calls
    pub clones : list_any is_drop calls ≡ true → count + count_by is_clone calls < 2 ^ 63

module _ {T P W M F : Type 0} where
  pub record ChangesHandles (old : State T P W) (made : Call T P W M F)
      (new : State T P W) : Type 0 where
    pub senders : ChangesCount is_sender_clone is_sender_drop old.sender_count made new.sender_count
    pub receivers : ChangesCount is_receiver_clone is_receiver_drop old.receiver_count made
        new.receiver_count

  pub record AllowsRun (s : State T P W) (calls : List (Call T P W M F)) : Type 0 where
    pub senders : AllowsSide is_sender_clone is_sender_drop s.sender_count calls
    pub receivers : AllowsSide is_receiver_clone is_receiver_drop s.receiver_count calls
