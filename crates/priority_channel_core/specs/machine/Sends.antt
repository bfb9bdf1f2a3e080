-- Accepted and refused sends.
use Rattle.std.specs.Prelude.{◌≡◌, ◌+◌, ◌-◌, ◌<◌, ◌≤◌, ◌^◌, ◌⊎◌, true, false, List, [], ◌∷◌, ◌++◌, length, Option, Some, None, Result, Ok, Err}
use Rattle.std.specs.declared.cmp.Ordering.TheVariants.{Less}
use Rattle.priority_channel_core.specs.bag.Prelude.{TakesLeast, NoneBelow}
use Rattle.priority_channel_core.specs.Types.{Ordering, TrySendError, Full, Closed, Memory, SendReply}
use Rattle.priority_channel_core.specs.machine.State.{State, room}
use Rattle.priority_channel_core.specs.machine.Change.{Change, Nothing, Adds, MakesWay}

-- one pair as a list
abbrev pub as_list : {A : Type 0} → SendReply A → SendReply (List A)
as_list (Ok done) = Ok done
as_list (Err (Closed pair)) = Err (Closed (pair ∷ []))
as_list (Err (Full pair)) = Err (Full (pair ∷ []))
as_list (Err (Memory pair)) = Err (Memory (pair ∷ []))

module _ {T P W : Type 0} (old : State T P W) (does : Change T P → Type 0) where
  abbrev Accepts : Change T P → Type 0
  Accepts change = (old.is_closed ≡ false) × does change

  -- `rest` comes back
  abbrev pub Sends : List (T × P) → SendReply (List (T × P)) → Type 0
  Sends pairs (Ok done) = (0 < room old) × (length pairs ≤ room old) × Accepts (Adds pairs)
  Sends pairs (Err (Closed rest)) = (old.is_closed ≡ true) × (rest ≡ pairs) × does Nothing
  Sends pairs (Err (Full rest)) =
      (front : List (T × P)) × (pairs ≡ front ++ rest) × (length front ≡ room old)
      × ((room old ≡ 0) ⊎ (0 < length rest)) × Accepts (Adds front)
  Sends pairs (Err (Memory rest)) =
      (front : List (T × P)) × (pairs ≡ front ++ rest) × (length front < room old)
      × (0 < length rest) × Accepts (Adds front)
      × ((old.is_reserved ≡ false) ⊎ (old.accepted + old.held + length front ≡ 2 ^ 64 - 1))

  -- the last of the least pairs makes way if it is less
  abbrev pub Evicts : (P → P → Ordering) → T × P → Result (Option (T × P)) (TrySendError (T × P))
      → Type 0
  Evicts cmp pair (Ok None) = Sends (pair ∷ []) (Ok tt)
  Evicts cmp pair (Ok (Some out)) =
      (left : List (T × P)) × (room old ≡ 0) × (cmp out.1 pair.1 ≡ Less)
      × TakesLeast cmp old.pending out left × Accepts (MakesWay left pair)
  Evicts cmp pair (Err (Closed held)) = Sends (pair ∷ []) (Err (Closed (held ∷ [])))
  Evicts cmp pair (Err (Full held)) =
      NoneBelow cmp old.pending pair.1 × Sends (pair ∷ []) (Err (Full (held ∷ [])))
  -- also full, with no number left
  Evicts cmp pair (Err (Memory held)) =
      Sends (pair ∷ []) (Err (Memory (held ∷ [])))
      ⊎ ((old.is_closed ≡ false) × (room old ≡ 0) × (old.accepted + old.held ≡ 2 ^ 64 - 1)
      × (held ≡ pair) × does Nothing)
