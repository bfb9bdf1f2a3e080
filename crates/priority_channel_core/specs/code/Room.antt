-- What a caller may know of a channel before it sends.
use Rattle.std.specs.Prelude.{◌≡◌, ◌+◌, ◌<◌, ◌^◌, true, false, List, ◌∷◌, ◌++◌, length}
use Rattle.std.specs.declared.cmp.Ordering.{Ordering}
use Rattle.std.specs.declared.cmp.Ordering.TheVariants.{Less}
use Rattle.priority_channel_core.specs.machine.State.{State}

module _ {T P W : Type 0} where
  abbrev pub HasRoom : State T P W → Type 0
  HasRoom s = (s.is_closed ≡ false) × (length s.pending + s.held < s.capacity)

  abbrev pub IsFull : State T P W → Type 0
  IsFull s = (s.is_closed ≡ false) × (length s.pending + s.held ≡ s.capacity)

  abbrev pub HasNumber : State T P W → Type 0
  HasNumber s = s.accepted + s.held + 1 < 2 ^ 64

  abbrev pub HasMemory : State T P W → Type 0
  HasMemory s = (s.is_reserved ≡ true) × HasNumber s

pub record SomeBelow {T P : Type 0} (cmp : P → P → Ordering) (pending : List (T × P))
    (priority : P) : Type 0 where
  pub pair : T × P
  pub before : List (T × P)
  pub after : List (T × P)
  pub stands : pending ≡ before ++ pair ∷ after
  pub less : cmp pair.1 priority ≡ Less
