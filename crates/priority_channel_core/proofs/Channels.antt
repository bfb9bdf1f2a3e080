-- The parts of a channel, after the loop of a bulk send has added a prefix to the bag and the word
-- has risen.
use Rattle.std.proofs.lemmas.Bool.Decides.{nat_tests}
use Rattle.std.proofs.Common.{◌≡◌, ℕ, ◌+◌, ◌-◌, ◌<◌, ◌≤◌, ◌^◌, ◌⊎◌, Bool, true, false, not, List, [], ◌++◌, length, refl, ap, arith, length-append, ◌==◌, if◌then◌else◌}
use Rattle.priority_channel_core.specs.Prelude.{State, Handed, nobody, after, AddsFront, Word, HasOwnTickets, state_of, IsSound}
use Rattle.priority_channel_core.specs.machine.Change.{Adds}
use Rattle.priority_channel_core.specs.bag.Prelude.{Contents}

module _ {T P W : Type 0} (bag bag' : Contents T P) (word word' : Word W) (handed : Handed W) (capacity : ℕ) (is_reserved : Bool)
    (senders receivers n : ℕ) (front : List (T × P)) (long : length front ≡ n)
    (pending : bag'.pending ≡ bag.pending ++ front) (accepted : bag'.accepted ≡ bag.accepted + n)
    (handed_is : handed ≡ (if n == 0 then nobody else record { room = []; message = word.waiters.message }))
    (risen : word' ≡ record word { count = word.count + n; waiters = record word.waiters { message = if n == 0 then word.waiters.message else [] } }) where
  abbrev Old : State T P W
  Old = state_of bag word capacity is_reserved senders receivers

  abbrev New : State T P W
  New = state_of bag' word' capacity is_reserved senders receivers

  woken_by : (none : Bool) → (if none then nobody else record { room = []; message = word.waiters.message })
      ≡ record { room = []; message = if not none then word.waiters.message else [] }
  woken_by true = refl
  woken_by false = refl

  left_by : (none : Bool) → (if none then word.waiters.message else []) ≡ (if not none then [] else word.waiters.message)
  left_by true = refl
  left_by false = refl

  pub adds : AddsFront Old front handed New
  adds = rw (pending, accepted, risen, handed_is, ← long) (
    woken_by (length front == 0),
    ap (λ (l : List (ℕ × W)). record (after Old (Adds front)) { waiters = record word.waiters { message = l } }) (left_by (length front == 0)),
  )

  pub sound_adds : IsSound bag word Old → word.is_closed ≡ false → n ≤ capacity - (length bag.pending + word.held) → bag.slots ≤ bag'.slots
      → length bag'.pending + word.held ≤ bag'.slots
      → length bag'.pending + word.held < 2 ^ 63 → bag'.accepted + word.held < 2 ^ 64 → HasOwnTickets word'.waiters → IsSound bag' word' New
  sound_adds sound opened within grown kept limit fits orderly =
      let a = adds in grind (arith, length-append, nat_tests)

  pub refused_in_channel : IsSound bag word Old → n < capacity - (length bag.pending + word.held) → bag.slots ≤ bag'.slots → bag'.accepted + word.held < 2 ^ 64
      → (bag'.accepted + word.held + 1 < 2 ^ 64 → bag'.slots ≤ length bag'.pending + word.held) → (is_reserved ≡ false) ⊎ (bag.accepted + word.held + n ≡ 2 ^ 64 - 1)
  refused_in_channel sound within grown fits full = grind (arith, length-append)
