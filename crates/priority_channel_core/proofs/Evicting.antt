-- What a displacement is in the channel, and what it is to take out a pair that a test chooses.
use Rattle.std.proofs.Common.{◌≡◌, ℕ, ◌+◌, ◌-◌, ◌<◌, ◌^◌, Bool, false, List, [], ◌∷◌, length, sym, ap, subst, length-append, refl, arith, Some, Ok, is_lt}
use Rattle.std.proofs.lemmas.List.Elements.{recursion_from_All}
use Rattle.priority_channel_core.proofs.items.Kept.{every_part}
use Rattle.priority_channel_core.specs.bag.Prelude.{Contents, TakesOne, NoneBelow, Displaces}
use Rattle.priority_channel_core.specs.Prelude.{State, Handed, nobody, room, IsGood, Evicts, HasOwnTickets, SomeBelow, Ordering, Word, bit_at, state_of, IsSound, Does, Change}
use Rattle.priority_channel_core.proofs.Closing.{good_settled}

pub none_or_some : {T P : Type 0} (cmp : P → P → Ordering) (pending : List (T × P)) (priority : P) → SomeBelow cmp pending priority → NoneBelow cmp pending priority → ⊥
none_or_some {T} {P} cmp pending priority some none =
    let all = recursion_from_All (λ (other : T × P). is_lt (cmp other.1 priority) ≡ false) _ (rw some.stands at none) in
    let not_less = every_part (λ (other : T × P). is_lt (cmp other.1 priority) ≡ false) some.before (some.pair ∷ some.after) all in grind arith

pub one_below : {T P : Type 0} (cmp : P → P → Ordering) (pending new : List (T × P)) (pair out : T × P) → Displaces cmp pending pair out new → SomeBelow cmp pending pair.1
one_below cmp pending new pair out displaced = record {
  pair = out;
  before = displaced.least.before;
  after = displaced.least.after;
  stands = displaced.least.split;
  less = displaced.less;
}

module _ {T P W : Type 0} (cmp : P → P → Ordering) (old new : State T P W) (pair out : T × P) where
  pub evicts_displaced : IsGood old → old.is_closed ≡ false → room old ≡ 0 → Displaces cmp old.pending pair out new.pending
      → new ≡ record old { pending = new.pending; accepted = old.accepted + 1 } → old.accepted + old.held + 1 < 2 ^ 64 → Evicts old (Does old nobody new) cmp pair (Ok (Some out)) × IsGood new
  evicts_displaced good opened full displaced is fits =
      let long : length old.pending ≡ length displaced.rest + 1 = grind (arith, length-append) in (
        (displaced.rest, full, displaced.less, displaced.least, (opened, (grind arith, grind arith))),
        grind (arith, length-append),
      )

pub good_frees : {T P W : Type 0} (old new : State T P W) (handed : Handed W) → Does old handed new (Change.GoesOut new.pending) → (pair : T × P) → TakesOne old.pending pair new.pending → IsGood old → HasOwnTickets new.waiters → IsGood new
good_frees {T} {P} {W} old new handed frees pair taken good tickets =
    let long : length old.pending ≡ length new.pending + 1 = grind (arith, length-append) in
    subst (λ (s : State T P W). IsGood s) (sym frees.1)
    (good_settled old new.pending long good (subst (λ (s : State T P W). HasOwnTickets s.waiters) frees.1 tickets))

pub good_lends : {T P W : Type 0} (old new : State T P W) (pair : T × P) → TakesOne old.pending pair new.pending → IsGood old → old.accepted + old.held + 1 < 2 ^ 64
    → new ≡ record old { pending = new.pending; held = old.held + 1 } → HasOwnTickets new.waiters → IsGood new
good_lends old new pair taken good fits is tickets =
    let long : length old.pending ≡ length new.pending + 1 = grind (arith, length-append) in grind arith

-- one pair was taken out of the bag, and the word has fallen
module _ {T P W : Type 0} (bag bag' : Contents T P) (word word' : Word W) (handed : Handed W) (capacity : ℕ) (is_reserved : Bool) (senders receivers : ℕ) where
  abbrev Old : State T P W
  Old = state_of bag word capacity is_reserved senders receivers

  abbrev New : State T P W
  New = state_of bag' word' capacity is_reserved senders receivers

  pub frees_one : IsSound bag word Old → (pair : T × P) → TakesOne bag.pending pair bag'.pending → bag'.accepted ≡ bag.accepted
      → handed ≡ record { room = word.waiters.room; message = [] }
      → word' ≡ record word { is_closed = bit_at word (word.count - 1) word.held; count = word.count - 1; waiters = record word.waiters { room = [] } }
      → Does Old handed New (Change.GoesOut New.pending)
  frees_one sound pair taken accepted handed_is fallen =
      let same : word.count - 1 ≡ length bag'.pending = let counted = sound.counted in grind (arith, length-append) in
      (handed_is, rw (fallen, accepted, same) refl)

  pub sound_freed : IsSound bag word Old → (pair : T × P) → TakesOne bag.pending pair bag'.pending → bag'.accepted ≡ bag.accepted → bag'.slots ≡ bag.slots
      → handed ≡ record { room = word.waiters.room; message = [] }
      → word' ≡ record word { is_closed = bit_at word (word.count - 1) word.held; count = word.count - 1; waiters = record word.waiters { room = [] } }
      → HasOwnTickets word'.waiters → IsSound bag' word' New
  sound_freed sound pair taken accepted slots handed_is fallen tickets =
      let fewer : length bag.pending ≡ length bag'.pending + 1 = grind (arith, length-append) in
      let count = ap (λ (w : Word W). w.count) fallen in
      let held = ap (λ (w : Word W). w.held) fallen in
      record {
        counted = omega (arith, count, sound.counted, fewer);
        slots_held = omega (arith, held, slots, sound.slots_held, fewer);
        slots_kept = rw slots sound.slots_kept;
        good = good_frees Old New handed (frees_one sound pair taken accepted handed_is fallen) pair taken sound.good tickets;
      }
