-- What a change of priority is in the channel.
use Rattle.std.proofs.Common.{◌≡◌, ℕ, Bool, length, length-append, refl, arith, Result, Ok, Err, IfOk, IfErr, OnErr}
use Rattle.priority_channel_core.specs.bag.Prelude.{Contents, Changes, PassesFirst}
use Rattle.priority_channel_core.specs.Prelude.{Word, State, nobody, Step, state_of, IsSound, Ordering, Call, Answer}

module _ {T P W : Type 0} (cmp : P → P → Ordering) (is_clone : W → W → Type 0) (bag after : Contents T P) (word : Word W) (capacity : ℕ) (is_reserved : Bool)
    (senders receivers : ℕ) (sound : IsSound bag word (state_of bag word capacity is_reserved senders receivers)) where
  abbrev Old : State T P W
  Old = state_of bag word capacity is_reserved senders receivers

  abbrev New : State T P W
  New = state_of after word capacity is_reserved senders receivers

  pub change_is_step : (passes fails : T × P → Type 0) (priority : P) (changed : Result P P)
      → IfOk changed (λ was. (change : Changes bag.pending was priority after.pending) × PassesFirst passes fails change)
      → IfErr changed (λ back. back ≡ priority) → OnErr changed (after ≡ bag) → after.accepted ≡ bag.accepted
      → (place : ℕ) × Step cmp is_clone Old (Call.ChangePriority place priority) (Answer.ChangePriority changed) nobody New
  change_is_step passes fails priority (Ok was) (change, first) back unchanged accepted =
      let long : length after.pending ≡ length bag.pending = grind (arith, length-append) in
      let good = sound.good in
      let is : New ≡ record Old { pending = after.pending } = λ i. record New { accepted = accepted i } in
      (length change.before, record { moves = (change, refl, (refl, is)); good = rw is (search arith) })
  change_is_step passes fails priority (Err given) changes back unchanged accepted =
      (length bag.pending, rw unchanged (record { moves = (omega arith, back, (refl, refl)); good = sound.good }))
