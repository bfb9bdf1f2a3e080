-- The calls of a wait.
use Rattle.std.proofs.Common.{◌≡◌, ℕ, Bool, List, [], ◌∷◌, ◌++◌, refl, sym, subst, arith, append_assoc, ◌∙◌, Option, Some, None, ◌<◌, Result, Ok, Err, IfOk, IfErr, IfSome, inr}
use Rattle.priority_channel_core.specs.Prelude.{Handed, Ordering}
use Rattle.priority_channel_calls.specs.Told.{Told}
use Rattle.std.specs.declared.convert.Infallible.{Infallible}
use Rattle.priority_channel_core.specs.declared.calls.CorePoll.{CorePoll}
use Rattle.priority_channel_core.specs.declared.calls.CorePoll.TheVariants.{Ready, Pending}
use Rattle.priority_channel_waiting.specs.declared.timeouts.Ended.{Ended}
use Rattle.priority_channel_waiting.specs.declared.timeouts.Ended.TheVariants as ended
use Rattle.priority_channel_waiting.specs.Holding.{left_after}
use Rattle.priority_channel_waiting.specs.Ends.{OnOver}
use Rattle.priority_channel_waiting.specs.Waits.{given_back, left_over, left_at_end, outcome_of_end}
use Rattle.priority_channel_waiting.specs.declared.retry.Outcome.{Outcome}
use Rattle.priority_channel_waiting.specs.declared.retry.Outcome.TheVariants.{Blocked, Memory}
use Rattle.priority_channel_witnessed.specs.declared.chronicle.Entry.{Entry}
use Rattle.priority_channel_witnessed.specs.History.{entry}
use Rattle.priority_channel_witnessed.specs.Passes.{Carried, IsTold, Tells}
use Rattle.priority_channel_witnessed.specs.Waits.{listed_as, Ending, ends, left, IsCall, tries, polls, polled_to, MayPoll, Tried, Underway, ComesTo, Gives, at_last, before, gave_up}

pub may_poll : {D L : Type 0} (reply : CorePoll (Result D (Ended L Infallible)) L) → MayPoll (polled_to reply)
may_poll (Ready (Ok done)) = tt
may_poll (Ready (Err (ended.Over rest never))) = elim never [ ]
may_poll (Ready (Err (ended.Closed rest))) = tt
may_poll (Ready (Err (ended.Memory rest))) = tt
may_poll (Pending rest at) = tt

module _ {T P W : Type 0} (cmp : P → P → Ordering) (is_clone : W → W → Type 0) (capacity : ℕ) (is_reserved : Bool) {C S D L : Type 0} (told : C → S → Told T P W) (says : S → Outcome D L)
    (polled : C → Option ℕ → W → Ending D L → Told T P W) where
  -- a call was tried, and told this
  abbrev pub Attempts : Carried T P W → C → Outcome D L → Carried T P W → Type 0
  Attempts old own outcome new = (reply : S) × (handed : Handed W) × Tells cmp is_clone capacity is_reserved old (told own reply) handed new × (says reply ≡ outcome)

  tried_to : (own : C) (reply : S) (outcome : Outcome D L) (ending : Ending D L) → says reply ≡ outcome → Tried outcome ending
      → IsCall told says polled own None (told own reply) ending
  tried_to own reply outcome ending is tried = tries reply refl refl (subst (λ o. Tried o ending) (sym is) tried)

  module _ (call_of : L → C) where
    -- a try that ends the wait
    pub tried_last : (old new : Carried T P W) (own : C) (outcome end : Outcome D L) → Attempts old own outcome new → Tried outcome (ends end)
        → ComesTo cmp is_clone capacity is_reserved call_of (IsCall told says polled) old own None (ends end) new
    tried_last old new own outcome end attempt tried = at_last attempt.2 (tried_to own attempt.0 outcome (ends end) attempt.3 tried)

    -- one after which it goes on
    pub tried_first : (old mid new : Carried T P W) (own : C) (outcome : Outcome D L) (rest : L) (ending : Ending D L) → Attempts old own outcome mid → outcome ≡ Blocked rest
        → ComesTo cmp is_clone capacity is_reserved call_of (IsCall told says polled) mid (call_of rest) None ending new
        → ComesTo cmp is_clone capacity is_reserved call_of (IsCall told says polled) old own None ending new
    tried_first old mid new own outcome rest ending attempt blocked more =
        before attempt.2 (tried_to own attempt.0 outcome (left rest None) attempt.3 (blocked, refl)) more

    -- a try that was blocked, of a wait for which memory is refused
    pub refused_last : (old new : Carried T P W) (own : C) (outcome : Outcome D L) (rest : L) → Attempts old own outcome new → outcome ≡ Blocked rest
        → ComesTo cmp is_clone capacity is_reserved call_of (IsCall told says polled) old own None (ends (Memory rest)) new
    refused_last old new own outcome rest attempt blocked = tried_last old new own outcome (Memory rest) attempt (inr (rest, blocked, refl))

    module _ (old new : Carried T P W) (own : C) (ticket : Option ℕ) (waker : W) (handed : Handed W) where
      -- a poll that answers ends the wait
      pub polled_last : (reply : CorePoll (Result D (Ended L Infallible)) L) → Tells cmp is_clone capacity is_reserved old (polled own ticket waker (polled_to reply)) handed new
          → IfOk (listed_as reply)
          (λ answer. ComesTo cmp is_clone capacity is_reserved call_of (IsCall told says polled) old own ticket (ends (outcome_of_end answer)) new)
      polled_last (Ready answer) tells = at_last tells (polls waker refl (may_poll (Ready answer)))
      polled_last (Pending rest at) tells = tt

      -- and one that lists is a call of it
      pub polled_first : (can : C → Type 0) (leaves : L → Type 0) (reply : CorePoll (Result D (Ended L Infallible)) L) → Tells cmp is_clone capacity is_reserved old (polled own ticket waker (polled_to reply)) handed new
          → IfSome (left_after left_at_end reply) (λ rest. can (call_of rest) × leaves rest)
          → IfErr (listed_as reply) (λ rest. can (call_of rest.0) × ((made : Told T P W) × (h : Handed W) × Tells cmp is_clone capacity is_reserved old made h new
          × IsCall told says polled own ticket made (left rest.0 (Some rest.1))))
      polled_first can leaves (Ready answer) tells rest = tt
      polled_first can leaves (Pending rest at) tells gives = (gives.0, (polled own ticket waker (left rest (Some at)), handed, tells, polls waker refl tt))

-- what is left of the last try of a wait whose time is over is left at its end
module _ {D L O : Type 0} (can then now : L → Type 0) (over : O → Type 0) where
  pub left_at_last : (last : Outcome D L) (evidence : O) (result : Result D (Ended L O)) → last ≡ outcome_of_end result
      → IfSome (left_over last) (λ rest. can rest × then rest) → ((rest : L) → then rest → now rest)
      → IfErr result (λ ended. OnOver ended (λ e. e ≡ evidence)) → over evidence
      → IfErr result (λ ended. can (given_back ended) × now (given_back ended) × OnOver ended over)
  left_at_last last evidence (Ok done) told rest later of come = tt
  left_at_last last evidence (Err (ended.Over held e)) told rest later of come = let k = rw told at rest in (k.0, later held k.1, rw of come)
  left_at_last last evidence (Err (ended.Closed held)) told rest later of come = let k = rw told at rest in (k.0, later held k.1, tt)
  left_at_last last evidence (Err (ended.Memory held)) told rest later of come = let k = rw told at rest in (k.0, later held k.1, tt)

-- what a future gives, where it holds this
module _ {T P W : Type 0} (cmp : P → P → Ordering) (is_clone : W → W → Type 0) (capacity : ℕ) (is_reserved : Bool) {C D L : Type 0} (call_of : L → C)
    (is_call : C → Option ℕ → Told T P W → Ending D L → Type 0) (future : Underway (Carried T P W) C) (pass : Carried T P W) (own : C) where
  pub gives_of : (given : Result D (Ended L Infallible) × Carried T P W) → future.holds ≡ Some (pass, own)
      → ComesTo cmp is_clone capacity is_reserved call_of is_call pass own future.ticket (ends (outcome_of_end given.0)) given.1
      → Gives cmp is_clone capacity is_reserved call_of is_call future given
  gives_of given is comes = rw is comes

pub if_held : {A : Type 0} (held : Option A) (x : A) (P : A → Type 0) → held ≡ Some x → P x → IfSome held P
if_held held x P is so = rw is so

-- what is told after a call is told from before it
module _ {T P W : Type 0} (cmp : P → P → Ordering) (is_clone : W → W → Type 0) (capacity : ℕ) (is_reserved : Bool) (old mid new : Carried T P W) where
  told_later : (made last_made : Told T P W) (handed last_handed : Handed W)
      → Tells cmp is_clone capacity is_reserved old made handed mid
      → IsTold cmp is_clone capacity is_reserved mid (entry mid.number last_made last_handed) new
      → IsTold cmp is_clone capacity is_reserved old (entry old.number last_made last_handed) new
  told_later made last_made handed last_handed first told =
      let number = first.number in
      let own : List (Entry T P W) = entry old.number made handed ∷ [] in
      let between = first.told.between ++ own in
      let begun : mid.seen ≡ old.seen ++ between = first.told.seen ∙ append_assoc old.seen first.told.between own in
      record {
        between = between ++ told.between;
        seen = let whole = told.seen in let assoc = append_assoc old.seen between told.between in cc;
        legal = told.legal;
        counted = told.counted;
      }

module _ {T P W : Type 0} (cmp : P → P → Ordering) (is_clone : W → W → Type 0) (capacity : ℕ) (is_reserved : Bool) {C D L : Type 0} (call_of : L → C)
    (is_call : C → Option ℕ → Told T P W → Ending D L → Type 0) where
  abbrev LastTold : Carried T P W → Ending D L → Carried T P W → Type 0
  LastTold old ending new =
      (own : C) × (ticket : Option ℕ) × (made : Told T P W) × (handed : Handed W)
      × IsTold cmp is_clone capacity is_reserved old (entry old.number made handed) new × is_call own ticket made ending

  later_told : {old mid new : Carried T P W} {ending : Ending D L} {made : Told T P W} {handed : Handed W} → Tells cmp is_clone capacity is_reserved old made handed mid
      → (new.number ≡ mid.number) × (mid.count < new.count) × LastTold mid ending new → (new.number ≡ old.number) × (old.count < new.count) × LastTold old ending new
  later_told {old = old} {mid = mid} {new = new} {made = made} {handed = handed} tells later =
      let last = later.2 in (
        later.0 ∙ tells.number,
        omega (arith, tells.counted, later.1),
        (last.0, last.1, last.2, last.3, told_later cmp is_clone capacity is_reserved old mid new made last.2 handed last.3 tells last.4, last.5),
      )

  -- a wait has made a call or more, and the pass was told of the last
  pub last_told : {old new : Carried T P W} {own : C} {ticket : Option ℕ} {ending : Ending D L} → ComesTo cmp is_clone capacity is_reserved call_of is_call old own ticket ending new
      → (new.number ≡ old.number) × (old.count < new.count) × LastTold old ending new
  last_told (at_last {own = own} {ticket = ticket} tells is) = (tells.number, omega (arith, tells.counted), (own, ticket, _, _, tells.told, is))
  last_told (before tells is more) = later_told tells (last_told more)
  last_told (gave_up tells more) = later_told tells (last_told more)
