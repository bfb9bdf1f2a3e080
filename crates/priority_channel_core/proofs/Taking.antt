-- What takings in a row do in the channel.
use Rattle.std.proofs.Common.{◌≡◌, ℕ, ◌+◌, ◌-◌, Bool, false, ◌&&◌, ◌||◌, ◌∙◌, ◌==◌, if◌then◌else◌, List, [], ◌∷◌, length, length-append, map, refl, sym, ap, subst, arith, Some}
use Rattle.std.proofs.lemmas.Bool.Decides.{nat_tests}
use Rattle.priority_channel_core.specs.bag.Prelude.{Contents, TakesOne, TakesAll}
use Rattle.priority_channel_core.specs.Prelude.{HasOwnTickets, State, Handed, nobody, IsGood, Step, Run, Placed, in_turn, takes, TakesInTurn, Ordering, Word, bit_at, settled, state_of, Does, Call, Answer, Change}
use Rattle.priority_channel_core.proofs.Closing.{settled_good, settled_twice}
use Rattle.priority_channel_core.proofs.Evicting.{good_frees}

module _ {T P : Type 0} where
  pub all_length : (pending pairs rest : List (T × P)) → TakesAll pending pairs rest → length pending ≡ length pairs + length rest
  all_length pending [] rest h = omega (arith, ap length h)
  all_length pending (pair ∷ more) rest h = let others = all_length h.0 more rest h.2 in grind (arith, length-append)

module _ {T P W : Type 0} where
  -- what is left, if as many were taken: none, or some
  abbrev pub fallen_if : State T P W → List (T × P) → Bool → State T P W
  fallen_if old rest none = record old {
    pending = rest;
    is_closed = if none then old.is_closed else (old.is_closed || (old.ends_when_done && ((length rest == 0) && (old.held == 0))));
    waiters = record old.waiters { room = if none then old.waiters.room else [] };
  }

  abbrev pub fallen : State T P W → List (T × P) → ℕ → State T P W
  fallen old rest n = fallen_if old rest (n == 0)

  pub retained : (bag bag' : Contents T P) (word word' : Word W) (capacity : ℕ) (is_reserved : Bool) (senders receivers n : ℕ)
      → word' ≡ record word {
        is_closed = if n == 0 then word.is_closed else bit_at word (word.count - n) word.held;
        count = word.count - n;
        waiters = record word.waiters { room = if n == 0 then word.waiters.room else [] };
      } → bag'.accepted ≡ bag.accepted → word.count - n ≡ length bag'.pending
      → state_of bag' word' capacity is_reserved senders receivers ≡ fallen (state_of bag word capacity is_reserved senders receivers) bag'.pending n
  retained bag bag' word word' capacity is_reserved senders receivers n falls accepted same = rw (falls, accepted, same) refl

module _ {T P W : Type 0} (cmp : P → P → Ordering) (is_clone : W → W → Type 0) where
  taking : (old mid : State T P W) (pair : T × P) (handed : Handed W) (one : TakesOne old.pending pair mid.pending) → Does old handed mid (Change.GoesOut mid.pending) → IsGood old
      → HasOwnTickets mid.waiters → Step cmp is_clone old (Call.TakeWhere (length one.before)) (Answer.TakeWhere (Some pair)) handed mid
  taking old mid pair handed one frees good tickets = record { moves = (one, refl, frees); good = good_frees old mid handed frees pair one good tickets }

  takings : (old : State T P W) (pairs rest : List (T × P)) → TakesAll old.pending pairs rest → old.waiters.room ≡ [] → IsGood old
      → (taken : List (Placed T P)) × (map (λ one. one.pair) taken ≡ pairs) × Run cmp is_clone old (in_turn takes taken nobody) (settled (record old { pending = rest }))
      × IsGood (settled (record old { pending = rest }))
  takings old [] rest h nobody_waits good =
      let same : settled (record old { pending = rest }) ≡ old = rw h (settled_good old good) in
      ([], refl, same, rw same good)
  takings old (pair ∷ more) rest h nobody_waits good =
      let mid : State T P W = settled (record old { pending = h.0 }) in
      let frees : Does old nobody mid (Change.GoesOut mid.pending) = (
        ap (λ (room : List (ℕ × W)). record { room = room; message = [] }) (sym nobody_waits),
        ap (λ (room : List (ℕ × W)). settled (record old { pending = h.0; waiters = record old.waiters { room = room } })) nobody_waits,
      ) in
      let step = taking old mid pair nobody h.1 frees good good.tickets in
      let rest_of = takings mid more rest h.2 nobody_waits step.good in
      let end = settled_twice old h.0 rest (let long = all_length h.0 more rest h.2 in omega (arith, long)) in (
        record { place = length h.1.before; pair = pair } ∷ rest_of.0,
        cc (rest_of.1),
        (mid, step, subst (λ (s : State T P W). Run cmp is_clone mid (in_turn takes rest_of.0 nobody) s) end rest_of.2),
        subst (λ (s : State T P W). IsGood s) end rest_of.3,
      )

  -- all waiting senders are woken by the first taking
  pub takes_in_turn : (old new : State T P W) (pairs : List (T × P)) (n : ℕ) (handed : Handed W) → n ≡ length pairs → TakesAll old.pending pairs new.pending
      → handed ≡ (if n == 0 then nobody else record { room = old.waiters.room; message = [] })
      → new ≡ fallen old new.pending n
      → IsGood old → HasOwnTickets new.waiters → TakesInTurn cmp is_clone old pairs handed new × IsGood new
  takes_in_turn old new [] n handed count h handed_is new_is good tickets =
      (([], refl, record { run = grind arith; nobody_for_none = λ _. grind arith }), grind arith)
  takes_in_turn old new (pair ∷ more) n handed count h handed_is new_is good tickets =
      let freed : State T P W = record old { waiters = record old.waiters { room = [] } } in
      let mid : State T P W = settled (record freed { pending = h.0 }) in
      let some : (n == 0) ≡ false = grind (arith, nat_tests) in
      let long = all_length h.0 more new.pending h.2 in
      let is : new ≡ settled (record freed { pending = new.pending }) = new_is ∙ ap (λ (b : Bool). fallen_if old new.pending b) some in
      let end : new ≡ settled (record mid { pending = new.pending }) = is ∙ sym (settled_twice freed h.0 new.pending (omega (arith, long))) in
      let frees : Does old handed mid (Change.GoesOut mid.pending) = (handed_is ∙ ap (λ (b : Bool). if b then nobody else record { room = old.waiters.room; message = [] }) some, refl) in
      let step = taking old mid pair handed h.1 frees good (subst (λ (s : State T P W). HasOwnTickets s.waiters) is tickets) in
      let rest_of = takings mid more new.pending h.2 refl step.good in
      let run = subst (λ (s : State T P W). Run cmp is_clone mid (in_turn takes rest_of.0 nobody) s) (sym end) rest_of.2 in (
        (
          record { place = length h.1.before; pair = pair } ∷ rest_of.0,
          cc (rest_of.1),
          record { run = (mid, step, run); nobody_for_none = λ none. cc },
        ),
        rw end rest_of.3,
      )
