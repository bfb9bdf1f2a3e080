-- A closed channel without waiters is good; and what is left if a channel may have ended.
use Rattle.std.proofs.Common.{◌≡◌, ℕ, ◌+◌, ◌≤◌, Bool, true, false, ◌&&◌, ◌||◌, ◌==◌, List, [], length, refl, ap, arith}
use Rattle.std.proofs.lemmas.Bool.Decides.{nat_tests}
use Rattle.priority_channel_core.specs.Prelude.{State, IsGood, HasOwnTickets, settled}

module _ {T P W : Type 0} where
  pub good_closed : (old new : State T P W) (senders receivers : ℕ)
      → new ≡ record old { is_closed = true; sender_count = senders; receiver_count = receivers; waiters = record old.waiters { room = []; message = [] } }
      → IsGood old → HasOwnTickets new.waiters → IsGood new
  good_closed old new senders receivers is good tickets = rw is (record {
    has_capacity = good.has_capacity;
    capacity_fits = good.capacity_fits;
    reserved_fits = good.reserved_fits;
    within_capacity = good.within_capacity;
    within_limit = good.within_limit;
    accepted_before = good.accepted_before;
    accepted_fits = good.accepted_fits;
    no_waiters_if_closed = λ _. (refl, λ _. refl);
    room_waiters_if_full = λ _. refl;
    message_waiters_if_empty = λ _. refl;
    tickets = rw is at tickets;
    tickets_fit = good.tickets_fit;
    closed_if_done = λ _ _. refl;
    closed_if_no_senders = λ _. refl;
    closed_if_no_receivers = λ _. refl;
  })

pub or_left : (b c : Bool) → b ≡ true → (b || c) ≡ true
or_left b c e = rw e refl

pub or_right : (b c : Bool) → c ≡ true → (b || c) ≡ true
or_right true c e = refl
or_right false c e = e

-- once it is closed it need not be closed again
once : (c e h : Bool) (m n : ℕ) → n ≤ m → ((c || (e && ((m == 0) && h))) || (e && ((n == 0) && h))) ≡ (c || (e && ((n == 0) && h)))
once true e h m n le = refl
once false false h m n le = refl
once false true h m n le = grind (arith, nat_tests)

module _ {T P W : Type 0} where
  pub settled_twice : (s : State T P W) (a b : List (T × P)) → length b ≤ length a
      → settled (record (settled (record s { pending = a })) { pending = b }) ≡ settled (record s { pending = b })
  settled_twice s a b le = ap (λ (c : Bool). record s { pending = b; is_closed = c }) (once s.is_closed s.ends_when_done (s.held == 0) (length a) (length b) le)

  pub settled_good : (s : State T P W) → IsGood s → settled s ≡ s
  settled_good s good =
      let same : (s.is_closed || (s.ends_when_done && ((length s.pending == 0) && (s.held == 0)))) ≡ s.is_closed =
      let done = good.closed_if_done in grind (arith, nat_tests) in
      ap (λ (c : Bool). record s { is_closed = c }) same

  -- one pair less
  pub good_settled : (s : State T P W) (rest : List (T × P)) → length s.pending ≡ length rest + 1 → IsGood s → HasOwnTickets (record s.waiters { room = [] })
      → IsGood (settled (record s { pending = rest; waiters = record s.waiters { room = [] } }))
  good_settled s rest long good tickets = record {
    has_capacity = good.has_capacity;
    capacity_fits = good.capacity_fits;
    reserved_fits = good.reserved_fits;
    within_capacity = omega (arith, good.within_capacity, long);
    within_limit = omega (arith, good.within_limit, long);
    accepted_before = omega (arith, good.accepted_before, long);
    accepted_fits = good.accepted_fits;
    no_waiters_if_closed = λ _. (refl, λ _. good.message_waiters_if_empty (omega (arith, long)));
    room_waiters_if_full = λ _. refl;
    message_waiters_if_empty = λ _. good.message_waiters_if_empty (omega (arith, long));
    tickets = tickets;
    tickets_fit = good.tickets_fit;
    closed_if_done = λ ends none. grind (arith, nat_tests);
    closed_if_no_senders = λ none. or_left _ _ (good.closed_if_no_senders none);
    closed_if_no_receivers = λ none. or_left _ _ (good.closed_if_no_receivers none);
  }
