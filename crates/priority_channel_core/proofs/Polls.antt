-- Polls, by what their try left and how they ended.
use Rattle.priority_channel_core.proofs.items.Digits.{digits-mono}
use Rattle.std.proofs.Common.{◌≡◌, ℕ, ◌*◌, ◌≤◌, ◌⊎◌, true, false, List, [], length, refl, arith, Ok, Err, Option, None, Some, IfSome, IfErr}
use Rattle.priority_channel_core.specs.Prelude.{Ready, Pending, Side, Room, Full, Closed, Memory, rest_of, is_given_listed, unlist, search_bound, State, Handed, room, IsGood, AddsFront, Sends, Says, send_answer, recv_answer, Ends, CountedState, ComparesAtMost, IsBlocked, kept_by, waits_under, PollsFront, SameReply, SamePoll, Performs, Ordering, SendReply, RecvReply, SendPoll, RecvPoll, Does, Call, Answer, SendFault}
use Rattle.priority_channel_core.specs.bag.Prelude.{digits}

-- what holds of each answer to a poll of a send, with the reply and the ticket that it is made from
pub send_answers : {K : Type 0} (Q : SendReply K → Option ℕ → SendPoll K → Type 0)
    → ((done : Unit {0}) → Q (Ok done) None (Ready (Ok done))) → ((rest : K) → Q (Err (Closed rest)) None (Ready (Err (SendFault.Closed (record { 0 = rest })))))
    → ((rest : K) → Q (Err (Memory rest)) None (Ready (Err (SendFault.Memory rest)))) → ((rest : K) → Q (Err (Full rest)) None (Ready (Err (SendFault.Memory rest))))
    → ((rest : K) (ticket : ℕ) → Q (Err (Full rest)) (Some ticket) (Pending rest ticket))
    → (reply : SendReply K) (listed : Option ℕ) (poll : SendPoll K) → send_answer reply listed ≡ Some poll → Q reply listed poll
send_answers Q done closed memory refused waits (Ok sent) None poll h = let e : poll ≡ Ready (Ok sent) = cc in rw e (done sent)
send_answers Q done closed memory refused waits (Err (Closed rest)) None poll h = let e : poll ≡ Ready (Err (SendFault.Closed (record { 0 = rest }))) = cc in rw e (closed rest)
send_answers Q done closed memory refused waits (Err (Memory rest)) None poll h = let e : poll ≡ Ready (Err (SendFault.Memory rest)) = cc in rw e (memory rest)
send_answers Q done closed memory refused waits (Err (Full rest)) None poll h = let e : poll ≡ Ready (Err (SendFault.Memory rest)) = cc in rw e (refused rest)
send_answers Q done closed memory refused waits (Err (Full rest)) (Some ticket) poll h = let e : poll ≡ Pending rest ticket = cc in rw e (waits rest ticket)
send_answers Q done closed memory refused waits reply (Some ticket) poll h = absurd (cc)

-- a caller that is answered no longer waits, and a caller that waits has a ticket
pub send_waits_under : {K : Type 0} (reply : SendReply K) (listed : Option ℕ) (poll : SendPoll K)
    → send_answer reply listed ≡ Some poll → listed ≡ waits_under poll
send_waits_under reply listed poll h = grind arith

pub recv_waits_under : {A : Type 0} (reply : RecvReply A) (listed : Option ℕ) (poll : RecvPoll A)
    → recv_answer reply listed ≡ Some poll → listed ≡ waits_under poll
recv_waits_under reply listed poll h = grind arith

pub kept_callable : {M : Type 0} (can : M → Type 0) (reply : SendReply M) (listed : Option ℕ) (poll : SendPoll M)
    → IfErr reply (λ error. can (rest_of error)) → send_answer reply listed ≡ Some poll → IfSome (kept_by poll) can
kept_callable can reply listed poll h is = grind arith

-- if nothing changes except that a ticket is given up, a poll ends without a ticket
pub ends_unlisted : {T P W : Type 0} (is_clone : W → W → Type 0) (side : Side) (given : Option ℕ) (waker : W) (mid new : State T P W)
    → new ≡ record mid { waiters = unlist given mid.waiters } → Ends is_clone side given waker None mid new
ends_unlisted is_clone side given waker mid new gone = grind arith

pub sent_searches_less : {T P W : Type 0} (old mid : State T P W) (front : List (T × P)) (handed : Handed W) → AddsFront old front handed mid
    → search_bound mid.waiters ≤ search_bound old.waiters
sent_searches_less old mid front handed adds = grind (arith, digits-mono)

pub received_searches_less : {T P W : Type 0} (cmp : P → P → Ordering) (old mid : State T P W) (reply : RecvReply (T × P)) (handed : Handed W)
    → Says cmp old mid.pending (Does old handed mid) Call.TryRecv (Answer.TryRecv reply) → search_bound mid.waiters ≤ search_bound old.waiters
received_searches_less cmp old mid reply handed received = grind (arith, digits-mono)

module _ {T P W : Type 0} (is_clone : W → W → Type 0) (old mid new : CountedState T P W) (given listed : Option ℕ) (waker : W) (front : List (T × P))
    (handed : Handed W) (adds : AddsFront old.state front handed mid.state) (ends : Ends is_clone Room given waker listed mid.state new.state) where
  -- a caller that waits changes nothing else
  pub poll_costs : (n : ℕ) → ComparesAtMost (n * digits (length mid.state.pending)) 0 old mid → ComparesAtMost 0 (search_bound mid.state.waiters) mid new
      → ComparesAtMost (n * digits (length new.state.pending)) (search_bound old.state.waiters) old new
  poll_costs n tried waited =
      let less = sent_searches_less old.state mid.state front handed adds in grind arith

  pub polls_front : (front ≡ []) ⊎ ((old.state.is_closed ≡ false) × (length front ≤ room old.state)) → ComparesAtMost (length front * digits (length mid.state.pending)) 0 old mid
      → ComparesAtMost 0 (search_bound mid.state.waiters) mid new
      → (f : List (T × P)) × PollsFront is_clone old.state given waker f handed new.state
      × ComparesAtMost (length f * digits (length new.state.pending)) (search_bound old.state.waiters) old new
  polls_front accepts tried waited =
      (front, record { ticket = listed; mid = mid.state; accepts = accepts; adds = adds; ends = ends }, poll_costs (length front) tried waited)

module _ {T P M : Type 0} (holds : M → List (T × P) → Type 0) where
  -- the same reply and the same ticket make the same answer
  pub same_answer : (reply : SendReply M) (told : SendReply (List (T × P))) (listed : Option ℕ)
      (poll : SendPoll M) → SameReply holds reply told → send_answer reply listed ≡ Some poll
      → (p : SendPoll (List (T × P))) × (send_answer told listed ≡ Some p) × SamePoll holds poll p
  same_answer (Ok done) told None poll same is = (Ready (Ok tt), grind arith, grind arith)
  same_answer (Err (Closed rest)) told None poll same is = (Ready (Err (SendFault.Closed (record { 0 = same.0 }))), grind arith, grind arith)
  same_answer (Err (Memory rest)) told None poll same is = (Ready (Err (SendFault.Memory same.0)), grind arith, grind arith)
  same_answer (Err (Full rest)) told None poll same is = (Ready (Err (SendFault.Memory same.0)), grind arith, grind arith)
  same_answer (Err (Full rest)) told (Some ticket) poll same is = (Pending same.0 ticket, grind arith, grind arith)
  same_answer reply told (Some ticket) poll same is = absurd (cc)

  -- a try of a bulk send and then the end of its poll are a poll, for every list that the iterator
  -- has
  pub performs_poll : {W : Type 0} (is_clone : W → W → Type 0) (cmp : P → P → Ordering) (old mid new : State T P W) (handed : Handed W) (m : M) (given listed : Option ℕ) (waker : W)
      (reply : SendReply M) (poll : SendPoll M)
      → Performs holds cmp is_clone old (Call.TrySendv m) (Answer.TrySendv reply) handed mid
      → send_answer reply listed ≡ Some poll → Ends is_clone Room given waker listed mid new → IsGood new
      → Performs holds cmp is_clone old (Call.PollSendv m given waker) (Answer.PollSendv poll) handed new
  performs_poll is_clone cmp old mid new handed m given listed waker reply poll tried answers ends good = record {
    at = λ meant same.
        let k = tried.at (Call.TrySendv same.0) (same.0, refl, same.2) in
        let p = same_answer reply k.1.0 listed poll k.1.2 answers in
        let tries : Sends old (Does old handed mid) same.0 k.1.0 = rw k.1.1 at k.2.moves in (
          Answer.PollSendv p.0,
          (p.0, refl, p.2),
          rw same.1 (record {
            moves = record { reply = k.1.0; ticket = listed; mid = mid; tried = tries; answered = p.1; ends = ends };
            good = good;
          }),
        );
  }

pub listed_for_room : {T P W : Type 0} (s : State T P W) → IsGood s → (given : Option ℕ) → is_given_listed given s.waiters.room ≡ true → IsBlocked Room s
listed_for_room s good given listed = grind arith
