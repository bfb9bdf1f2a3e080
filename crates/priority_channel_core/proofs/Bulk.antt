-- A bulk send of the code as a step, for every list that its iterator has.
use Rattle.std.proofs.Common.{◌≡◌, ℕ, ◌+◌, ◌-◌, ◌<◌, ◌≤◌, ◌^◌, ◌⊎◌, true, false, List, refl, arith, inr, ◌∙◌, append-nil, Ok, Err, Option}
use Rattle.std.specs.declared.iter.Ahead.{Ahead}
use Rattle.priority_channel_core.specs.Prelude.{Full, Closed, Memory, State, Handed, nobody, room, IsGood, Sends, HasList, HasMore, HasEnded, SendsFront, SameReply, Performs, Ordering, SendReply, Does, Call, Answer}
use Rattle.priority_channel_core.proofs.Sends.{refuses_full}

-- a reply is right for every list that m holds
pub record Replies {T P W M : Type 0} (holds : M → List (T × P) → Type 0) (old : State T P W) (m : M)
    (reply : SendReply M) (handed : Handed W) (new : State T P W) : Type 0 where
  pub at : (pairs : List (T × P)) → holds m pairs
      → (told : SendReply (List (T × P))) × SameReply holds reply told × Sends old (Does old handed new) pairs told

module _ {T P W M : Type 0} (holds : M → List (T × P) → Type 0) where
  pub performs_sendv : (cmp : P → P → Ordering) (is_clone : W → W → Type 0) (old new : State T P W) (m : M)
      (reply : SendReply M) (handed : Handed W) → IsGood new → Replies holds old m reply handed new
      → Performs holds cmp is_clone old (Call.TrySendv m) (Answer.TrySendv reply) handed new
  performs_sendv cmp is_clone old new m reply handed good replies = record {
    at = λ meant same.
        let k = replies.at same.0 same.2 in
        (Answer.TrySendv k.0, (k.0, refl, k.1), rw same.1 (record { moves = k.2; good = good }));
  }

  pub replies_closed : (s : State T P W) (m : M) → s.is_closed ≡ true → Replies holds s m (Err (Closed m)) nobody s
  replies_closed s m closed = record { at = λ pairs has. (Err (Closed pairs), (pairs, refl, has), (closed, refl, (refl, refl))) }

  pub replies_full : (s : State T P W) (m : M) → room s ≡ 0 → s.is_closed ≡ false → Replies holds s m (Err (Full m)) nobody s
  replies_full s m none opened =
      record { at = λ pairs has. (Err (Full pairs), (pairs, refl, has), refuses_full s pairs none opened) }

module _ {S T P W : Type 0} (steps : S → Option (T × P) → S → Type 0) (old new : State T P W) (handed : Handed W) (n : ℕ)
    (msgs left : Ahead S (T × P)) (opened : old.is_closed ≡ false) (some : 0 < room old) (sent : SendsFront steps old msgs n handed new left) where
  pub replies_ended : HasEnded steps left → n ≤ room old → Replies (HasList steps) old msgs (Ok tt) handed new
  replies_ended ended within = record {
    at = λ pairs has.
        let k = sent.takes.at pairs has in
        let all : pairs ≡ sent.front = k.1 ∙ rw (ended.at k.0 k.2) (append-nil sent.front) in
        (Ok tt, refl, rw all (some, omega (arith, sent.long, within), (opened, sent.adds)));
  }

  pub replies_filled : HasMore steps left → n ≡ room old → Replies (HasList steps) old msgs (Err (Full left)) handed new
  replies_filled more filled = record {
    at = λ pairs has.
        let k = sent.takes.at pairs has in
        (Err (Full k.0), (k.0, refl, k.2), (sent.front, k.1, omega (arith, sent.long, filled), inr (more.at k.0 k.2), (opened, sent.adds)));
  }

  pub replies_cut : HasMore steps left → n < room old → (old.is_reserved ≡ false) ⊎ (old.accepted + old.held + n ≡ 2 ^ 64 - 1)
      → Replies (HasList steps) old msgs (Err (Memory left)) handed new
  replies_cut more within why = record {
    at = λ pairs has.
        let k = sent.takes.at pairs has in
        (Err (Memory k.0), (k.0, refl, k.2), (sent.front, k.1, omega (arith, sent.long, within), more.at k.0 k.2, (opened, sent.adds), rw sent.long why));
  }
