-- The state of a future after a poll.
use Rattle.std.proofs.Common.{◌≡◌, ℕ, List, drop, refl, arith, Option, None, Some, IfSome, Ok, Err}
use Rattle.priority_channel_core.specs.declared.calls.CorePoll.TheVariants.{Ready, Pending}
use Rattle.priority_channel_core.specs.declared.side.Side.TheVariants.{Room}
use Rattle.priority_channel_core.specs.Prelude.{State, Handed, Does, Sends, send_answer, Polls, Performs, SamePoll, kept_by, Ordering, SendPoll}
use Rattle.priority_channel_core.specs.declared.calls.Call.TheVariants as call
use Rattle.priority_channel_core.specs.declared.calls.Answer.TheVariants as answer
use Rattle.priority_channel_core.specs.declared.errors.SendFault.TheVariants as send_fault
use Rattle.priority_channel_core.proofs.Polls.{kept_callable}
use Rattle.priority_channel_calls.proofs.Tails.{tails}
use Rattle.priority_channel_waiting.specs.Holding.{left_after, unsent_of, HoldsTail}

-- what is left after a poll was kept by the core's poll
pub left_kept : {M : Type 0} (Q : M → Type 0) (reply : SendPoll M)
    → IfSome (kept_by reply) Q → IfSome (left_after unsent_of reply) Q
left_kept Q reply h = grind arith

pub if_some : {M : Type 0} (Q : M → Type 0) (held : Option M) → ((m : M) → held ≡ Some m → Q m) → IfSome held Q
if_some Q held h = grind arith

pub if_both : {M : Type 0} (Q R : M → Type 0) (held : Option M) → IfSome held Q → IfSome held R → IfSome held (λ m. Q m × R m)
if_both Q R None h k = tt
if_both Q R (Some m) h k = (h, k)

module _ {T P W M : Type 0} (holds : M → List (T × P) → Type 0) (cmp : P → P → Ordering) (is_clone : W → W → Type 0)
    (old new : State T P W) (handed : Handed W) (msgs : M) where
  module _ (given : Option ℕ) (waker : W) where
    same_kept : (poll : SendPoll M) (told : SendPoll (List (T × P)))
        → SamePoll holds poll told → (held : M) → kept_by poll ≡ Some held
        → (rest : List (T × P)) × (kept_by told ≡ Some rest) × holds held rest
    same_kept (Ready (Ok sent)) told h held is = absurd (cc)
    same_kept (Ready (Err (send_fault.Closed e))) told h held is = (h.0, cc, grind arith)
    same_kept (Ready (Err (send_fault.Memory m))) told h held is = (h.0, cc, grind arith)
    same_kept (Pending m ticket) told h held is = (h.0, cc, grind arith)

    tail_at : (told : SendPoll (List (T × P))) (list rest : List (T × P))
        → kept_by told ≡ Some rest → Polls is_clone (λ reply handed mid. Sends old (Does old handed mid) list reply) send_answer Room given waker told handed new → (n : ℕ) × (rest ≡ drop n list)
    tail_at told list rest back h =
        rw back at (kept_callable (λ r. (n : ℕ) × (r ≡ drop n list)) h.reply h.ticket told (tails old h.mid handed h.reply list h.tried) h.answered)

    pub polled_tail : (reply : SendPoll M)
        → Performs holds cmp is_clone old (call.PollSendv msgs given waker) (answer.PollSendv reply) handed new
        → IfSome (kept_by reply) (HoldsTail holds msgs)
    polled_tail reply h = if_some (HoldsTail holds msgs) (kept_by reply) (λ held is. record {
      at = λ list has.
          let k = h.at (call.PollSendv list given waker) (list, refl, has) in
          let same = same_kept reply k.1.0 k.1.2 held is in
          let tail = tail_at k.1.0 list same.0 same.1 (rw k.1.1 at k.2.moves) in
          (tail.0, rw (← tail.1) same.2);
    })
