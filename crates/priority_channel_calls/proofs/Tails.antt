-- What a bulk send leaves is a tail of its list.
use Rattle.std.proofs.Common.{◌≡◌, ℕ, List, length, drop, refl, sym, IfErr, Result, Ok, Err}
use Rattle.std.proofs.Math.Seq.{drop-append_seam}
use Rattle.priority_channel_core.specs.declared.errors.TrySendError.{TrySendError}
use Rattle.priority_channel_core.specs.declared.errors.TrySendError.TheVariants as send_error
use Rattle.priority_channel_core.specs.declared.calls.Call.TheVariants as call
use Rattle.priority_channel_core.specs.declared.calls.Answer.TheVariants as answer
use Rattle.priority_channel_core.specs.Prelude.{State, Handed, rest_of, Does, Sends, Performs, SameReply, Ordering, SendReply}
use Rattle.priority_channel_calls.specs.Tails.{HoldsTail}

pub tails : {T P W : Type 0} (old new : State T P W) (handed : Handed W) (reply : SendReply (List (T × P))) (list : List (T × P))
    → Sends old (Does old handed new) list reply → IfErr reply (λ back. (n : ℕ) × (rest_of back ≡ drop n list))
tails old new handed (Ok sent) list h = tt
tails old new handed (Err (send_error.Closed rest)) list h = (0, h.1)
tails old new handed (Err (send_error.Full rest)) list h = (length h.0, rw h.1 (sym (drop-append_seam h.0 rest)))
tails old new handed (Err (send_error.Memory rest)) list h = (length h.0, rw h.1 (sym (drop-append_seam h.0 rest)))

module _ {T P W M : Type 0} (holds : M → List (T × P) → Type 0) (cmp : P → P → Ordering) (is_clone : W → W → Type 0)
    (old new : State T P W) (handed : Handed W) (msgs : M) where
  same_refused : (error : TrySendError M) (told : SendReply (List (T × P))) → SameReply holds (Err error) told
      → (back : TrySendError (List (T × P))) × (told ≡ Err back) × holds (rest_of error) (rest_of back)
  same_refused (send_error.Closed m) told h = (send_error.Closed h.0, h.1, h.2)
  same_refused (send_error.Full m) told h = (send_error.Full h.0, h.1, h.2)
  same_refused (send_error.Memory m) told h = (send_error.Memory h.0, h.1, h.2)

  pub refused_tail : (reply : SendReply M)
      → Performs holds cmp is_clone old (call.TrySendv msgs) (answer.TrySendv reply) handed new
      → IfErr reply (λ error. HoldsTail holds msgs (rest_of error))
  refused_tail (Ok sent) h = tt
  refused_tail (Err error) h = record {
    at = λ list has.
        let k = h.at (call.TrySendv list) (list, refl, has) in
        let same = same_refused error k.1.0 k.1.2 in
        let tail = tails old new handed (Err same.0) list (rw same.1 at (rw k.1.1 at k.2.moves)) in
        (tail.0, rw (← tail.1) same.2);
  }

pub both : {X E : Type 0} (A B : E → Type 0) (result : Result X E) → IfErr result A → IfErr result B → IfErr result (λ e. A e × B e)
both A B (Ok x) a b = tt
both A B (Err e) a b = (a, b)
