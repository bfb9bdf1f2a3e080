-- What a bulk send into a reserved channel accepts, where its list is known.
use Rattle.std.proofs.Common.{◌≡◌, ◌+◌, ◌<◌, ◌^◌, true, false, List, ◌++◌, length, refl, sym, ap, ◌∙◌, arith, inl, inr, true≢false, length-append}
use Rattle.std.specs.Prelude.{Ok, Err, take}
use Rattle.std.proofs.lemmas.List.{take_all, take_at}
use Rattle.priority_channel_core.specs.declared.errors.TrySendError.TheVariants.{Full, Closed, Memory}
use Rattle.priority_channel_core.specs.Prelude.{State, Handed, room, Does, Sends, Performs, Ordering, SendReply}
use Rattle.priority_channel_core.specs.declared.calls.Call.TheVariants as call
use Rattle.priority_channel_core.specs.declared.calls.Answer.TheVariants as answer

module _ {T P W : Type 0} where
  accepted_in_place : (old new : State T P W) (pairs : List (T × P)) (reply : SendReply (List (T × P))) (handed : Handed W)
      → old.is_closed ≡ false → old.is_reserved ≡ true → old.accepted + old.held + length pairs < 2 ^ 64
      → Sends old (Does old handed new) pairs reply → new.pending ≡ old.pending ++ take (room old) pairs
  accepted_in_place old new pairs (Ok done) handed opened reserved numbers sends =
      ap (λ s. s.pending) sends.2.1.1
      ∙ ap (λ front. old.pending ++ front) (sym (take_all (room old) pairs sends.1))
  accepted_in_place old new pairs (Err (Closed rest)) handed opened reserved numbers sends = absurd (cc)
  accepted_in_place old new pairs (Err (Full rest)) handed opened reserved numbers (front, pairs_is, long, some, accepts) =
      rw pairs_is (ap (λ s. s.pending) accepts.1.1
      ∙ ap (λ front. old.pending ++ front) (sym (take_at front rest (room old) long)))
  accepted_in_place old new pairs (Err (Memory rest)) handed opened reserved numbers (front, pairs_is, shorter, some, accepts, cause) =
      absurd (elim cause [
        | inl plain ↦ true≢false (sym reserved ∙ plain)
        | inr last ↦ let all = ap length pairs_is ∙ length-append front rest in omega (arith, some, last, numbers, all)
      ])

  pub accepted_of_list : {M : Type 0} (holds : M → List (T × P) → Type 0) (cmp : P → P → Ordering) (is_clone : W → W → Type 0)
      (old new : State T P W) (msgs : M) (pairs : List (T × P)) (reply : SendReply M) (handed : Handed W)
      → holds msgs pairs → Performs holds cmp is_clone old (call.TrySendv msgs) (answer.TrySendv reply) handed new
      → old.is_closed ≡ false → old.is_reserved ≡ true → old.accepted + old.held + length pairs < 2 ^ 64
      → new.pending ≡ old.pending ++ take (room old) pairs
  accepted_of_list holds cmp is_clone old new msgs pairs reply handed list performs opened reserved numbers =
      let (told, same, step) = performs.at (call.TrySendv pairs) (pairs, refl, list) in
      accepted_in_place old new pairs same.0 handed opened reserved numbers (rw same.1 at step.moves)
