-- A history that grows by an entry.
use Rattle.std.proofs.Common.{◌≡◌, ℕ, true, List, [], ◌∷◌, ◌++◌, refl, sym, subst, inl, inr, Some, None, Ok, Err}
use Rattle.priority_channel_core.specs.declared.calls.Answer.TheVariants as answer
use Rattle.priority_channel_core.specs.declared.errors.TrySendError.TheVariants as send_error
use Rattle.priority_channel_core.specs.declared.errors.TryRecvError.TheVariants as recv_error
use Rattle.priority_channel_core.specs.Prelude.{Handed, opening, Moves, Step, Answers, Operation, Ordering}
use Rattle.priority_channel_core.proofs.Running.{zip_push, Run-more}
use Rattle.priority_channel_recorded.specs.declared.book.Call.{Call}
use Rattle.priority_channel_recorded.specs.declared.book.Call.TheVariants.{TrySend, TrySendEvicting, TryRecv, Close, IsClosed, IsEmpty, IsFull, Len}
use Rattle.priority_channel_recorded.specs.declared.book.Reply.{Reply}
use Rattle.priority_channel_recorded.specs.declared.book.Entry.{Entry}
use Rattle.priority_channel_recorded.specs.History.{Machine, call_of, reply_of, Records, IsStep, IsHistory, IsLegal}

module _ {T P : Type 0} (cmp : P → P → Ordering) where
  same_capacity : (old new : Machine T P) (handed : Handed (Unit {0})) (call : Call T P) (told : Answers T P)
      → Moves cmp (λ waker kept. kept ≡ waker) old (call_of call) told handed new → new.capacity ≡ old.capacity
  same_capacity old new handed (TrySend msg priority) (answer.TrySend (Ok sent)) m = cc
  same_capacity old new handed (TrySend msg priority) (answer.TrySend (Err (send_error.Closed pair))) m = cc
  same_capacity old new handed (TrySendEvicting msg priority) (answer.TrySendEvicting (Ok None)) m = cc
  same_capacity old new handed (TrySendEvicting msg priority) (answer.TrySendEvicting (Ok (Some out))) m = let n = m.4.1.1 in cc
  same_capacity old new handed (TrySendEvicting msg priority) (answer.TrySendEvicting (Err (send_error.Closed pair))) m = cc
  same_capacity old new handed (TrySendEvicting msg priority) (answer.TrySendEvicting (Err (send_error.Full pair))) m = let n = m.1.4.1.1 in cc
  same_capacity old new handed (TrySendEvicting msg priority) (answer.TrySendEvicting (Err (send_error.Memory pair))) (inl m) = cc
  same_capacity old new handed (TrySendEvicting msg priority) (answer.TrySendEvicting (Err (send_error.Memory pair))) (inr m) = let n = m.4.1 in cc
  same_capacity old new handed TryRecv (answer.TryRecv (Ok pair)) m = let n = m.1.1 in cc
  same_capacity old new handed TryRecv (answer.TryRecv (Err recv_error.Closed)) m = cc
  same_capacity old new handed Close (answer.Close true) m = cc
  same_capacity old new handed IsClosed (answer.IsClosed told) m = cc
  same_capacity old new handed IsEmpty (answer.IsEmpty told) m = cc
  same_capacity old new handed IsFull (answer.IsFull told) m = cc
  same_capacity old new handed Len (answer.Len told) m = cc
  same_capacity old new handed call told m = first_of (cc, search)

  -- a call of the core makes the reply
  pub is_step : (old new : Machine T P) (made : Call T P) (reply : Reply T P) (told : Answers T P) (handed : Handed (Unit {0})) → reply_of told ≡ Some reply
      → Step cmp (λ waker kept. kept ≡ waker) old (call_of made) told handed new → IsStep cmp old made reply new
  is_step old new made reply told handed replies step = record { answer = told; handed = handed; replies = replies; step = record { moves = step.moves; good = step.good } }

  pub step_capacity : (old new : Machine T P) (call : Call T P) (reply : Reply T P) → IsStep cmp old call reply new
      → new.capacity ≡ old.capacity
  step_capacity old new call reply step = same_capacity old new step.handed call step.answer step.step.moves

  pub history_more : (old new : Machine T P) (history : List (Entry T P)) (last : Entry T P)
      → IsHistory cmp old.capacity history old → IsStep cmp old last.call last.reply new
      → IsHistory cmp new.capacity (history ++ last ∷ []) new
  history_more old new history last legal step =
      let made : Operation T P (Unit {0}) = record { call = call_of last.call; answer = step.answer; handed = step.handed } in
      subst (λ (k : ℕ). IsHistory cmp k (history ++ last ∷ []) new)
      (sym (step_capacity old new last.call last.reply step)) (record {
        run = legal.run ++ made ∷ [];
        records = zip_push Records history legal.run last made legal.records (refl, step.replies);
        leads = Run-more cmp _ (opening old.capacity true) old new legal.run made legal.leads step.step;
      })

  pub history_none : (capacity : ℕ) → IsHistory {T = T} cmp capacity [] (opening capacity true)
  history_none capacity = record { run = []; records = tt; leads = refl }

  pub legal_at : (capacity : ℕ) (history : List (Entry T P)) (state : Machine T P) → state.capacity ≡ capacity
      → IsHistory cmp state.capacity history state → IsLegal cmp capacity history
  legal_at capacity history state is run = record { state = state; run = subst (λ (c : ℕ). IsHistory cmp c history state) is run }
