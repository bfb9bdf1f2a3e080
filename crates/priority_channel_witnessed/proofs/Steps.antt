-- What was told of one call, as a fact about the state in which it was made.
use Rattle.std.proofs.Common.{ℕ, Bool, [], ◌∷◌, ap, arith, length, length-append, Ok, Err, IfOk, List}
use Rattle.priority_channel_core.specs.declared.errors.TrySendError.TheVariants.{Full, Closed, Memory}
use Rattle.priority_channel_core.specs.Prelude.{State, Handed, OnFull, Ordering, SendReply, RecvReply}
use Rattle.priority_channel_core.specs.declared.calls.Call.TheVariants as call
use Rattle.priority_channel_core.specs.declared.calls.Answer.TheVariants as answer
use Rattle.priority_channel_core.proofs.runs.Runs.{run_conserves}
use Rattle.priority_channel_calls.proofs.Runs.{the_step}
use Rattle.priority_channel_calls.specs.Told.Told.{Exactly}
use Rattle.priority_channel_witnessed.specs.History.{entry, IsHistory}
use Rattle.priority_channel_witnessed.specs.declared.chronicle.Entry.{Entry}
use Rattle.priority_channel_witnessed.specs.Passes.{Carried, IsTold}
use Rattle.priority_channel_witnessed.proofs.Histories.{told_made, history_run}
use Rattle.priority_channel_witnessed.specs.Uses.{WasMostUrgent, WasFull, IsBalanced}

module _ {T P W : Type 0} (cmp : P → P → Ordering) (is_clone : W → W → Type 0) (capacity : ℕ) (is_reserved : Bool) where
  module _ (old new : Carried T P W) (who : ℕ) (handed : Handed W) where
    pub urgent : (reply : RecvReply (T × P)) → IsTold cmp is_clone capacity is_reserved old (entry who (Exactly call.TryRecv (answer.TryRecv reply)) handed) new
        → IfOk reply (WasMostUrgent cmp is_clone capacity is_reserved old.seen)
    urgent (Ok pair) told =
        let k = told_made cmp is_clone capacity is_reserved old new _ told in
        let step = the_step cmp is_clone k.1.old k.1.new handed _ _ k.1.made in
        record { state = k.1.old; reached = record { between = k.0; history = k.1.so_far }; rest = k.1.new.pending; takes = step.moves.0 }
    urgent (Err error) told = tt

    pub full : (msg : T) (priority : P) (reply : SendReply (T × P))
        → IsTold cmp is_clone capacity is_reserved old (entry who (Exactly (call.TrySend msg priority) (answer.TrySend reply)) handed) new
        → OnFull reply (WasFull cmp is_clone capacity is_reserved old.seen)
    full msg priority (Err (Full pair)) told =
        let k = told_made cmp is_clone capacity is_reserved old new _ told in
        let m = (the_step cmp is_clone k.1.old k.1.new handed _ _ k.1.made).moves in
        record {
          state = k.1.old;
          reached = record { between = k.0; history = k.1.so_far };
          opened = m.4.0;
          no_room = omega (arith, m.2, ap length m.1, length-append m.0 (pair ∷ []));
        }
    full msg priority (Err (Closed pair)) told = tt
    full msg priority (Err (Memory pair)) told = tt
    full msg priority (Ok sent) told = tt

  pub balanced : (history : List (Entry T P W)) (state : State T P W) → IsHistory cmp is_clone capacity is_reserved history state
      → IsBalanced history state.pending
  balanced history state is =
      let k = history_run cmp is_clone capacity is_reserved history state is in
      record { run = k.0; steps = k.1; balance = run_conserves cmp is_clone _ state k.0 k.2 }
