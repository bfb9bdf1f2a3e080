-- The calls of a run that are left may be made.
use Rattle.std.proofs.Common.{List, ◌∷◌, arith}
use Rattle.priority_channel_core.specs.Prelude.{Call, State, IsAllowed, ChangesHandles, AllowsRun}
use Rattle.priority_channel_core.proofs.Counts.{AllowsSide-more}

module _ {T P W M F : Type 0} where
  pub AllowsRun-first : (s : State T P W) (made : Call T P W M F) (calls : List (Call T P W M F)) → AllowsRun s (made ∷ calls) → IsAllowed s made
  AllowsRun-first s made calls allowed = grind arith

  pub AllowsRun-more : (old new : State T P W) (made : Call T P W M F) (calls : List (Call T P W M F)) → ChangesHandles old made new → AllowsRun old (made ∷ calls) → AllowsRun new calls
  AllowsRun-more old new made calls changes allowed = record {
    senders = AllowsSide-more _ _ _ _ _ _ allowed.senders changes.senders;
    receivers = AllowsSide-more _ _ _ _ _ _ allowed.receivers changes.receivers;
  }
