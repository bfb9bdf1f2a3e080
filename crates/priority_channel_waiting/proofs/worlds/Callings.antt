-- The standings of futures after some tickets were woken.
use Rattle.std.proofs.Common.{◌≡◌, ℕ, ◌⊎◌, true, false, refl, arith}
use Rattle.priority_channel_core.specs.Prelude.{Handed}
use Rattle.priority_channel_waiting.specs.Future.{Standing, ticket_of}
use Rattle.priority_channel_waiting.specs.Future.Standing.{Waiting, Called}
use Rattle.priority_channel_waiting.specs.laws.World.{is_handed, standing_after}

pub called-ticket : {W : Type 0} (handed : Handed W) (s : Standing W) → ticket_of (standing_after handed s) ≡ ticket_of s
called-ticket handed s = grind arith

-- a future that still waits was not woken
pub called-waiting : {W : Type 0} (handed : Handed W) (s : Standing W) (t : ℕ) (w : W) → standing_after handed s ≡ Waiting t w → (s ≡ Waiting t w) × (is_handed t handed ≡ false)
called-waiting handed s t w h = grind arith

pub called-stays : {W : Type 0} (handed : Handed W) (t : ℕ) (w : W) → is_handed t handed ≡ false → standing_after handed (Waiting t w) ≡ Waiting t w
called-stays handed t w h = rw h refl

-- a future that is `Called` now was so before, or it waited and was woken
pub called-called : {W : Type 0} (handed : Handed W) (s : Standing W) (t : ℕ) (w : W) → standing_after handed s ≡ Called t w → (s ≡ Called t w) ⊎ ((s ≡ Waiting t w) × (is_handed t handed ≡ true))
called-called handed s t w h = grind arith
