-- The pair that a call with a test takes.
use Rattle.std.specs.Prelude.{List, Bool, true, false}
use Rattle.std.specs.Fn.{Shared}
use Rattle.std.specs.Borrow.{Bor}
use Rattle.priority_channel_core.specs.bag.Prelude.{Ordering, PassesGreatest, TakesOne, Tells}

-- This pair went out of the pending ones, and is the most urgent of those for which a call of `test`
-- may tell true.
abbrev pub MostUrgent : {T P F : Type 0} → (P → P → Ordering)
    → Shared F (Bor T × (Bor P × Unit {0})) Bool → F → List (T × P) → T × P → List (T × P) → Type 0
MostUrgent cmp g test old pair new = (one : TakesOne old pair new)
    × PassesGreatest cmp (λ pair. Tells g test pair true) (λ pair. Tells g test pair false) one
