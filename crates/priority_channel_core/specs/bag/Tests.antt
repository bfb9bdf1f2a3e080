-- What functions of the caller tell of pairs.
use Rattle.std.specs.Prelude.{◌≡◌, ℕ, ◌+◌, ◌⊎◌, List, [], ◌∷◌}
use Rattle.std.specs.Fn.{Shared, FnReturns}
use Rattle.std.specs.Borrow.{Bor}

-- a call of the test on this pair may return `answer`
pub record Tells {F T P R : Type 0} (g : Shared F (Bor T × (Bor P × Unit {0})) R) (test : F)
    (pair : T × P) (answer : R) : Type 0 where
  pub msg : Bor T
  pub priority : Bor P
  pub shows : (msg.now ≡ pair.0) × (priority.now ≡ pair.1)
  pub says : FnReturns g test (msg, (priority, tt)) answer

-- a call of `step` on this pair, and on what the call before it returned, may return `next`
pub record Folds {F T P X : Type 0} (g : Shared F (X × (Bor T × (Bor P × Unit {0}))) X) (step : F)
    (folded : X) (pair : T × P) (next : X) : Type 0 where
  pub msg : Bor T
  pub priority : Bor P
  pub shows : (msg.now ≡ pair.0) × (priority.now ≡ pair.1)
  pub says : FnReturns g step (folded, (msg, (priority, tt))) next

-- `count` of the items pass, and the others fail
abbrev pub Counts : {X : Type 0} → (X → Type 0) → (X → Type 0) → List X → ℕ → Type 0
Counts passes fails [] count = count ≡ 0
Counts passes fails (x ∷ xs) count =
    (fails x × Counts passes fails xs count)
    ⊎ (passes x × (fewer : ℕ) × (count ≡ fewer + 1) × Counts passes fails xs fewer)
