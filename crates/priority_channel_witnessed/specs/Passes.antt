-- What a pass carries, and what a call adds to it.
use Rattle.std.specs.Prelude.{◌≡◌, ◌==◌, ◌≤◌, ℕ, Bool, true, not, ◌&&◌, List, [], ◌∷◌, ◌+◌, length, count_by, sum_by}
use Rattle.priority_channel_calls.specs.Told.{Told}
use Rattle.priority_channel_core.specs.Prelude.{Handed, Ordering}
use Rattle.priority_channel_witnessed.specs.declared.chronicle.Entry.{Entry}
use Rattle.priority_channel_witnessed.specs.History.{entry, who_of, IsLegal}
use Rattle.priority_channel_recorded.specs.chronicle.Passes as chronicle
pub use Rattle.priority_channel_recorded.specs.chronicle.Passes.{AreNew, calls_made, AreApart}

-- a pass's number, how many calls were made with it, and the history that it has seen
abbrev pub Carried : Type 0 → Type 0 → Type 0 → Type 0
Carried T P W = chronicle.Carried (Entry T P W)

module _ {T P W : Type 0} where
  -- how many entries stand under this number
  abbrev pub calls_of : ℕ → List (Entry T P W) → ℕ
  calls_of = chronicle.calls_of who_of

  -- under each pass's number stand as many entries as its count, and under other numbers none
  abbrev pub Accounts : List (Carried T P W) → List (Entry T P W) → Type 0
  Accounts = chronicle.Accounts who_of

  -- whether the entry stands under another number than those of these passes
  abbrev pub is_of_others : List (Carried T P W) → Entry T P W → Bool
  is_of_others [] entry = true
  is_of_others (pass ∷ more) entry = not (entry.who == pass.number) && is_of_others more entry

  -- how many such entries there are
  abbrev pub calls_of_others : List (Carried T P W) → List (Entry T P W) → ℕ
  calls_of_others passes history = count_by (λ entry. is_of_others passes entry) history

  -- how many entries stand under these numbers, together
  abbrev pub calls_under : List ℕ → List (Entry T P W) → ℕ
  calls_under numbers history = sum_by (λ number. calls_of number history) numbers

  -- Each entry stands under a number below the next. `left` calls, of passes that left, stand under
  -- other numbers than those of the passes that are out.
  pub record IsShared (out : List ℕ) (next left : ℕ) (history : List (Entry T P W)) : Type 0 where
    pub below : (number : ℕ) → next ≤ number → calls_of number history ≡ 0
    pub others : left + calls_under out history ≤ length history

-- how often a number is among these
abbrev pub times_in : ℕ → List ℕ → ℕ
times_in number numbers = count_by (λ other. number == other) numbers

-- the numbers are different, and below the next
pub record AreGiven (numbers : List ℕ) (next : ℕ) : Type 0 where
  pub once : (number : ℕ) → times_in number numbers ≤ 1
  pub below : (number : ℕ) → next ≤ number → times_in number numbers ≡ 0

-- `new` has seen a legal history of such a channel. It begins with all that `old` had seen, is
-- longer, and ends with this entry. Under its number stand at least as many entries as its count.
abbrev pub IsTold : {T P W : Type 0} → (P → P → Ordering) → (W → W → Type 0) → ℕ → Bool
    → Carried T P W → Entry T P W → Carried T P W → Type 0
IsTold cmp is_clone capacity is_reserved =
    chronicle.IsTold who_of (IsLegal cmp is_clone capacity is_reserved)

-- one more call was made with the pass, under its number, and the pass has seen that call
pub record Tells {T P W : Type 0} (cmp : P → P → Ordering) (is_clone : W → W → Type 0)
    (capacity : ℕ) (is_reserved : Bool) (old : Carried T P W) (made : Told T P W)
    (handed : Handed W) (new : Carried T P W) : Type 0 where
  pub number : new.number ≡ old.number
  pub counted : new.count ≡ old.count + 1
  pub told : IsTold cmp is_clone capacity is_reserved old (entry old.number made handed) new
