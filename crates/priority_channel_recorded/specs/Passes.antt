-- The passes of a recorder.
use Rattle.std.specs.Prelude.{ℕ, List}
use Rattle.std.specs.declared.cmp.Ordering.{Ordering}
use Rattle.priority_channel_recorded.specs.declared.book.Entry.{Entry}
use Rattle.priority_channel_recorded.specs.History.{who_of, IsLegal}
use Rattle.priority_channel_recorded.specs.chronicle.Passes as chronicle
pub use Rattle.priority_channel_recorded.specs.chronicle.Passes.{AreNew, calls_made, AreApart}

abbrev pub Carried : Type 0 → Type 0 → Type 0
Carried T P = chronicle.Carried (Entry T P)

module _ {T P : Type 0} where
  abbrev pub Accounts : List (Carried T P) → List (Entry T P) → Type 0
  Accounts = chronicle.Accounts who_of

  -- for legal histories of a channel of this capacity
  abbrev pub IsTold : (P → P → Ordering) → ℕ → Carried T P → Entry T P → Carried T P → Type 0
  IsTold cmp capacity = chronicle.IsTold who_of (IsLegal cmp capacity)
