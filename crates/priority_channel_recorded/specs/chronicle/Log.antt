-- The log that the callers of one channel share.
use Rattle.std.specs.Prelude.{◌≡◌, ◌==◌, ◌≤◌, ℕ, Bool, true, false, List, [], ◌∷◌, ◌++◌, length, MatchBool}
use Rattle.logbook.specs.Pages.{Cell, Step, View, Book, Named}
use Rattle.priority_channel_recorded.specs.declared.chronicle.log.Line.{Line}
use Rattle.priority_channel_recorded.specs.declared.chronicle.log.Line.TheVariants.{Opened, Made}

-- a channel's log, what it was opened as, its ledger, and how many passes share that
pub record Names : Type 0 where
  pub log : Book
  pub capacity : ℕ
  pub is_reserved : Bool
  pub ledger : ℕ
  pub passes : ℕ

abbrev pub names : Book → ℕ → Bool → ℕ → ℕ → Names
names log capacity is_reserved ledger passes = record {
  log = log;
  capacity = capacity;
  is_reserved = is_reserved;
  ledger = ledger;
  passes = passes;
}

abbrev pub word_of : Book → Named
word_of b = record { tracked = true; key = 0; book = b }

module _ {E : Type 0} where
  abbrev pub opened : ℕ → Bool → List (Line E)
  opened capacity is_reserved = Opened capacity is_reserved ∷ []

  abbrev pub capacity_in : List (Line E) → ℕ
  capacity_in (Opened capacity is_reserved ∷ log) = capacity
  capacity_in other = 0

  abbrev pub is_reserved_in : List (Line E) → Bool
  is_reserved_in (Opened capacity is_reserved ∷ log) = is_reserved
  is_reserved_in other = false

  abbrev pub entries_in : List (Line E) → List E
  entries_in [] = []
  entries_in (Opened capacity is_reserved ∷ log) = entries_in log
  entries_in (Made entry ∷ log) = entry ∷ entries_in log

module _ {E : Type 0} (legal : ℕ → Bool → List E → Type 0) where
  pub record IsLogOf (capacity : ℕ) (is_reserved : Bool) (log : List (Line E)) : Type 0 where
    pub calls : List (Line E)
    pub opens : log ≡ Opened capacity is_reserved ∷ calls
    pub is_legal : legal capacity is_reserved (entries_in log)

  pub record IsLogOfSome (log : List (Line E)) : Type 0 where
    pub capacity : ℕ
    pub is_reserved : Bool
    pub whole : IsLogOf capacity is_reserved log

  -- the word is the number of entries
  pub record IsLog (cells : List Cell) (log : List (Line E)) : Type 0 where
    pub word : cells ≡ (length (entries_in log), true) ∷ []
    pub of_some : IsLogOfSome log

  -- at least `count` entries were seen; if they are no more, the entry may come next
  abbrev pub MayFollow : ℕ → Bool → List E → ℕ → E → Type 0
  MayFollow capacity is_reserved seen count entry =
      (count ≤ length seen)
      × (length seen ≡ count → legal capacity is_reserved (seen ++ entry ∷ []))

  -- the log was seen, and has `found` entries
  abbrev pub Looks : Step (Line E) → View (Line E) ℕ → ℕ → View (Line E) ℕ → Type 0
  Looks step before found after = (length (entries_in after.0) ≡ found) × IsLogOfSome after.0

  -- the entry came behind the whole log; or the log had another length, and was seen
  abbrev pub Adds : Step (Line E) → View (Line E) ℕ → ℕ → View (Line E) ℕ → Type 0
  Adds step before found after =
      MatchBool (found == step.old)
      ((length (entries_in before.0) ≡ step.old)
      × (entries_in after.0 ≡ entries_in before.0 ++ entries_in (step.ask ∷ []))
      × IsLogOfSome after.0)
      (IsLogOfSome after.0)
