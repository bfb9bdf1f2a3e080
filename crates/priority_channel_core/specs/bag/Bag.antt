-- What callers see of a bag.
use Rattle.std.specs.Prelude.{◌≡◌, ℕ, ◌*◌, Bool, if◌then◌else◌, Option, List, length}
use Rattle.priority_channel_core.specs.bag.Digits.{digits}

pub record Contents (T P : Type 0) : Type 0 where
  -- in the order of their acceptance
  pub pending : List (T × P)
  pub accepted : ℕ
  -- how many were accepted before the one that goes out first
  pub first : Option ℕ
  -- how often a priority was changed, modulo 2^64
  pub changes : ℕ
  -- how many fit without asking for memory
  pub slots : ℕ
  pub comparisons : ℕ
  -- the least pair is known without a search
  pub knows_least : Bool

-- comparisons until the least pair is known, at most
abbrev pub search_for_least : {T P : Type 0} → Contents T P → ℕ
search_for_least bag =
    if bag.knows_least then 0 else length bag.pending * digits (length bag.pending)

-- nothing else changes than the pairs, and what their comparisons cost
abbrev pub Keeps : {T P : Type 0} → Contents T P → Contents T P → Type 0
Keeps old new = new ≡ record old {
  pending = new.pending;
  first = new.first;
  comparisons = new.comparisons;
}
