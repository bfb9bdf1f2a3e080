-- The word of a channel; `count` is of pending pairs, `held` of places that are held.
use Rattle.std.specs.Prelude.{ℕ, ◌%◌, ◌^◌, ◌&&◌, ◌||◌, ◌==◌, Bool, List, [], nat_le}
use Rattle.priority_channel_core.specs.Waiters.{Waiters}

pub record Word (W : Type 0) : Type 0 where
  pub is_closed : Bool
  pub count : ℕ
  pub held : ℕ
  -- the bit is set once the count and the held places have fallen to nothing
  pub ends : Bool
  pub waiters : Waiters W

-- the bit, once the count and the held places have fallen to these
abbrev pub bit_at : {W : Type 0} → Word W → ℕ → ℕ → Bool
bit_at word count held = word.is_closed || (word.ends && ((count == 0) && (held == 0)))

pub record CountedWord (W : Type 0) : Type 0 where
  pub word : Word W
  pub comparisons : ℕ

-- the waiters that a step takes off the lists, for the caller to wake
pub record Handed (W : Type 0) : Type 0 where
  pub room : List (ℕ × W)
  pub message : List (ℕ × W)

abbrev pub nobody : {W : Type 0} → Handed W
nobody = record { room = []; message = [] }

-- bit 63 of a packed word, and the number below it
abbrev pub closed_bit : ℕ → Bool
closed_bit packed = nat_le (2 ^ 63) packed

abbrev pub count_below : ℕ → ℕ
count_below packed = packed % 2 ^ 63
