-- The closed bit of a packed count.
use Rattle.std.proofs.Common.{◌≡◌, ℕ, ◌%◌, ◌^◌, true, ◌∙◌, arith, bit_or}
use Rattle.std.proofs.lemmas.Nat.{le_or_r, or_mod, or_disjoint, and_le_r}
use Rattle.std.proofs.lemmas.Bool.Decides.{nat_tests}
use Rattle.priority_channel_core.specs.Prelude.{closed_bit, count_below}

pub closed_bit-set : (n : ℕ) → closed_bit (bit_or n (2 ^ 63)) ≡ true
closed_bit-set n = let h = le_or_r n (2 ^ 63) in grind (arith, nat_tests)

pub count_below-set : (n : ℕ) → count_below (bit_or n (2 ^ 63)) ≡ count_below n
count_below-set n = let h = and_le_r (n % 2 ^ 63) 0 in or_mod n (2 ^ 63) 63 ∙ (or_disjoint (n % 2 ^ 63) 0 (omega arith) ∙ omega arith)
