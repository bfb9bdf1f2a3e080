-- How the number of binary digits grows.
use Rattle.std.proofs.Common.{◌≡◌, ℕ, ◌+◌, ◌-◌, ◌*◌, ◌/◌, ◌^◌, ◌<◌, ◌≤◌, length, subst, arith, inl, inr}
use Rattle.std.specs.Int.Digits.{digits_of}
use Rattle.std.proofs.lemmas.Bool.{cases_lt}
use Rattle.std.proofs.lemmas.Nat.{mul-le}
use Rattle.std.proofs.lemmas.Int.Digits.{length-digits_of_step, length-digits_of-le, number_lt, all_below_base_digits_of, number_digits_of}
use Rattle.priority_channel_core.specs.bag.Prelude.{digits}

pub lt-digits : (n : ℕ) → n < 2 ^ digits n
unfolding digits
lt-digits n =
    let P : ℕ → Type 0 = λ m. m < 2 ^ length (digits_of 2 n) in
    subst P (number_digits_of 2 n (omega arith)) (number_lt 2 (digits_of 2 n) (all_below_base_digits_of 2 n (omega arith)))

pub digits-mono : (m n : ℕ) → m ≤ n → digits m ≤ digits n
unfolding digits
digits-mono m n le =
    let h = lt-digits n in
    length-digits_of-le 2 (digits n) m (omega arith) (omega arith)

pub digits-half : (m n : ℕ) → 0 < n → m ≤ n / 2 → digits m + 1 ≤ digits n
unfolding digits
digits-half m n positive le =
    let h = digits-mono m (n / 2) le in let e = length-digits_of_step 2 n (omega arith) positive in omega arith

pub digits-least : (n : ℕ) → 0 < n → 2 ^ (digits n - 1) ≤ n
unfolding digits
digits-least n positive =
    elim (cases_lt n (2 ^ (digits n - 1))) [
      | inl less ↦
          let le = length-digits_of-le 2 (digits n - 1) n (omega arith) less in
          let some = digits-half 0 n positive (omega arith) in
          absurd (omega (arith, le, some))
      | inr least ↦ least
    ]

pub digits_parent : (at : ℕ) → 0 < at → digits ((at - 1) / 2 + 1) + 1 ≤ digits (at + 1)
digits_parent at positive = digits-half ((at - 1) / 2 + 1) (at + 1) (omega arith) (omega arith)

pub digits_child : (at child : ℕ) → at * 2 + 1 ≤ child → digits at + 1 ≤ digits child
digits_child at child le = digits-half at child (omega arith) (omega arith)

-- `upper` is in the pair above the pair of `lower`
pub digits_step : (upper lower : ℕ) → 1 < lower → upper / 2 ≡ (lower - 2) / 4 → digits (upper / 2 + 1) + 1 ≤ digits (lower / 2 + 1)
digits_step upper lower more is = digits-half (upper / 2 + 1) (lower / 2 + 1) (omega arith) (omega arith)

pub digits_some : (n : ℕ) → 1 ≤ digits (n + 1)
digits_some n = let h = digits-half 0 (n + 1) (omega arith) (omega arith) in omega (arith, h)

pub one_more_costs : (settled front all : ℕ) → front ≤ all → settled * digits all + digits front ≤ (settled + 1) * digits all
one_more_costs settled front all le = omega (arith, digits-mono front all le)

pub push_costs : (n before after : ℕ) → before ≤ after → n * digits before + digits after ≤ (n + 1) * digits after
push_costs n before after le = omega (arith, mul-le n (digits before) n (digits after) (omega arith) (digits-mono before after le))
