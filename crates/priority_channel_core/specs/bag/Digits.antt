-- How many binary digits a number has.
use Rattle.std.specs.Prelude.{ℕ, length}
use Rattle.std.specs.Int.Digits.{digits_of}

-- 0 has none, 1 has one, 1024 has eleven
unfoldable pub digits : ℕ → ℕ
digits n = length (digits_of 2 n)
