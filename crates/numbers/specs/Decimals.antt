-- What the code reads digits as.
-- Inner: no promise and no contract of a public function speaks of it.
use Rattle.std.specs.Prelude.{ℕ, Option, Some, None}
use Rattle.words.specs.Words.{Bytes, whether◌then◌else◌}
use Rattle.numbers.specs.Numbers.{is_decimal, value}

-- what a decimal of at most `width` digits is read as
unfoldable pub decimal_of : ℕ → Bytes → Option ℕ
decimal_of width s = whether is_decimal width s then Some (value s) else None
