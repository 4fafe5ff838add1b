-- The edition and the days that a program's arguments ask for.
-- Inner: no promise and no contract of a public function speaks of it.
use Rattle.std.specs.Prelude.{◌≡◌, ℕ}
use Rattle.words.specs.Words.{Bytes, whether◌then◌else◌, same, bytes}
use Rattle.numbers.specs.Numbers.{is_decimal, value}

-- "both editions stay, chosen by the caller": the number of the edition that a word asks for, 0 where it asks for none
abbrev pub edition_said : Bytes → ℕ
edition_said word = whether same word (bytes "--edition=2.1") then 21 else whether same word (bytes "--edition=2.3") then 23 else 0

-- it is what some word asks for: which one, the program's arguments say and no contract does
pub record SaidByWord (edition : ℕ) : Type 0 where
  pub word : Bytes
  pub is : edition ≡ edition_said word

-- the day that a word says, YYYYMMDD; 0, which is none, where it is not up to eight digits
abbrev pub day_said : Bytes → ℕ
day_said word = whether is_decimal 8 word then value word else 0

pub record DayByWord (day : ℕ) : Type 0 where
  pub word : Bytes
  pub is : day ≡ day_said word
