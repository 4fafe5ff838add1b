-- What a type's blocks run on a day of each day type: shares of two numbers, a day type and its seconds, by rising day type. Those to place `at` are used.
-- Inner: no promise and no contract of a public function speaks of it.
use Rattle.std.specs.Prelude.{◌≡◌, List, [], ◌∷◌, ℕ, suc, ◌+◌, ◌*◌, ◌≤◌, ◌<◌, eqb, length, get_or, take, set}
use Rattle.words.specs.Words.{Row, whether◌then◌else◌}
use Rattle.rows.specs.Rows.{column}
use Rattle.rules.specs.Rules.{seconds}
use Rattle.questions.specs.Questions.{total}

-- what the blocks of a type run on a day of this day type
abbrev pub runs_on : ℕ → Row → ℕ
runs_on kind block = whether eqb kind (column 2 block) then seconds block else 0

abbrev pub seconds_on : ℕ → ℕ → ℕ → List Row → ℕ
seconds_on version type kind blocks = total (runs_on kind) version type blocks

-- the day type and the seconds of a share
abbrev pub kind_at : List Row → ℕ → ℕ
kind_at tally i = get_or (get_or tally i []) 0 0

abbrev pub seconds_at : List Row → ℕ → ℕ
seconds_at tally i = get_or (get_or tally i []) 1 0

-- the seconds of a day type among shares
unfoldable pub held : ℕ → List Row → ℕ
held kind [] = 0
held kind (x ∷ xs) = (whether eqb kind (column 1 x) then column 2 x else 0) + held kind xs

-- the used shares
abbrev pub shares : List Row → ℕ → List Row
shares tally at = take (suc at) tally

-- seconds of a day type are added to the last share, or come behind it
abbrev pub added : ℕ → ℕ → ℕ → List Row → List Row
added at kind more tally =
    whether eqb (kind_at tally at) kind then set tally at (kind ∷ (seconds_at tally at + more) ∷ [])
    else set tally (at + 1) (kind ∷ more ∷ [])

abbrev pub last_of : ℕ → ℕ → List Row → ℕ
last_of at kind tally = whether eqb (kind_at tally at) kind then at else at + 1

-- each day type is below the later ones
abbrev pub Rises : List Row → ℕ → Type 0
Rises tally at = (p q : ℕ) → p < q → q ≤ at → kind_at tally p < kind_at tally q

-- all blocks of a type are tallied: no more than 512, of less than 1,000,000 seconds each
pub record Tallied (version type : ℕ) (blocks tally : List Row) (at : ℕ) : Type 0 where
  pub counts : (kind : ℕ) → held kind (shares tally at) ≡ seconds_on version type kind blocks
  pub most : (kind : ℕ) → held kind (shares tally at) ≤ 512 * 999999
  pub rises : Rises tally at
  pub within : at < length tally
