-- Where the lines of a part end.
-- Inner: no promise and no contract of a public function speaks of it.
use Rattle.std.specs.Prelude.{[], ℕ, ◌-◌, ◌≤◌, length, take, drop}
use Rattle.words.specs.Words.{Bytes}
use Rattle.editions.specs.declared.Edition.{Edition}
use Rattle.cells.specs.declared.State.{State}
use Rattle.cells.specs.declared.State.TheVariants.{Fresh}
use Rattle.lines.specs.Ends.{feed_from}
use Rattle.radio_lines.specs.Lines.{Finished}

-- none of these bytes ends a row whose quotes stand so
abbrev pub Feedless : Edition → State → Bytes → Type 0
Feedless e q s = length s ≤ feed_from e q s

-- a place of a part: the bytes from a place before it are whole rows, and none ends behind it
pub record BehindRows (e : Edition) (part : Bytes) (from : ℕ) (r : ℕ) : Type 0 where
  pub low : from ≤ r
  pub high : r ≤ length part
  pub finished : Finished e [] (take (r - from) (drop from part))
  pub feedless : Feedless e Fresh (drop r part)
