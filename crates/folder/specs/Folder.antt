-- The day of a folder.
-- Inner: no promise and no contract of a public function speaks of it.
use Rattle.std.specs.Prelude.{◌≡◌, List, ℕ}
use Rattle.words.specs.Words.{Bytes, Row}
use Rattle.refusals.specs.Verdicts.{Verdict}
use Rattle.delivery.specs.Delivery.{Delivery}
use Rattle.slips.specs.Calls.{outcome}
use Rattle.day.specs.Calls.{day_call}

-- by the edition of that number it is the day of some texts: which ones, the folder's files say and no contract does
pub record DayOfTexts (edition : ℕ) (verdict : Verdict) (book book' work work' : List Row) : Type 0 where
  pub delivery : Delivery
  pub slip : Bytes
  pub is : outcome verdict book' work' ≡ day_call edition delivery slip book work
