-- What the contract of each function for C permits, of what it is handed: one returned number, one place, and one content of all that is lent.
use Rattle.std.specs.Prelude.{◌≡◌, List, [], ◌∷◌, ℕ, Float}
use Rattle.words.specs.Words.{Bytes, Row}
use Rattle.refusals.specs.Verdicts.{values}
use Rattle.questions.specs.Calls.{type_call, block_call}
use Rattle.delivery.specs.Delivery.{Delivery}
use Rattle.delivery.specs.Calls.{read_call}
use Rattle.radio.specs.Room.{Slices, Outcome}
use Rattle.cell_question.specs.CellQuestion.{cell_asked}
use Rattle.slips.specs.Calls.{slip_call}
use Rattle.writer.specs.Calls.{write_call}
use Rattle.seasons.specs.Calls.{season_call}
use Rattle.hours.specs.Calls.{hours_call, season_hours_call}
use Rattle.abi.specs.Telling.{Tells}

abbrev pub ReadPermits : ℕ → Delivery → List Row → ℕ → List ℕ → List Row → Type 0
ReadPermits n d slice r place book = Tells r place (read_call n d slice).verdict × (book ≡ (read_call n d slice).book)

abbrev pub SlipPermits : Bytes → List Row → List Row → ℕ → List ℕ → List Row → List Row → Type 0
SlipPermits s slice area r place book work =
    Tells r place (slip_call s slice area).verdict × (book ≡ (slip_call s slice area).book) × (work ≡ (slip_call s slice area).work)

-- the answer is 1 and a number, or 2 and a stretch, or 3 or 4 and the access equipment, or zeros
abbrev pub CellPermits : ℕ → Bytes → ℕ → ℕ → ℕ → ℕ → List ℕ → List ℕ → Type 0
CellPermits n s table line k r place answer = Tells r place (cell_asked n s table line k).verdict × (answer ≡ values (cell_asked n s table line k).cell)

-- the answer is the seconds and the count
abbrev pub TypePermits : List Row → ℕ → ℕ → ℕ → List ℕ → List ℕ → Type 0
TypePermits book version type r place answer =
    Tells r place (type_call book version type).verdict × (answer ≡ (type_call book version type).seconds ∷ (type_call book version type).count ∷ [])

-- the answer is the seven numbers
abbrev pub BlockPermits : List Row → ℕ → ℕ → ℕ → ℕ → ℕ → List ℕ → List ℕ → Type 0
BlockPermits book version day depot block r place answer =
    Tells r place (block_call book version day depot block).verdict × (answer ≡ (block_call book version day depot block).numbers)

-- the answer is the seconds
abbrev pub SeasonPermits : List Row → ℕ → ℕ → ℕ → ℕ → ℕ → List ℕ → List ℕ → Type 0
SeasonPermits book version type first last r place answer =
    Tells r place (season_call book version type first last).verdict × (answer ≡ (season_call book version type first last).seconds ∷ [])

-- the answer is the quotient and the clerk's sum
abbrev pub HoursPermits : List Row → ℕ → ℕ → ℕ → List ℕ → List Float → Type 0
HoursPermits book version type r place answer =
    Tells r place (hours_call book version type).verdict × (answer ≡ (hours_call book version type).hours ∷ (hours_call book version type).summed ∷ [])

-- the answer is the quotient
abbrev pub SeasonHoursPermits : List Row → ℕ → ℕ → ℕ → ℕ → ℕ → List ℕ → List Float → Type 0
SeasonHoursPermits book version type first last r place answer =
    Tells r place (season_hours_call book version type first last).verdict × (answer ≡ (season_hours_call book version type first last).hours ∷ [])

-- the length is one number
abbrev pub WritePermits : List Row → Bytes → ℕ → List ℕ → List ℕ → Bytes → Type 0
WritePermits book buffer r place size out =
    Tells r place (write_call book buffer).verdict × (size ≡ (write_call book buffer).size ∷ []) × (out ≡ (write_call book buffer).out)

-- a call by radio: what the three lent slices hold behind it
abbrev pub RadioPermits : Outcome → ℕ → List ℕ → Slices → Type 0
RadioPermits o r place s = Tells r place o.verdict × (s ≡ o.slices)
