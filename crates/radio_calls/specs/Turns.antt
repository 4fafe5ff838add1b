-- Which calls are let in, by the rule and the turn.
-- Inner: no promise and no contract of a public function speaks of it.
use Rattle.std.specs.Prelude.{◌&&◌, ℕ, leb, Ok}
use Rattle.words.specs.Words.{whether◌then◌else◌}
use Rattle.refusals.specs.Verdicts.{nowhere, bad_loan, not_there, Verdict}
use Rattle.radio.specs.Room.{Slices, turn_of, keeps_radio}

-- a call that is in turn from this turn to that: "handed in against that rule it is 16, before 15", and "a call out of turn is 15"
abbrev pub admitted : ℕ → ℕ → Slices → Verdict
admitted first last s =
    whether keeps_radio s then (whether leb first (turn_of s.numbers) && leb (turn_of s.numbers) last then Ok tt else nowhere not_there)
    else nowhere bad_loan
