-- What the calls of a delivery by radio answer, and what the lent slices hold behind them.
use Rattle.std.specs.Prelude.{◌≡◌, ℕ}
use Rattle.radio.specs.Radio.{Call}
use Rattle.radio.specs.Room.{Slices, Outcome, radio_call, open_call}

-- what the contract of `open` permits of an edition's number and lent slices: one verdict, and one content behind it
abbrev pub OpenPermits : ℕ → Slices → Outcome → Type 0
OpenPermits n s o = o ≡ open_call n s

-- and those of `announce`, `part` and `close`
abbrev pub RadioPermits : Call → Slices → Outcome → Type 0
RadioPermits c s o = o ≡ radio_call c s
