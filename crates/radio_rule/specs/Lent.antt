-- What is kept between parts, as it is lent.
use Rattle.std.specs.Prelude.{List, ℕ}
use Rattle.words.specs.Words.{Bytes, Row}
use Rattle.radio.specs.Room.{Slices}

abbrev pub slices : List Row → List ℕ → Bytes → Slices
slices b k l = record { book = b; numbers = k; lines = l }
