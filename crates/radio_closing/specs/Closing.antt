-- What the code of a close asks and leaves.
-- Inner: no promise and no contract of a public function speaks of it.
use Rattle.std.specs.Prelude.{◌≡◌, List, Bool, false, not, ◌&&◌, ℕ, eqb, Ok}
use Rattle.words.specs.Words.{Bytes, Row, whether◌then◌else◌}
use Rattle.refusals.specs.Verdicts.{Verdict}
use Rattle.book.specs.Holding.{Sound, result_of}
use Rattle.book.specs.Result.{Result}
use Rattle.radio.specs.Radio.{next, closing, verdict_of}
use Rattle.radio.specs.Room.{Outcome, outcome, announced_of, come_of, course_in, laid_out, line_of, rest_of, flag_of, place_of}
use Rattle.radio_rule.specs.Lent.{slices}
use Rattle.radio_slices.specs.Hearing.{table_of}

-- a fault is kept, and it is not this table's
abbrev pub earlier_fault : ℕ → List ℕ → Bool
earlier_fault table kept = whether eqb (flag_of kept) 0 then false else not (eqb (place_of kept).table table)

-- whether no line is left: "after a final line feed no further line begins", and the header line always is one
abbrev pub none_left : List ℕ → Bool
none_left kept = not (eqb (line_of kept) 1) && eqb (rest_of kept) 0

-- a table came to this: where it is accepted, the slice holds a book
pub record Comes (r : Result) (v : Verdict) (book : List Row) : Type 0 where
  pub is : result_of v book ≡ r
  pub sound : v ≡ Ok tt → Sound book

-- a table that is heard is closed: what its close answers, and what the slices hold behind it
abbrev pub closed_heard : List Row → List ℕ → Bytes → Outcome
closed_heard book kept lines =
    let r = closing (table_of kept) (announced_of kept) (come_of kept) (course_in (slices book kept lines)) in
    outcome (verdict_of r) (laid_out (next (table_of kept) r))
