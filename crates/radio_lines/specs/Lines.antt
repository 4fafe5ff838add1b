-- What the code keeps of a table between its lines, in a lent book and a lent slice of bytes.
-- Inner: no promise and no contract of a public function speaks of it.
use Rattle.std.specs.Prelude.{◌≡◌, List, [], ◌∷◌, ◌++◌, true, ℕ, ◌≤◌, length, take, drop, Ok, Err}
use Rattle.words.specs.Words.{Bytes, Row, whether◌then◌else◌}
use Rattle.refusals.specs.Verdicts.{Verdict}
use Rattle.refusals.specs.declared.Place.{Place}
use Rattle.lines.specs.Lines.{most_line}
use Rattle.editions.specs.declared.Edition.{Edition}
use Rattle.tables.specs.declared.Table.{Table}
use Rattle.book.specs.Holding.{Sound}
use Rattle.book.specs.Room.{book_of}
use Rattle.rules.specs.Points.{points_named}
use Rattle.header.specs.Header.{header_check}
use Rattle.radio.specs.Radio.{Course, stopped, going, ends_line, kept_line}
use Rattle.radio.specs.Room.{radio_bytes}
use Rattle.radio_lines.specs.declared.Heard.{Heard}

-- a verdict, the number of the unfinished line, and the lengths of the two lines that are kept: what a table came to so far
abbrev pub course_held : Verdict → ℕ → ℕ → ℕ → List Row → Bytes → Course
course_held (Ok _) i head rest book lines = going (book_of book) i (take head lines) (take rest (drop most_line lines))
course_held (Err p) i head rest book lines = stopped p

-- of a table that goes on
abbrev pub kept : Heard → List Row → Bytes → Course
kept h book lines = course_held (Ok tt) h.line h.head h.rest book lines

-- what is kept can go on: a book that holds its rules, and a header that passed its checks behind the first line
pub record Holding (t : Table) (h : Heard) (book : List Row) (lines : Bytes) : Type 0 where
  pub sound : Sound book
  pub named : points_named (book_of book) ≡ true
  pub long : length lines ≡ radio_bytes
  pub heads : h.head ≤ most_line
  pub rests : h.rest ≤ kept_line
  pub begun : 1 ≤ h.line
  pub first : h.line ≡ 1 → h.head ≡ 0
  pub headed : (h.line ≡ 1 → ⊥) → header_check (book_of book).edition t (take h.head lines) ≡ Ok tt

-- what was heard came to this; behind a refusal nothing is said of the book and the lines
pub record CameTo (t : Table) (c : Course) (book : List Row) (lines : Bytes) (h : Heard) : Type 0 where
  pub is : course_held h.verdict h.line h.head h.rest book lines ≡ c
  pub holds : h.verdict ≡ Ok tt → Holding t h book lines

-- a verdict that stops a table
pub record Stopping (v : Verdict) (c : Course) : Type 0 where
  pub at : Place
  pub refused : v ≡ Err at
  pub is : c ≡ stopped at

-- these bytes, behind some of a line, are lines that are finished
unfoldable pub Finished : Edition → Bytes → Bytes → Type 0
Finished e rest [] = rest ≡ []
Finished e rest (x ∷ s) = Finished e (whether ends_line e rest x then [] else rest ++ (x ∷ [])) s
