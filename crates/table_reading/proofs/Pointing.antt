-- A reading leaves no stop point without its stop. Assumes nothing.
use mathlib.Core.Path.{◌≡◌, refl, sym, subst}
use mathlib.Core.List.{List, [], ◌∷◌}
use mathlib.Core.Bool.{true}
use Prim.Native.Nat.{ℕ}
use Rattle.words.specs.Words.{Bytes}
use Rattle.refusals.proofs.Chaining.{both}
use Rattle.refusals.specs.Verdicts.{◌⊳◌, ◌when◌, too_many_rows, key_stands, ends_early, placed, Check, Verdict}
use Rattle.std.specs.Prelude.{Ok, Err}
use Rattle.lines.specs.Lines.{line_after, lines, head_line, row_lines}
use Rattle.cells.specs.Cells.{cut, cells_of}
use Rattle.tables.specs.Columns.{columns_of, number}
use Rattle.tables.specs.declared.Table.{Table}
use Rattle.values.specs.Values.{bad_cell}
use Rattle.book.specs.Book.{Book, knows, full, entered}
use Rattle.book.specs.Result.{Result, leaves, unless}
use Rattle.rules.specs.Rules.{time_fault, unknown, ruled}
use Rattle.rules.specs.Points.{points_named, NamedIn}
use Rattle.rules.proofs.Points.{entered_named}
use Rattle.header.specs.Header.{Header, cut_check, contents, header_of, top_faults}
use Rattle.row_line.specs.RowLine.{row_read}
use Rattle.table_lines.specs.Reading.{judged, rows_read}
use Rattle.table_reading.specs.Reading.{table_read}

-- a line that passes has its references
passes_known : (t : Table) (h : Header) (line : Bytes) (b : Book) → judged t h line b ≡ Ok tt → unknown t (row_read b.edition t h line) b ≡ Ok tt
unfolding judged
passes_known t h line b p =
    let row = row_read b.edition t h line in
    let cells = bad_cell 1 (columns_of b.edition t) (contents b.edition t h (cells_of (cut b.edition line))) in
    let behind-5 = (both (too_many_rows when full t b) (cut_check b.edition h line ⊳ cells ⊳ ruled t row b) p).1 in
    let behind-7 = (both (cut_check b.edition h line) (cells ⊳ ruled t row b) behind-5).1 in
    let behind-8 = (both cells (ruled t row b) behind-7).1 in
    let behind-11 = (both (ends_early when time_fault t row) (key_stands when knows t row b ⊳ unknown t row b) behind-8).1 in
    (both (key_stands when knows t row b) (unknown t row b) behind-11).1

rows_named : (t : Table) (h : Header) (i : ℕ) (ls : List Bytes) (b : Book) → points_named b ≡ true → NamedIn (rows_read t h i ls b)
unfolding rows_read
rows_named t h i [] b e = e
rows_named t h i (l ∷ ls) b e =
    go (judged t h l b) refl (λ p. rows_named t h (line_after b.edition i l) ls (entered t (row_read b.edition t h l) b) (entered_named t (row_read b.edition t h l) b (passes_known t h l b p) e))
  where
    go : (c : Check) → judged t h l b ≡ c → (judged t h l b ≡ Ok tt → NamedIn (rows_read t h (line_after b.edition i l) ls (entered t (row_read b.edition t h l) b)))
        → NamedIn (unless (placed (number t) i c) (rows_read t h (line_after b.edition i l) ls (entered t (row_read b.edition t h l) b)))
    go (Ok _) q k = k q
    go (Err f) q k = tt

module _ (t : Table) (h : Header) (i : ℕ) (b : Book) (left : Result) where
  pub rows_left : (ls : List Bytes) → left ≡ rows_read t h i ls b → points_named b ≡ true → NamedIn left
  rows_left ls e p = subst NamedIn (sym e) (rows_named t h i ls b p)

  pub line_left : (l : Bytes) → left ≡ unless (placed (number t) i (judged t h l b)) (leaves (entered t (row_read b.edition t h l) b)) → points_named b ≡ true → NamedIn left
  unfolding rows_read
  line_left l e p = rows_left (l ∷ []) e p

unless_named : (v : Verdict) (r : Result) → NamedIn r → NamedIn (unless v r)
unless_named (Ok _) r k = k
unless_named (Err p) r k = tt

table_named : (t : Table) (s : Bytes) (b : Book) → points_named b ≡ true → NamedIn (table_read t s b)
unfolding table_read
table_named t s b e = unless_named (top_faults b.edition t s) _ (rows_named t (header_of b.edition t s) (line_after b.edition 1 (head_line (lines b.edition s))) (row_lines (lines b.edition s)) b e)

pub table_left : (t : Table) (s : Bytes) (b : Book) (left : Result) → left ≡ table_read t s b → points_named b ≡ true → NamedIn left
table_left t s b left e p = subst NamedIn (sym e) (table_named t s b p)
