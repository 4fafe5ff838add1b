-- The days of a book's calendar are dates. Assumes nothing.
use mathlib.Core.Path.{◌≡◌, refl}
use mathlib.Core.List.{List, [], ◌∷◌}
use mathlib.Core.Bool.{Bool, true, false, ◌&&◌, not}
use Prim.Native.Nat.{ℕ, suc, ◌<◌}
use native.Mathlib.Omega.{arith}
use lib.Dec.{leb, eqb}
use lib.ListN.{length, get_or, take, drop}
use Rattle.words.specs.Words.{Row, same, all}
use Rattle.words.proofs.Lists.{and_left, and_right}
use Rattle.refusals.specs.Verdicts.{passes}
use Rattle.dates.specs.Calendar.{is_date}
use Rattle.rows.specs.Rows.{column, wide}
use Rattle.tables.specs.Columns.{in_range, columns_of, column_at, kept_width}
use Rattle.tables.specs.declared.Table.TheVariants.{Calendar}
use Rattle.book.specs.Book.{Book}
use Rattle.book.specs.Room.{book_of}
use Rattle.rules.specs.Rules.{time_fault, unknown}
use Rattle.keeping.specs.Keeping.{ranged, lawful}
use Rattle.keeping.proofs.Keeping.{keeps_row}
use Rattle.seasons.specs.Claims.{DaysDated}

no_row_lem : ◌≡◌ {A = Bool} false true → ⊥
no_row_lem e = let z : ◌≡◌ {A = ℕ} 0 1 = cc in omega arith

module _ (b : Book) where
  abbrev in_ranges : Row → Bool
  in_ranges row = ranged (columns_of b.edition Calendar) (take (kept_width Calendar) row)

  second_dated : (row : Row) → same row (wide (take (kept_width Calendar) row)) ≡ true → in_ranges row ≡ true → is_date (column 2 row) ≡ true
  unfolding columns_of ranged same
  second_dated [] e r = absurd (no_row_lem e)
  second_dated (x ∷ []) e r = absurd (no_row_lem (and_right (eqb x x) false e))
  second_dated (x ∷ (y ∷ ys)) e r =
      let rest = ranged (drop 2 (columns_of b.edition Calendar)) (take 1 ys) in
      let day : in_range (column_at b.edition Calendar 1).rules y ≡ true =
      and_left (in_range (column_at b.edition Calendar 1).rules y) rest
      (and_right (in_range (column_at b.edition Calendar 0).rules x) (in_range (column_at b.edition Calendar 1).rules y && rest) r) in
      and_right (leb (column_at b.edition Calendar 1).rules.low y && leb y (column_at b.edition Calendar 1).rules.high) (is_date y) day

  day_dated : (row : Row) → lawful Calendar b row ≡ true → is_date (column 2 row) ≡ true
  day_dated row law =
      let rest = same row (wide (take (kept_width Calendar) row)) in
      let late = not (time_fault Calendar row) in
      let two : (rest && in_ranges row) ≡ true = and_left (rest && in_ranges row) late (and_left (rest && in_ranges row && late) (passes (unknown Calendar row b)) law) in
      second_dated row (and_left rest (in_ranges row) two) (and_right rest (in_ranges row) two)

all_places : (f : Row → Bool) (xs : List Row) → ((i : ℕ) → i < length xs → f (get_or xs i []) ≡ true) → all f xs ≡ true
unfolding all
all_places f [] h = refl
all_places f (x ∷ xs) h = rw (h 0 (omega arith), all_places f xs (λ i l. h (suc i) (omega arith)))

pub days_dated : DaysDated
days_dated xs k =
    all_places (λ x. is_date (column 2 x)) (book_of xs).days
    (λ i h. day_dated (book_of xs) (get_or (book_of xs).days i []) (keeps_row xs k Calendar i h))
