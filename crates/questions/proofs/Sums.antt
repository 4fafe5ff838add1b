-- What the blocks of a type weigh together, block by block, and the bound of each block's seconds. Assumes nothing.
use mathlib.Core.Path.{◌≡◌, refl}
use mathlib.Core.List.{List, [], ◌∷◌}
use mathlib.Core.Bool.{true, Bool, ◌&&◌, not, false}
use Prim.Native.Nat.{ℕ, zero, suc, ◌≤◌, ◌<◌, ◌+◌, ◌*◌}
use native.Mathlib.Omega.{arith}
use native.Mathlib.Numerals.{add-one}
use native.Mathlib.Nat.{mul-suc}
use lib.ListN.{length, get_or, take, drop, drop_of_length-le}
use lib.Seq.{get_or-take}
use Rattle.words.specs.Words.{Row, same}
use Rattle.words.proofs.Lists.{and_left, and_right, drop_step}
use Rattle.refusals.specs.Verdicts.{passes}
use Rattle.rows.specs.Rows.{wide}
use Rattle.tables.specs.Columns.{Column, no_column, in_range, columns_of, column_at, kept_width}
use Rattle.tables.specs.declared.Table.{Table}
use Rattle.tables.specs.declared.Table.TheVariants.{Block}
use Rattle.tables.proofs.Figures.{kept_columns}
use Rattle.ranges.proofs.Ranges.{range_within}
use Rattle.book.specs.Book.{Book}
use Rattle.book.specs.Room.{book_of}
use Rattle.book.proofs.Laying.{orderly_book}
use Rattle.rules.specs.Rules.{time_fault, unknown, seconds}
use Rattle.rules.proofs.Timing.{seconds_most}
use Rattle.keeping.specs.Keeping.{ranged, lawful, keeps_rule}
use Rattle.keeping.proofs.Keeping.{keeps_row, keeps_sound}
use Rattle.questions.specs.Questions.{of_type, total}

-- a lawful row ----------------------------------------------------------------------------------------------------------------------

ranged_high : (xs : List Column) (ns : List ℕ) → ranged xs ns ≡ true → (i : ℕ) → i < length xs → get_or ns i 0 ≤ (get_or xs i no_column).rules.high
unfolding ranged
ranged_high [] ns e i h = absurd (omega arith)
ranged_high (x ∷ xs) [] e i h = omega arith
ranged_high (x ∷ xs) (n ∷ ns) e zero h = (range_within x.rules n (and_left (in_range x.rules n) (ranged xs ns) e)).1
ranged_high (x ∷ xs) (n ∷ ns) e (suc i) h = ranged_high xs ns (and_right (in_range x.rules n) (ranged xs ns) e) i (omega arith)

module _ (t : Table) (b : Book) (row : Row) (law : lawful t b row ≡ true) where
  abbrev rest : Bool
  rest = same row (wide (take (kept_width t) row))

  abbrev in_ranges : Bool
  in_ranges = ranged (columns_of b.edition t) (take (kept_width t) row)

  three : (rest && in_ranges && not (time_fault t row)) ≡ true
  three = and_left (rest && in_ranges && not (time_fault t row)) (passes (unknown t row b)) law

  -- no number that is kept is above its column's range
  pub lawful_high : (i : ℕ) → i < kept_width t → get_or row i 0 ≤ (column_at b.edition t i).rules.high
  lawful_high i h =
      let e : in_ranges ≡ true = and_right rest in_ranges (and_left (rest && in_ranges) (not (time_fault t row)) three) in
      rw (get_or-take (kept_width t) row i 0 h) at (ranged_high (columns_of b.edition t) (take (kept_width t) row) e i (omega (arith, kept_columns b.edition t)))

-- END has six digits, and a block that runs into the next day is shorter than a day
pub block_seconds : (xs : List Row) → keeps_rule xs ≡ true → (i : ℕ) (row : Row) → i < length (book_of xs).blocks → row ≡ get_or (book_of xs).blocks i []
    → seconds row ≤ 999999
unfolding columns_of
block_seconds xs k i row h e =
    let law : lawful Block (book_of xs) row ≡ true = rw e (keeps_row xs k Block i h) in
    seconds_most row 999999 (omega arith) (lawful_high Block (book_of xs) row law 10 (omega arith))

-- a slice that is the blocks
module _ (xs rs : List Row) (k : keeps_rule xs ≡ true) (e : rs ≡ (book_of xs).blocks) where
  pub blocks_few : length rs ≤ 512
  blocks_few = rw e ((orderly_book xs (keeps_sound xs k)).few Block)

  pub each_seconds : (i : ℕ) → i < length rs → seconds (get_or rs i []) ≤ 999999
  each_seconds i h = rw e (block_seconds xs k i (get_or (book_of xs).blocks i []) (rw e at h) refl)

-- sums ---------------------------------------------------------------------------------------------------------------------------------

-- the first i of rows are summed up, and none of them weighs more than `most`
pub record Summed (weight : Row → ℕ) (version type : ℕ) (rs : List Row) (most i sum : ℕ) : Type 0 where
  pub bound : sum ≤ most * i
  pub whole : total weight version type rs ≡ sum + total weight version type (drop i rs)

module _ (weight : Row → ℕ) (version type : ℕ) (rs : List Row) (most : ℕ) where
  pub summed_none : Summed weight version type rs most 0 0
  summed_none = record { bound = omega arith; whole = omega arith }

  module _ (i sum : ℕ) (sofar : Summed weight version type rs most i sum) where
    -- a block of the type adds its weight
    pub summed_more : i < length rs → of_type version type (get_or rs i []) ≡ true → weight (get_or rs i []) ≤ most
        → Summed weight version type rs most (i + 1) (sum + weight (get_or rs i []))
    unfolding total
    summed_more h here m =
        let p : most * (i + 1) ≡ most * i + most = rw (add-one i) (mul-suc most i) in
        let s : total weight version type (drop i rs) ≡ weight (get_or rs i []) + total weight version type (drop (i + 1) rs) = rw (drop_step [] rs i h, here) in
        record { bound = omega (arith, sofar.bound); whole = omega (arith, sofar.whole) }

    -- another adds nothing
    pub summed_same : i < length rs → of_type version type (get_or rs i []) ≡ false → Summed weight version type rs most (i + 1) sum
    unfolding total
    summed_same h here =
        let p : most * (i + 1) ≡ most * i + most = rw (add-one i) (mul-suc most i) in
        let s : total weight version type (drop i rs) ≡ total weight version type (drop (i + 1) rs) = rw (drop_step [] rs i h, here) (omega arith) in
        record { bound = omega (arith, sofar.bound); whole = omega (arith, sofar.whole) }

    pub summed_all : length rs ≤ i → sum ≡ total weight version type rs
    unfolding total
    summed_all h =
        let z : total weight version type (drop i rs) ≡ 0 = rw (drop_of_length-le rs h) in
        omega (arith, sofar.whole)
