-- The blocks of a type, tallied one by one. Assumes nothing.
use mathlib.Core.Path.{◌≡◌, refl, sym, ◌∙◌}
use mathlib.Core.List.{List, [], ◌∷◌}
use mathlib.Core.Bool.{Bool, true, false}
use Prim.Native.Nat.{ℕ, suc, ◌+◌, ◌*◌, ◌≤◌, ◌<◌}
use native.Mathlib.Omega.{arith}
use native.Mathlib.Nat.{mul-suc}
use lib.Dec.{eqb, ltb}
use lib.ListN.{length, get_or, take, drop, set, length-set, drop_of_length-le}
use borrow.Author.Tests.{eqb-true, eqb-false, eq-eqb, ltb-true, ltb-false}
use Rattle.words.specs.Words.{Row, whether◌then◌else◌}
use Rattle.words.proofs.Lists.{drop_step, and_left}
use Rattle.rows.specs.Rows.{column, key_order, rising}
use Rattle.std.specs.declared.cmp.Ordering.TheVariants.{Less, Greater}
use Rattle.rows.proofs.Keys.{step_eq, step_gt}
use Rattle.rows.proofs.Rising.{rising_true, rising_at}
use Rattle.book.specs.Room.{book_of}
use Rattle.rules.specs.Rules.{seconds}
use Rattle.keeping.specs.Keeping.{keeps_rule}
use Rattle.questions.specs.Questions.{of_type, total}
use Rattle.questions.proofs.Sums.{block_seconds}
use Rattle.day_tally.specs.Tally.{runs_on, seconds_on, kind_at, seconds_at, held, shares, added, last_of, Rises, Tallied}
use Rattle.day_tally.proofs.Shares.{held_last, same_held, same_kind, same_rises, new_held, new_kind, new_rises}

-- blocks of less than a million seconds, as those of a book are
abbrev pub Short : List Row → Type 0
Short blocks = (i : ℕ) → i < length blocks → seconds (get_or blocks i []) ≤ 999999

pub book_short : (xs : List Row) → keeps_rule xs ≡ true → Short (book_of xs).blocks
book_short xs k i h = block_seconds xs k i (get_or (book_of xs).blocks i []) h refl

share_most : (here : Bool) (w most : ℕ) → w ≤ most → (whether here then w else 0) ≤ most
share_most true w most h = h
share_most false w most h = omega arith

module _ (version type kind : ℕ) where
  pub seconds_few : (blocks : List Row) → Short blocks → seconds_on version type kind blocks ≤ 999999 * length blocks
  unfolding total
  seconds_few [] short = omega arith
  seconds_few (x ∷ xs) short =
      let own : runs_on kind x ≤ 999999 = share_most (eqb kind (column 2 x)) (seconds x) 999999 (short 0 (omega arith)) in
      let here = share_most (of_type version type x) (runs_on kind x) 999999 own in
      let rest = seconds_few xs (λ i h. short (suc i) (omega arith)) in
      omega (arith, here, rest, mul-suc 999999 (length xs))

-- of two blocks of a version the later one's day type is not below the other's
later_kind : (blocks : List Row) → rising 4 blocks ≡ true → (i j : ℕ) → i < j → j < length blocks
    → get_or (get_or blocks i []) 0 0 ≡ get_or (get_or blocks j []) 0 0 → get_or (get_or blocks i []) 1 0 ≤ get_or (get_or blocks j []) 1 0
later_kind blocks r i j l h e = go (ltb (get_or (get_or blocks j []) 1 0) (get_or (get_or blocks i []) 1 0)) refl
  where
    go : (t : Bool) → ltb (get_or (get_or blocks j []) 1 0) (get_or (get_or blocks i []) 1 0) ≡ t → get_or (get_or blocks i []) 1 0 ≤ get_or (get_or blocks j []) 1 0
    go true q =
        let x = get_or blocks i [] in
        let y = get_or blocks j [] in
        let less : key_order 4 x y ≡ Less = rising_at 4 blocks (rising_true 4 blocks r) i j l h in
        let more : key_order 4 x y ≡ Greater = step_eq 3 0 x y e ∙ step_gt 2 1 x y (ltb-true (get_or y 1 0) (get_or x 1 0) q) in
        let z : ◌≡◌ {A = ℕ} 0 1 = cc in
        absurd (omega arith)
    go false q = ltb-false (get_or (get_or blocks j []) 1 0) (get_or (get_or blocks i []) 1 0) q

type_version : (version type : ℕ) (row : Row) → of_type version type row ≡ true → get_or row 0 0 ≡ version
type_version version type row e = eqb-true (get_or row 0 0) version (and_left (eqb (get_or row 0 0) version) (eqb (get_or row 4 0) type) e)

-- the first i blocks are tallied, and the others are of no lower day types
pub record Sofar (version type : ℕ) (blocks tally : List Row) (at i : ℕ) : Type 0 where
  pub few : at ≤ i
  pub long : length tally ≡ 513
  pub rises : Rises tally at
  pub behind : (j : ℕ) → i ≤ j → j < length blocks → of_type version type (get_or blocks j []) ≡ true → kind_at tally at ≤ get_or (get_or blocks j []) 1 0
  pub whole : (k : ℕ) → seconds_on version type k blocks ≡ held k (shares tally at) + seconds_on version type k (drop i blocks)

-- the tally and its last place behind a block, by whether it is of the type
abbrev pub tally_with : Bool → Row → ℕ → List Row → List Row
tally_with here row at tally = whether here then added at (column 2 row) (seconds row) tally else tally

abbrev pub place_with : Bool → Row → ℕ → List Row → ℕ
place_with here row at tally = whether here then last_of at (column 2 row) tally else at

module _ (version type : ℕ) (blocks : List Row) where
  -- day type 0 without seconds holds none
  no_seconds : (k : ℕ) (t : Bool) → held k [] + (whether t then 0 else 0) ≡ 0
  unfolding held
  no_seconds k true = refl
  no_seconds k false = refl

  pub sofar_none : (room tally : List Row) → length room ≡ 513 → tally ≡ set room 0 (0 ∷ 0 ∷ []) → Sofar version type blocks tally 0 0
  sofar_none [] tally l e = absurd (omega arith)
  sofar_none (x ∷ xs) tally l e = rw e record {
    few = omega arith;
    long = l;
    rises = λ p q a b. absurd (omega arith);
    behind = λ j a b c. omega arith;
    whole = λ k.
        let z : held k (shares ((0 ∷ 0 ∷ []) ∷ xs) 0) ≡ 0 = held_last k ((0 ∷ 0 ∷ []) ∷ xs) 0 (omega arith) ∙ no_seconds k (eqb k 0) in
        omega (arith, z);
  }

  module _ (tally : List Row) (at i : ℕ) (sofar : Sofar version type blocks tally at i) where
    pub sofar_most : length blocks ≤ 512 → Short blocks → at < 513 → seconds_at tally at ≤ 512 * 999999
    sofar_most n short h =
        let k = kind_at tally at in
        let own : held k (shares tally at) ≡ held k (take at tally) + seconds_at tally at = held_last k tally at (omega (arith, sofar.long)) ∙ rw (eq-eqb k k refl) refl in
        omega (arith, own, sofar.whole k, seconds_few version type k blocks short)

    module _ (up : rising 4 blocks ≡ true) (h : i < length blocks) (room : length blocks ≤ 512) where
      abbrev row : Row
      row = get_or blocks i []

      step : (k : ℕ) (here : Bool) → of_type version type row ≡ here
          → seconds_on version type k (drop i blocks) ≡ (whether here then runs_on k row else 0) + seconds_on version type k (drop (i + 1) blocks)
      unfolding total
      step k here e = rw (drop_step [] blocks i h, e)

      next : (here same : Bool) → of_type version type row ≡ here → eqb (kind_at tally at) (column 2 row) ≡ same
          → Sofar version type blocks
          (whether here then (whether same then set tally at (column 2 row ∷ (seconds_at tally at + seconds row) ∷ []) else set tally (at + 1) (column 2 row ∷ seconds row ∷ [])) else tally)
          (whether here then (whether same then at else at + 1) else at)
          (i + 1)
      next false same e f = record {
        few = omega (arith, sofar.few);
        long = sofar.long;
        rises = sofar.rises;
        behind = λ j a b c. sofar.behind j (omega arith) b c;
        whole = λ k. omega (arith, sofar.whole k, step k false e);
      }
      next true true e f =
          let own : kind_at tally at ≡ column 2 row = eqb-true (kind_at tally at) (column 2 row) f in
          let within : at < length tally = omega (arith, sofar.few, sofar.long) in
          record {
            few = omega (arith, sofar.few);
            long = length-set tally at (column 2 row ∷ (seconds_at tally at + seconds row) ∷ []) ∙ sofar.long;
            rises = same_rises tally at (column 2 row) (seconds row) within own sofar.rises;
            behind = λ j a b c. rw (same_kind tally at (column 2 row) (seconds row) within own at) (sofar.behind j (omega arith) b c);
            whole = λ k. omega (arith, sofar.whole k, step k true e, same_held tally at (column 2 row) (seconds row) within own k);
          }
      next true false e f =
          let above : kind_at tally at < column 2 row = omega (arith, sofar.behind i (omega arith) h e, eqb-false (kind_at tally at) (column 2 row) f) in
          let within : at + 1 < length tally = omega (arith, sofar.few, sofar.long) in
          record {
            few = omega (arith, sofar.few);
            long = length-set tally (at + 1) (column 2 row ∷ seconds row ∷ []) ∙ sofar.long;
            rises = new_rises tally at (column 2 row) (seconds row) within above sofar.rises;
            behind = λ j a b c. rw (new_kind tally at (column 2 row) (seconds row) within)
                (later_kind blocks up i j (omega arith) b (type_version version type row e ∙ sym (type_version version type (get_or blocks j []) c)));
            whole = λ k. omega (arith, sofar.whole k, step k true e, new_held tally at (column 2 row) (seconds row) within k);
          }

      pub sofar_next : (block : Row) → block ≡ row → (tally' : List Row) (m : ℕ) → tally' ≡ tally_with (of_type version type block) block at tally
          → m ≡ place_with (of_type version type block) block at tally → Sofar version type blocks tally' m (i + 1)
      sofar_next block e tally' m s p = rw (s, p, e) (next (of_type version type row) (eqb (kind_at tally at) (column 2 row)) refl refl)

    pub sofar_all : length blocks ≤ i → length blocks ≤ 512 → Short blocks → at < 513 → Tallied version type blocks tally at
    unfolding total
    sofar_all h n short l = record {
      counts = λ k.
          let z : seconds_on version type k (drop i blocks) ≡ 0 = rw (drop_of_length-le blocks h) in
          omega (arith, z, sofar.whole k);
      most = λ k. omega (arith, sofar.whole k, seconds_few version type k blocks short);
      rises = sofar.rises;
      within = omega (arith, sofar.long);
    }
