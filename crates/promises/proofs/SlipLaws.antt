-- What a slip's lines leave: blocks that stand by right, on the same other tables. Assumes nothing.
use mathlib.Core.Path.{◌≡◌, refl, ◌∙◌, ap, sym, subst}
use mathlib.Core.List.{List, [], ◌∷◌, map}
use mathlib.Core.Bool.{Bool, true, false}
use Prim.Native.Nat.{ℕ, zero, suc, ◌<◌}
use native.Mathlib.Omega.{arith}
use lib.Dec.{eqb}
use lib.ListN.{length, take, length-map}
use lib.Seq.{take_all}
use borrow.Author.Tests.{eqb-true, leb-false}
use Rattle.words.specs.Words.{Row, Bytes}
use Rattle.refusals.proofs.Chaining.{both}
use Rattle.std.specs.Prelude.{Ok, Err}
use Rattle.refusals.specs.Verdicts.{◌⊳◌, ◌when◌, too_many_rows, ends_early, key_stands, placed, place, in_text, text_too_long, Check}
use Rattle.lines.specs.Lines.{slip_lines, overlong}
use Rattle.numbers.specs.Numbers.{value}
use Rattle.fields.specs.Fields.{fields}
use Rattle.rows.specs.Rows.{key_order, replaced, removed, wide}
use Rattle.std.specs.declared.cmp.Ordering.{Ordering}
use Rattle.std.specs.declared.cmp.Ordering.TheVariants.{Less, Equal, Greater}
use Rattle.rows.proofs.Rising.{rising_removed, rising_replaced}
use Rattle.rows.proofs.Changes.{length_removed_most, length_replaced}
use Rattle.editions.specs.declared.Edition.{Edition}
use Rattle.tables.specs.declared.Table.TheVariants.{Block}
use Rattle.tables.specs.Columns.{columns_of}
use Rattle.book.specs.Book.{Book, with_rows, full, knows}
use Rattle.book.specs.Result.{leaves, refused, unless, Result}
use Rattle.rules.specs.Rules.{time_fault, unknown, ruled}
use Rattle.rules.proofs.Referring.{unknown_with}
use Rattle.keeping.specs.Keeping.{ranged}
use Rattle.slip_line.specs.declared.Wish.{Wish}
use Rattle.slip_line.specs.declared.Wish.TheVariants.{Add, Replace, Delete, Unknown}
use Rattle.slip_line.specs.SlipLine.{counted, numbers, letter, wish, bad_field}
use Rattle.block_change.specs.Change.{missing_block, line_judged, granted, slip_check, slip_leaves}
use Rattle.slips.specs.Slips.{lines_posted, posting, kept, posted}
use Rattle.promises.specs.Promises.{run, onward, check_at}
use Rattle.promises.proofs.HeldLaws.{Good, EachGood, Held, held_insert, held_moved}
use Rattle.promises.proofs.PlainLaws.{Eleven, eleven, eleven_long, kept_numeric, cells_ranged}
use Rattle.promises.proofs.TestLaws.{unfailed, going_on}

module _ (b : Book) (row : Row) where
  good_replaced : (xs : List Row) → Good Block b row → EachGood Block b xs → EachGood Block b (replaced 4 row xs)
  unfolding EachGood replaced
  good_replaced [] g h = tt
  good_replaced (x ∷ xs) g h = go (key_order 4 row x) refl (good_replaced xs g h.1)
    where
      go : (o : Ordering) → key_order 4 row x ≡ o → EachGood Block b (replaced 4 row xs) → EachGood Block b (replaced 4 row (x ∷ xs))
      go Less f ih = rw f (h.0, ih)
      go Equal f ih = rw f (g, h.1)
      go Greater f ih = rw f (h.0, ih)

  good_removed : (xs : List Row) → EachGood Block b xs → EachGood Block b (removed 4 row xs)
  unfolding EachGood removed
  good_removed [] h = tt
  good_removed (x ∷ xs) h = go (key_order 4 row x) refl (good_removed xs h.1)
    where
      go : (o : Ordering) → key_order 4 row x ≡ o → EachGood Block b (removed 4 row xs) → EachGood Block b (removed 4 row (x ∷ xs))
      go Less f ih = rw f (h.0, ih)
      go Equal f ih = rw f h.1
      go Greater f ih = rw f (h.0, ih)

pub held_removed : (b : Book) (row : Row) (xs : List Row) → Held Block b xs → Held Block b (removed 4 row xs)
held_removed b row xs h =
    record { rising = rising_removed 4 row xs h.rising; good = good_removed b row xs h.good; size = omega (arith, length_removed_most 4 row xs, h.size) }

-- eleven fields ------------------------------------------------------------------------------------------------------------

-- a wish to add or to replace
unfoldable pub eleven_wished : Wish → Bool
eleven_wished Add = true
eleven_wished Replace = true
eleven_wished Delete = false
eleven_wished Unknown = false

counted_eleven : (w : Wish) (n : ℕ) (t u : Bool) → eqb n 11 ≡ t → eqb n 4 ≡ u → eleven_wished (counted w n) ≡ true → n ≡ 11
unfolding eleven_wished
counted_eleven w n true u e f h = eqb-true n 11 e
counted_eleven Add n false u e f h = let x : false ≡ true = rw e at h in let z : ◌≡◌ {A = ℕ} 0 1 = cc in let y : ⊥ = omega arith in absurd y
counted_eleven Replace n false u e f h = let x : false ≡ true = rw e at h in let z : ◌≡◌ {A = ℕ} 0 1 = cc in let y : ⊥ = omega arith in absurd y
counted_eleven Delete n false true e f h = let x : false ≡ true = rw f at h in let z : ◌≡◌ {A = ℕ} 0 1 = cc in let y : ⊥ = omega arith in absurd y
counted_eleven Delete n false false e f h = let x : false ≡ true = rw f at h in let z : ◌≡◌ {A = ℕ} 0 1 = cc in let y : ⊥ = omega arith in absurd y
counted_eleven Unknown n false u e f h = let z : ◌≡◌ {A = ℕ} 0 1 = cc in let y : ⊥ = omega arith in absurd y

pub wish_eleven : (ss : List Bytes) → eleven_wished (wish ss) ≡ true → length (numbers ss) ≡ 11
unfolding eleven_wished
wish_eleven [] h = let z : ◌≡◌ {A = ℕ} 0 1 = cc in let y : ⊥ = omega arith in absurd y
wish_eleven (f ∷ fs) h = counted_eleven (letter f) (length fs) (eqb (length fs) 11) (eqb (length fs) 4) refl refl h

wished : (w v : Wish) → w ≡ v → eleven_wished v ≡ true → eleven_wished w ≡ true
wished w v e h = rw e h

-- the numbers of eleven fields that 8 is not given for
pub record Fielded (ed : Edition) (row : Row) : Type 0 where
  pub numbers : Eleven row
  pub shape : row ≡ wide (take 11 row)
  pub inside : ranged (columns_of ed Block) (take 11 row) ≡ true

eleven_wide : (row : Row) → Eleven row → row ≡ wide (take 11 row)
eleven_wide row (eleven a b c d e f g h i j k) = refl

pub fielded : (ed : Edition) (fs : List Bytes) → length fs ≡ 11 → bad_field ed fs ≡ Ok tt → Fielded ed (map value fs)
fielded ed fs n g =
    let long : length (map value fs) ≡ 11 = length-map fs value ∙ n in
    let e : Eleven (map value fs) = eleven_long (map value fs) long in
    let whole : take 11 fs ≡ fs = take_all 11 fs (omega arith) in
    let all : take 11 (map value fs) ≡ map value fs = take_all 11 (map value fs) (omega arith) in
    let r : ranged (columns_of ed Block) (map value (take 11 fs)) ≡ true = cells_ranged 11 1 (columns_of ed Block) fs (kept_numeric ed Block) g in
    record { numbers = e; shape = eleven_wide (map value fs) e; inside = rw all (rw whole at r) }

-- a line ---------------------------------------------------------------------------------------------------------------------

-- what a line leaves of a book: other blocks at most
pub record Kept (x c : Book) : Type 0 where
  pub apart : c ≡ with_rows Block c.blocks x
  pub blocks : Held Block x c.blocks

held_line : (b : Book) (ss : List Bytes) (w : Wish) → wish ss ≡ w →
    line_judged w (numbers ss) (map value (numbers ss)) b ≡ Ok tt → Held Block b b.blocks → Kept b (granted w (map value (numbers ss)) b)
unfolding eleven_wished
held_line b ss Unknown e p h = let z : ◌≡◌ {A = ℕ} 0 1 = cc in let y : ⊥ = omega arith in absurd y
held_line b ss Add e p h =
    let fs = numbers ss in
    let row = map value fs in
    let p5 = both (too_many_rows when full Block b) (bad_field b.edition fs ⊳ ruled Block row b) p in
    let p8 = both (bad_field b.edition fs) (ruled Block row b) p5.1 in
    let p11 = both (ends_early when time_fault Block row) (key_stands when knows Block row b ⊳ unknown Block row b) p8.1 in
    let p9 = both (key_stands when knows Block row b) (unknown Block row b) p11.1 in
    let n = fielded b.edition fs (wish_eleven ss (wished (wish ss) Add e refl)) p8.0 in
    record {
      apart = refl;
      blocks =
          held_insert Block b row
          (record {
            good = record { shape = n.shape; inside = n.inside; timed = unfailed 11 11 (time_fault Block row) p11.0; known = p9.1 };
            room = leb-false 512 (length b.blocks) (unfailed 5 0 (full Block b) p5.0);
            fresh = unfailed 9 0 (knows Block row b) p9.0;
          })
          h;
    }
held_line b ss Replace e p h =
    let fs = numbers ss in
    let row = map value fs in
    let p8 = both (bad_field b.edition fs) (ends_early when time_fault Block row ⊳ missing_block row b ⊳ unknown Block row b) p in
    let p11 = both (ends_early when time_fault Block row) (missing_block row b ⊳ unknown Block row b) p8.1 in
    let p13 = both (missing_block row b) (unknown Block row b) p11.1 in
    let n = fielded b.edition fs (wish_eleven ss (wished (wish ss) Replace e refl)) p8.0 in
    let good : Good Block b row = record { shape = n.shape; inside = n.inside; timed = unfailed 11 11 (time_fault Block row) p11.0; known = p13.1 } in
    record {
      apart = refl;
      blocks =
          record {
            rising = rising_replaced 4 row b.blocks h.rising;
            good = good_replaced b row b.blocks good h.good;
            size = rw length_replaced h.size;
          };
    }
held_line b ss Delete e p h = record { apart = refl; blocks = held_removed b (map value (numbers ss)) b.blocks h }

-- the rules see the same other tables
unknown_kept : (x b : Book) → b ≡ with_rows Block b.blocks x → (row : Row) → unknown Block row x ≡ unknown Block row b
unknown_kept x b e row = sym (unknown_with Block row b.blocks x) ∙ ap (λ (z : Book). unknown Block row z) (sym e)

edition_kept : (x b : Book) → b ≡ with_rows Block b.blocks x → x.edition ≡ b.edition
edition_kept x b e = sym (ap (λ (z : Book). z.edition) e)

kept_line_lem : (x b : Book) (l : Bytes) → slip_check l b ≡ Ok tt → Kept x b → Kept x (slip_leaves l b)
kept_line_lem x b l p k =
    let c : Book = slip_leaves l b in
    let n : Kept b c = held_line b (fields l) (wish (fields l)) refl p (held_moved Block x b (edition_kept x b k.apart) (unknown_kept x b k.apart) b.blocks k.blocks) in
    record {
      apart = n.apart ∙ ap (λ (z : Book). with_rows Block c.blocks z) k.apart;
      blocks = held_moved Block b x (sym (edition_kept x b k.apart)) (λ row. sym (unknown_kept x b k.apart row)) c.blocks n.blocks;
    }

-- a slip, and a run of slips -------------------------------------------------------------------------------------------------

kept_lines : (x : Book) (i : ℕ) (ls : List Bytes) (b c : Book) → Kept x b → lines_posted i ls b ≡ leaves c → Kept x c
unfolding lines_posted
kept_lines x i [] b c k e = let f : b ≡ c = cc in subst (λ (z : Book). Kept x z) f k
kept_lines x i (l ∷ ls) b c k e = go (slip_check l b) refl (kept_lines x (suc i) ls (slip_leaves l b) c) e
  where
    go : (v : Check) → slip_check l b ≡ v → (Kept x (slip_leaves l b) → lines_posted (suc i) ls (slip_leaves l b) ≡ leaves c → Kept x c) →
        unless (placed 5 i (slip_check l b)) (lines_posted (suc i) ls (slip_leaves l b)) ≡ leaves c → Kept x c
    go (Ok _) v ih f = ih (kept_line_lem x b l v k) (rw v at f)
    go (Err w) v ih f =
        let t : refused (place w.number 5 i w.column) ≡ leaves c = rw v at f in
        let z : ◌≡◌ {A = ℕ} 0 1 = cc in let y : ⊥ = omega arith in absurd y

pub kept_posted : (x : Book) (s : Bytes) (b : Book) → Kept x b → Kept x (posted s b)
unfolding posting
kept_posted x s b k = go (posting s b) refl
  where
    go : (r : Result) → posting s b ≡ r → Kept x (kept b r)
    go (refused p) e = k
    go (leaves c) e = kept_lines x 1 (slip_lines s) b c k (going_on (in_text 5 (text_too_long when overlong s)) (lines_posted 1 (slip_lines s) b) c e)

pub kept_run : (x : Book) (ss : List Bytes) (b : Book) → Kept x b → Kept x (run ss b)
unfolding run
kept_run x [] b k = k
kept_run x (s ∷ ss) b k = kept_run x ss (posted s b) (kept_posted x s b k)

-- and the lines of a slip up to one that is reached
pub kept_onward : (x : Book) (i : ℕ) (ls : List Bytes) (b : Book) → Kept x b → i < length ls → ((j : ℕ) → j < i → check_at slip_check slip_leaves ls j b ≡ Ok tt) →
    Kept x (onward slip_leaves (take i ls) b)
unfolding onward
kept_onward x zero ls b k n h = k
kept_onward x (suc i) [] b k n h = absurd (omega arith)
kept_onward x (suc i) (l ∷ ls) b k n h = kept_onward x i ls (slip_leaves l b) (kept_line_lem x b l (h 0 (omega arith)) k) (omega arith) (λ j m. h (suc j) (omega arith))
