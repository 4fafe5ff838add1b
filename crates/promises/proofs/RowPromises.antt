-- Demand 2: the book of an accepted delivery holds exactly the rows of its texts, and what is written is never too long. Assumes nothing.
use mathlib.Core.Path.{◌≡◌, refl, sym, ◌∙◌, ap, subst}
use mathlib.Core.Bool.{true, false, Bool, ◌||◌, not}
use mathlib.Core.List.{List, [], ◌∷◌, map}
use Prim.Native.Nat.{ℕ, ◌+◌, suc, ◌≤◌, zero, ◌<◌}
use native.Mathlib.Omega.{arith}
use lib.ListN.{length, get_or}
use Rattle.words.specs.Words.{Row, whether◌then◌else◌, Bytes, same}
use Rattle.words.proofs.Lists.{same_true, same_refl}
use Rattle.refusals.specs.Verdicts.{placed, place, ◌when◌, nowhere, not_there, Check}
use Rattle.std.specs.Prelude.{Ok, Err}
use Rattle.rows.specs.Rows.{key_order, stands, inserted, found, same_key}
use Rattle.std.specs.declared.cmp.Ordering.TheVariants.{Less, Equal, Greater}
use Rattle.rows.proofs.Changes.{stands_key, found_key, stands_inserted, found_inserted, other_stands_inserted, other_found_inserted, length_inserted}
use Rattle.rows.proofs.Rising.{Above, Rising}
use Rattle.rows.proofs.Keys.{order_refl, less_more}
use Rattle.editions.specs.declared.Edition.{Edition}
use Rattle.tables.specs.Columns.{key_width, number}
use Rattle.tables.specs.declared.Table.{Table}
use Rattle.tables.specs.declared.Table.TheVariants.{Block, VehicleType}
use Rattle.book.specs.Book.{Book, rows, entered}
use Rattle.book.specs.Result.{leaves, refused, unless}
use Rattle.book.proofs.Laying.{rows_with}
use Rattle.rules.specs.Rules.{seconds}
use Rattle.questions.specs.Questions.{total, seconds_of, count_of, seven}
use Rattle.questions.specs.Calls.{type_answered, block_answered}
use Rattle.questions.specs.declared.TypeAnswer.{TypeAnswer}
use Rattle.header.specs.Header.{Header, header_of, top_faults}
use Rattle.row_line.specs.RowLine.{row_read}
use Rattle.lines.specs.Lines.{head_line, line_after, lines}
use Rattle.table_lines.specs.Reading.{judged, rows_read}
use Rattle.table_reading.specs.Reading.{table_read}
use Rattle.delivery.specs.Delivery.{Delivery, reading}
use Rattle.promises.specs.Promises.{copies, row_lines_of, rows_of, text_of, RowsExactly, KeysExactly, TotalsExactly, TypesAnswered, BlocksAnswered, WrittenFits}
use Rattle.promises.proofs.HeldLaws.{Taken, judged_taken, Held, plain_short}
use Rattle.promises.proofs.TestLaws.{going_on}
use Rattle.promises.proofs.WeighLaws.{Weighs, copies_weighs, total_weighs, many_inserted}
use Rattle.promises.proofs.DeliveryLaws.{ReadTo, left_by, Accepted, written_plain}
use Rattle.promises.proofs.RuleLaws.{type_asked, block_asked}

-- a row that is entered is one more, counted or weighed
fresh : (many : List Row → ℕ) → Weighs many → (k : ℕ) (row : Row) (xs : List Row) → stands k row xs ≡ false → many (inserted k row xs) ≡ many (row ∷ xs)
fresh many h k row xs f = omega (arith, h.nothing, h.more row xs, h.more row [], many_inserted many h k row xs f)

-- and is found by its key
abbrev both_stand : ℕ → Row → List Row → List Row → Bool
both_stand k key xs ys = stands k key xs || stands k key ys

abbrev both_found : ℕ → Row → List Row → List Row → Row
both_found k key xs ys = whether stands k key xs then found k key xs else found k key ys

find_fresh : (k : ℕ) (key row : Row) (xs ys : List Row) → stands k row xs ≡ false →
    (both_stand k key (inserted k row xs) ys ≡ both_stand k key xs (row ∷ ys)) × (both_found k key (inserted k row xs) ys ≡ both_found k key xs (row ∷ ys))
unfolding stands found
find_fresh k key row xs ys h = go (same_key k key row) refl (stands k key xs) refl
  where
    go : (q : Bool) → same_key k key row ≡ q → (p : Bool) → stands k key xs ≡ p →
        (both_stand k key (inserted k row xs) ys ≡ both_stand k key xs (row ∷ ys)) × (both_found k key (inserted k row xs) ys ≡ both_found k key xs (row ∷ ys))
    go true q true p =
        let f : stands k row xs ≡ true = sym (stands_key k key row q xs) ∙ p in
        let z : ◌≡◌ {A = ℕ} 0 1 = cc in let y : ⊥ = omega arith in absurd y
    go true q false p =
        let s : stands k key (inserted k row xs) ≡ true = stands_key k key row q (inserted k row xs) ∙ stands_inserted k row xs in
        let f : found k key (inserted k row xs) ≡ row = found_key k key row q (inserted k row xs) ∙ found_inserted k row xs h in
        (rw (s, p, q), rw (s, f, p, q))
    go false q b p =
        let f : stands k key (inserted k row xs) ≡ stands k key xs = other_stands_inserted k key row q xs in
        let g : found k key (inserted k row xs) ≡ found k key xs = other_found_inserted k key row q xs in
        (rw (f, q), rw (f, g, q))

-- what the rows of a reading leave: those that stood, and those of the lines
pub record Gained (t : Table) (before after : Book) (xs : List Row) : Type 0 where
  pub many : length (rows t after) ≡ length xs + length (rows t before)
  pub weighed : (many : List Row → ℕ) → Weighs many → many (rows t after) ≡ many xs + many (rows t before)
  pub standing : (key : Row) → stands (key_width t) key (rows t after) ≡ both_stand (key_width t) key (rows t before) xs
  pub finding : (key : Row) → found (key_width t) key (rows t after) ≡ both_found (key_width t) key (rows t before) xs

rows_gained : (t : Table) (h : Header) (i : ℕ) (ls : List Bytes) (b c : Book) → rows_read t h i ls b ≡ leaves c → Gained t b c (map (row_read b.edition t h) ls)
unfolding rows_read copies total stands found
rows_gained t h i [] b c e =
    let f : b ≡ c = cc in
    let k = key_width t in
    subst (λ (z : Book). Gained t b z []) f
    (record {
      many = omega arith;
      weighed = λ many w. omega (arith, w.nothing);
      standing = λ key. sym (or_none (stands k key (rows t b)));
      finding = λ key. sym (found_none k key (rows t b));
    })
  where
    or_none : (p : Bool) → (p || false) ≡ p
    or_none true = refl
    or_none false = refl

    found_none : (k : ℕ) (key : Row) (xs : List Row) → both_found k key xs [] ≡ found k key xs
    found_none k key [] = refl
    found_none k key (x ∷ xs) = go (same_key k key x) refl (found_none k key xs)
      where
        go : (q : Bool) → same_key k key x ≡ q → both_found k key xs [] ≡ found k key xs → both_found k key (x ∷ xs) [] ≡ found k key (x ∷ xs)
        go true q ih = rw q
        go false q ih = rw q ih
rows_gained t h i (l ∷ ls) b c e = go (judged t h l b) refl (rows_gained t h (line_after b.edition i l) ls (entered t (row_read b.edition t h l) b) c) e
  where
    go : (v : Check) → judged t h l b ≡ v →
        (rows_read t h (line_after b.edition i l) ls (entered t (row_read b.edition t h l) b) ≡ leaves c → Gained t (entered t (row_read b.edition t h l) b) c (map (row_read b.edition t h) ls)) →
        unless (placed (number t) i (judged t h l b)) (rows_read t h (line_after b.edition i l) ls (entered t (row_read b.edition t h l) b)) ≡ leaves c →
        Gained t b c (map (row_read b.edition t h) (l ∷ ls))
    go (Ok _) v ih f =
        let g : Gained t (entered t (row_read b.edition t h l) b) c (map (row_read b.edition t h) ls) = ih (rw v at f) in
        let a : Taken t b (row_read b.edition t h l) = judged_taken t b h l v in
        let own : rows t (entered t (row_read b.edition t h l) b) ≡ inserted (key_width t) (row_read b.edition t h l) (rows t b) =
        rows_with t (inserted (key_width t) (row_read b.edition t h l) (rows t b)) b in
        record {
          many = omega (arith, g.many, ap length own, length_inserted (key_width t) (row_read b.edition t h l) (rows t b) a.fresh);
          weighed = λ many w.
              let row : Row = row_read b.edition t h l in
              let more : many (map (row_read b.edition t h) (l ∷ ls)) ≡ w.one row + many (map (row_read b.edition t h) ls) = w.more row (map (row_read b.edition t h) ls) in
              omega (arith, g.weighed many w, ap many own, more, w.more row (rows t b), fresh many w (key_width t) row (rows t b) a.fresh);
          standing = λ key.
              g.standing key ∙ ap (λ (z : List Row). both_stand (key_width t) key z (map (row_read b.edition t h) ls)) own
              ∙ (find_fresh (key_width t) key (row_read b.edition t h l) (rows t b) (map (row_read b.edition t h) ls) a.fresh).0;
          finding = λ key.
              g.finding key ∙ ap (λ (z : List Row). both_found (key_width t) key z (map (row_read b.edition t h) ls)) own
              ∙ (find_fresh (key_width t) key (row_read b.edition t h l) (rows t b) (map (row_read b.edition t h) ls) a.fresh).1;
        }
    go (Err w) v ih f =
        let x : refused (place w.number (number t) i w.column) ≡ leaves c = rw v at f in
        let z : ◌≡◌ {A = ℕ} 0 1 = cc in let y : ⊥ = omega arith in absurd y

-- a table of an accepted delivery
table_gained : (ed : Edition) (d : Delivery) (b : Book) (t : Table) (e : reading ed d ≡ leaves b) → let r = (left_by ed d b e).tables t in Gained t r.before r.after (rows_of ed t (text_of t d))
unfolding table_read
table_gained ed d b t e =
    let r : ReadTo ed t (text_of t d) b = (left_by ed d b e).tables t in
    let s : Bytes = text_of t d in
    let q = r.before.edition in
    let h : Header = header_of q t s in
    let first = line_after q 1 (head_line (lines q s)) in
    subst (λ (z : Edition). Gained t r.before r.after (rows_of z t s)) r.by
    (rows_gained t h first (row_lines_of q s) r.before r.after (going_on (top_faults q t s) (rows_read t h first (row_lines_of q s) r.before) r.after r.read))

-- whatever counts or weighs rows one by one comes to the same of the book's rows and of the text's
pub weighed_exactly : (ed : Edition) (d : Delivery) (b : Book) (t : Table) (many : List Row → ℕ) → Weighs many → reading ed d ≡ leaves b → many (rows t b) ≡ many (rows_of ed t (text_of t d))
weighed_exactly ed d b t many w e =
    let r : ReadTo ed t (text_of t d) b = (left_by ed d b e).tables t in
    let g : Gained t r.before r.after (rows_of ed t (text_of t d)) = table_gained ed d b t e in
    omega (arith, ap many r.same, g.weighed many w, ap many r.bare, w.nothing)

pub rows_exactly : RowsExactly
unfolding copies
rows_exactly ed d b t e =
    let a : Accepted ed d b = left_by ed d b e in
    let r : ReadTo ed t (text_of t d) b = a.tables t in
    let g : Gained t r.before r.after (rows_of ed t (text_of t d)) = table_gained ed d b t e in (
      (a.standing t).rising,
      omega (arith, ap length r.same, g.many, ap length r.bare),
      λ row. weighed_exactly ed d b t (copies row) (copies_weighs row) e,
    )

pub keys_exactly : KeysExactly
unfolding stands found
keys_exactly ed d b t key e =
    let r : ReadTo ed t (text_of t d) b = (left_by ed d b e).tables t in
    let g : Gained t r.before r.after (rows_of ed t (text_of t d)) = table_gained ed d b t e in
    let k = key_width t in (
      ap (λ (z : List Row). stands k key z) (sym r.same) ∙ g.standing key ∙ ap (λ (z : List Row). both_stand k key z (rows_of ed t (text_of t d))) r.bare,
      ap (λ (z : List Row). found k key z) (sym r.same) ∙ g.finding key ∙ ap (λ (z : List Row). both_found k key z (rows_of ed t (text_of t d))) r.bare,
    )

pub totals_exactly : TotalsExactly
totals_exactly ed d b version type e =
    (weighed_exactly ed d b Block (total seconds version type) (total_weighs seconds version type) e, weighed_exactly ed d b Block (total (λ x. 1) version type) (total_weighs (λ x. 1) version type) e)

pub types_answered : TypesAnswered
types_answered ed d b version type e =
    let key : Row = version ∷ type ∷ [] in
    let said : Bool → ℕ → ℕ → TypeAnswer = λ there s c. type_answered (nowhere (not_there when not there)) s c in
    let there = stands 2 key (rows_of ed VehicleType d.types) in
    let blocks = rows_of ed Block d.blocks in
    let x = totals_exactly ed d b version type e in
    type_asked b (left_by ed d b e).standing version type
    ∙ ap (λ (z : Bool). said z (seconds_of version type b.blocks) (count_of version type b.blocks)) (keys_exactly ed d b VehicleType key e).0
    ∙ ap (λ (z : ℕ). said there z (count_of version type b.blocks)) x.0
    ∙ ap (λ (z : ℕ). said there (seconds_of version type blocks) z) x.1

pub blocks_answered : BlocksAnswered
blocks_answered ed d b version day depot block e =
    let key : Row = version ∷ day ∷ depot ∷ block ∷ [] in
    let blocks = rows_of ed Block d.blocks in
    let x = keys_exactly ed d b Block key e in
    block_asked b (left_by ed d b e).standing version day depot block
    ∙ ap (λ (z : Bool). block_answered (nowhere (not_there when not z)) (seven (found 4 key b.blocks))) x.0
    ∙ ap (λ (z : Row). block_answered (nowhere (not_there when not (stands 4 key blocks))) (seven z)) x.1

pub written_fits : WrittenFits
written_fits b l =
    let h : Held Block b b.blocks = (left_by l.0 l.1.0 b l.1.1).standing Block in
    subst (λ (s : Bytes). length s ≤ 65536) (written_plain b b.blocks h) (plain_short Block b b.blocks h)

-- a row that stands is found by its key ----------------------------------------------------------------------------------

above_copy : (k : ℕ) (x row : Row) (xs : List Row) → Above k x xs → 1 ≤ copies row xs → key_order k x row ≡ Less
unfolding Above copies
above_copy k x row [] a h = absurd (omega arith)
above_copy k x row (y ∷ ys) a h = go (same row y) refl (above_copy k x row ys a.1)
  where
    go : (q : Bool) → same row y ≡ q → (1 ≤ copies row ys → key_order k x row ≡ Less) → key_order k x row ≡ Less
    go true e ih = rw (same_true row y e) a.0
    go false e ih = let in_rest : 1 ≤ 0 + copies row ys = rw e at h in ih (omega arith)

pub found_copy : (k : ℕ) (row : Row) (xs : List Row) → Rising k xs → 1 ≤ copies row xs → found k row xs ≡ row
unfolding Rising copies found
found_copy k row [] u h = absurd (omega arith)
found_copy k row (x ∷ xs) u h = go (same row x) refl (found_copy k row xs u.1)
  where
    go : (q : Bool) → same row x ≡ q → (1 ≤ copies row xs → found k row xs ≡ row) → found k row (x ∷ xs) ≡ row
    go true e ih =
        let f : row ≡ x = same_true row x e in
        let o : key_order k row x ≡ Equal = ap (λ (z : Row). key_order k row z) (sym f) ∙ order_refl k 0 row in
        rw o (sym f)
    go false e ih =
        let rest : 1 ≤ 0 + copies row xs = rw e at h in
        let in_rest : 1 ≤ copies row xs = omega arith in
        let o : key_order k row x ≡ Greater = less_more k x row (above_copy k x row xs u.0 in_rest) in
        rw o (ih in_rest)

pub copy_at : (f : Bytes → Row) (ls : List Bytes) (i : ℕ) → i < length ls → 1 ≤ copies (f (get_or ls i [])) (map f ls)
unfolding copies
copy_at f [] i h = absurd (omega arith)
copy_at f (l ∷ ls) zero h = rw (same_refl (f l)) (omega arith)
copy_at f (l ∷ ls) (suc i) h = omega (arith, copy_at f ls i (omega arith))
