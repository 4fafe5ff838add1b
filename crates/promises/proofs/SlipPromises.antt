-- Demand 3: after any run of slips the book is the one read afresh, a slip line is refused exactly where a reading would refuse its row, and
-- what no accepted slip touches keeps its answers. Assumes nothing.
use mathlib.Core.Path.{refl, ap, sym, ◌∙◌, ◌≡◌, subst}
use mathlib.Core.List.{[], ◌∷◌, List, ◌++◌, map}
use mathlib.Core.Bool.{Bool, true, false, ◌&&◌, not}
use Prim.Native.Nat.{◌+◌, ℕ, ◌<◌, suc}
use native.Mathlib.Omega.{arith}
use lib.ListN.{length, get_or}
use borrow.Author.Tests.{lt-leb}
use Rattle.words.specs.Words.{Bytes, Row, whether◌then◌else◌}
use Rattle.words.proofs.Lists.{and_left, and_right}
use Rattle.refusals.specs.Verdicts.{◌⊳◌, ◌when◌, placed, too_many_rows, passes, ends_early, no_block, place, in_text, text_too_long, nowhere, not_there, Check, fault}
use Rattle.std.specs.Prelude.{Ok, Err}
use Rattle.refusals.specs.declared.Place.{Place}
use Rattle.lines.specs.Lines.{slip_lines, overlong}
use Rattle.numbers.specs.Numbers.{value}
use Rattle.fields.specs.Fields.{fields}
use Rattle.rows.specs.Rows.{stands, removed, found, key_order, inserted, replaced}
use Rattle.std.specs.declared.cmp.Ordering.{Ordering}
use Rattle.std.specs.declared.cmp.Ordering.TheVariants.{Less, Equal, Greater}
use Rattle.rows.proofs.Changes.{stands_removed, length_removed}
use Rattle.editions.specs.declared.Edition.{Edition}
use Rattle.tables.specs.declared.Table.TheVariants.{Block, Calendar}
use Rattle.book.specs.Book.{Book, with_rows, entered, full}
use Rattle.book.specs.Result.{Result, leaves, unless, refused}
use Rattle.rules.specs.Rules.{ruled, time_fault, unknown, unknown_of, seconds}
use Rattle.rules.proofs.Referring.{passed}
use Rattle.questions.specs.Questions.{of_type, total, seven}
use Rattle.questions.specs.Calls.{block_answered, type_answered}
use Rattle.table_reading.specs.Reading.{table_read}
use Rattle.delivery.specs.Delivery.{reading, Delivery, Left}
use Rattle.slip_line.specs.SlipLine.{numbers, wish, bad_field, row_in}
use Rattle.slip_line.specs.declared.Wish.{Wish}
use Rattle.slip_line.specs.declared.Wish.TheVariants.{Add, Replace, Delete, Unknown}
use Rattle.block_change.specs.Change.{line_judged, slip_check, slip_leaves, granted}
use Rattle.slips.specs.Slips.{posted, lines_posted, posting, kept}
use Rattle.writer.specs.Writing.{written, lines_written}
use Rattle.promises.specs.Promises.{run, RunReadsAfresh, midway, MidwayReadsAfresh, well_formed, with_blocks, RuleKept, written_with, accepted, read_there, admissible, known, RefusedExactly, RefusedAlike, some_line, some_slip, changes, OtherTablesKept, names, BlocksKept, touches, TypesKept}
use Rattle.promises.proofs.KeyLaws.{other_found, other_stands}
use Rattle.promises.proofs.DeliveryLaws.{left_by, blocks_back, lines_plain, held_undated, with_other_blocks}
use Rattle.promises.proofs.SlipLaws.{Kept, kept_run, kept_onward, Fielded, fielded, eleven_wished, wish_eleven, held_removed}
use Rattle.promises.proofs.PlainLaws.{plain_names, plain_line, plain_names_block, plain_line_block, row_read_lem, row_judged}
use Rattle.promises.proofs.HeldLaws.{Held, table_more}
use Rattle.promises.proofs.TestLaws.{or_left, or_right, going_on}
use Rattle.promises.proofs.RuleLaws.{block_asked, type_asked}
use Rattle.promises.proofs.RulePromises.{left_standing}

-- a book of which a delivery's book keeps the other tables, and whose blocks stand by right, is read afresh
kept_reads : (ed : Edition) (d : Delivery) (b c : Book) → reading ed d ≡ leaves b → Kept b c → reading ed (with_blocks (written c) d) ≡ leaves c
kept_reads ed d b c e k =
    with_other_blocks ed d b e (written c) (Ok tt) c.blocks (blocks_back (with_rows Calendar [] b) c.blocks (held_undated b c.blocks k.blocks))
    ∙ ap (λ (z : Book). leaves z) (sym k.apart)

kept_itself : (ed : Edition) (d : Delivery) (b : Book) → reading ed d ≡ leaves b → Kept b b
kept_itself ed d b e = record { apart = refl; blocks = (left_by ed d b e).standing Block }

pub run_reads_afresh : RunReadsAfresh
run_reads_afresh ed d b ss e = kept_reads ed d b (run ss b) e (kept_run b ss b (kept_itself ed d b e))

pub midway_reads_afresh : MidwayReadsAfresh
midway_reads_afresh ed d b ss s i e r = kept_reads ed d b (midway ss s i b) e (kept_onward b i (slip_lines s) (run ss b) (kept_run b ss b (kept_itself ed d b e)) r.inside r.above)

pub rule_kept : RuleKept
unfolding run
rule_kept b s l = (l.0, (with_blocks (written (posted s b)) l.1.0, run_reads_afresh l.0 l.1.0 b (s ∷ []) l.1.1))

-- refused exactly --------------------------------------------------------------------------------------------------------

-- the row behind other blocks meets 5, and the rules of a row
read_there_lem : (ed : Edition) (d : Delivery) (b : Book) (ys : List Row) (row : Row) → reading ed d ≡ leaves b → Held Block b ys → Fielded b.edition row →
    reading ed (with_blocks (written_with row ys) d)
    ≡ unless (placed 4 (2 + length ys) (too_many_rows when full Block (with_rows Block ys b) ⊳ ruled Block row (with_rows Block ys b))) (leaves (entered Block row (with_rows Block ys b)))
unfolding unknown_of
read_there_lem ed d b ys row e h n =
    let c : Book = with_rows Calendar [] b in
    let text : written_with row ys ≡ lines_written (plain_names Block ∷ (map (plain_line Block) ys ++ (plain_line Block row ∷ []))) =
    rw (plain_names_block, lines_plain b ys h.good, plain_line_block row n.numbers) in
    with_other_blocks ed d b e (written_with row ys) (placed 4 (2 + length ys) (too_many_rows when full Block (with_rows Block ys b) ⊳ ruled Block row (with_rows Block ys b))) (inserted 4 row ys)
    (ap (λ (s : Bytes). table_read Block s (with_rows Block [] c)) text
    ∙ table_more Block c ys row (held_undated b ys h) n.numbers n.inside
    ∙ rw (row_judged Block row (with_rows Block ys c) n.numbers n.shape n.inside, row_read_lem b.edition Block row n.numbers n.shape))

accepted_placed : (i : ℕ) (c : Check) (x : Book) → accepted (unless (placed 4 i c) (leaves x)) ≡ passes c
accepted_placed i (Ok _) x = refl
accepted_placed i (Err f) x = refl

module _ (ed : Edition) (d : Delivery) (b : Book) (e : reading ed d ≡ leaves b) where
  blocks_held : Held Block b b.blocks
  blocks_held = (left_by ed d b e).standing Block

  there : (ys : List Row) (row : Row) → Held Block b ys → Fielded b.edition row →
      read_there ed d ys row ≡ passes (too_many_rows when full Block (with_rows Block ys b) ⊳ ruled Block row (with_rows Block ys b))
  there ys row h n = ap accepted (read_there_lem ed d b ys row e h n) ∙ accepted_placed (2 + length ys) (too_many_rows when full Block (with_rows Block ys b) ⊳ ruled Block row (with_rows Block ys b)) (entered Block row (with_rows Block ys b))

  exactly : (ss : List Bytes) (w : Wish) → wish ss ≡ w → known w ≡ true → bad_field b.edition (numbers ss) ≡ Ok tt →
      passes (line_judged w (numbers ss) (map value (numbers ss)) b) ≡ admissible w ed d (map value (numbers ss)) b
  unfolding unknown_of eleven_wished
  exactly ss Unknown f u g = let z : ◌≡◌ {A = ℕ} 0 1 = cc in let y : ⊥ = omega arith in absurd y
  exactly ss Add f u g =
      let row = map value (numbers ss) in
      rw g (sym (there b.blocks row blocks_held (fielded b.edition (numbers ss) (wish_eleven ss (ap eleven_wished f)) g)))
  exactly ss Replace f u g = go (stands 4 row b.blocks) refl
    where
      row : Row
      row = map value (numbers ss)

      without : List Row
      without = removed 4 row b.blocks

      late : (t : Bool) (c : Check) → passes (ends_early when t ⊳ no_block when true ⊳ c) ≡ false
      late true c = refl
      late false c = refl

      go : (k : Bool) → stands 4 row b.blocks ≡ k → passes (line_judged Replace (numbers ss) row b) ≡ admissible Replace ed d row b
      go false s = rw (g, s) (late (time_fault Block row) (unknown Block row b))
      go true s =
          let short : length without < 512 = omega (arith, length_removed 4 row b.blocks s, blocks_held.size) in
          rw (
            g,
            s,
            there without row (held_removed b row b.blocks blocks_held) (fielded b.edition (numbers ss) (wish_eleven ss (ap eleven_wished f)) g),
            lt-leb 512 (length without) short,
            stands_removed 4 row b.blocks blocks_held.rising,
          )
  exactly ss Delete f u g = go (stands 4 (map value (numbers ss)) b.blocks) refl
    where
      go : (k : Bool) → stands 4 (map value (numbers ss)) b.blocks ≡ k → passes (line_judged Delete (numbers ss) (map value (numbers ss)) b) ≡ admissible Delete ed d (map value (numbers ss)) b
      go true s = rw (g, s)
      go false s = rw (g, s)

-- a well-formed line on a book that a reading leaves
-- by the edition of the book, which is the delivery's
well_formed_lem : (ed : Edition) (d : Delivery) (b : Book) (line : Bytes) → reading ed d ≡ leaves b → well_formed ed line ≡ true → well_formed b.edition line ≡ true
well_formed_lem ed d b line e h = subst (λ (z : Edition). well_formed z line ≡ true) (sym (left_by ed d b e).by) h

line_refused : (ed : Edition) (d : Delivery) (b : Book) (line : Bytes) → reading ed d ≡ leaves b → well_formed ed line ≡ true →
    passes (slip_check line b) ≡ admissible (wish (fields line)) ed d (row_in line) b
line_refused ed d b line e f =
    let h = well_formed_lem ed d b line e f in
    let ss = fields line in
    let formed = and_left (known (wish ss)) (passes (bad_field b.edition (numbers ss))) h in
    let good = passed (bad_field b.edition (numbers ss)) (and_right (known (wish ss)) (passes (bad_field b.edition (numbers ss))) h) in
    exactly ed d b e ss (wish ss) refl formed good

-- only the other tables of a delivery count there
admissible_beside : (w : Wish) (text : Bytes) (ed : Edition) (d : Delivery) (row : Row) (b : Book) → admissible w ed (with_blocks text d) row b ≡ admissible w ed d row b
admissible_beside Unknown text ed d row b = refl
admissible_beside Add text ed d row b = refl
admissible_beside Replace text ed d row b = refl
admissible_beside Delete text ed d row b = refl

-- which the book in the middle of a slip is, with the original delivery
pub refused_exactly : RefusedExactly
refused_exactly ed d b ss s i e r h =
    let c : Book = midway ss s i b in
    let line : Bytes = get_or (slip_lines s) i [] in
    line_refused ed (with_blocks (written c) d) c line (midway_reads_afresh ed d b ss s i e r) h
    ∙ admissible_beside (wish (fields line)) (written c) ed d (row_in line) c

placed_refused : (t i : ℕ) (c : Check) (x : Book) (p : Place) → unless (placed t i c) (leaves x) ≡ refused p → (c ≡ Err (fault p.number p.column)) × (p.table ≡ t) × (p.line ≡ i)
placed_refused t i (Ok _) x p h = let z : ◌≡◌ {A = ℕ} 0 1 = cc in let y : ⊥ = omega arith in absurd y
placed_refused t i (Err f) x p h =
    let q : place f.number t i f.column ≡ p = cc in
    subst (λ (z : Place). (◌≡◌ {A = Check} (Err f) (Err (fault z.number z.column))) × (z.table ≡ t) × (z.line ≡ i)) q (refl, refl, refl)

line_alike : (ed : Edition) (d : Delivery) (b : Book) (line : Bytes) (p : Place) → reading ed d ≡ leaves b → well_formed ed line ≡ true → wish (fields line) ≡ Add →
    reading ed (with_blocks (written_with (row_in line) b.blocks) d) ≡ refused p →
    (slip_check line b ≡ Err (fault p.number p.column)) × (p.table ≡ 4) × (p.line ≡ 2 + length b.blocks)
unfolding eleven_wished
line_alike ed d b line p e k f r =
    let h = well_formed_lem ed d b line e k in
    let ss = fields line in
    let row = row_in line in
    let good : bad_field b.edition (numbers ss) ≡ (Ok tt) = passed (bad_field b.edition (numbers ss)) (and_right (known (wish ss)) (passes (bad_field b.edition (numbers ss))) h) in
    let n : Fielded b.edition row = fielded b.edition (numbers ss) (wish_eleven ss (ap eleven_wished f)) good in
    let c : Check = too_many_rows when full Block b ⊳ ruled Block row b in
    let q = placed_refused 4 (2 + length b.blocks) c (entered Block row b) p (sym (read_there_lem ed d b b.blocks row e ((left_by ed d b e).standing Block) n) ∙ r) in
    let slip : slip_check line b ≡ c = ap (λ (w : Wish). line_judged w (numbers ss) row b) f ∙ rw good in
    (slip ∙ q.0, q.1, q.2)

pub refused_alike : RefusedAlike
refused_alike ed d b ss s i p e r h f g =
    let c : Book = midway ss s i b in
    line_alike ed (with_blocks (written c) d) c (get_or (slip_lines s) i []) p (midway_reads_afresh ed d b ss s i e r) h f g

-- what no accepted slip touches --------------------------------------------------------------------------------------------

-- said once of anything about the blocks that a line keeps unless it does this
module _ {X : Type 0} (f : List Row → X) (does : Bytes → Book → Bool)
    (keeps : (l : Bytes) (b : Book) → does l b ≡ false → f (slip_leaves l b).blocks ≡ f b.blocks) where
  kept_lines : (i : ℕ) (ls : List Bytes) (b c : Book) → lines_posted i ls b ≡ leaves c → some_line does ls b ≡ false → f c.blocks ≡ f b.blocks
  unfolding lines_posted some_line
  kept_lines i [] b c e h = let g : c ≡ b = cc in ap (λ (x : Book). f x.blocks) g
  kept_lines i (l ∷ ls) b c e h =
      kept_lines (suc i) ls (slip_leaves l b) c (going_on (placed 5 i (slip_check l b)) (lines_posted (suc i) ls (slip_leaves l b)) c e)
      (or_right (does l b) (some_line does ls (slip_leaves l b)) h)
      ∙ keeps l b (or_left (does l b) (some_line does ls (slip_leaves l b)) h)

  kept_slip : (s : Bytes) (b : Book) → (accepted (posting s b) && some_line does (slip_lines s) b) ≡ false → f (posted s b).blocks ≡ f b.blocks
  unfolding posting
  kept_slip s b = go (posting s b) refl
    where
      go : (r : Result) → posting s b ≡ r → (accepted r && some_line does (slip_lines s) b) ≡ false → f (kept b r).blocks ≡ f b.blocks
      go (refused p) e h = refl
      go (leaves c) e h = kept_lines 1 (slip_lines s) b c (going_on (in_text 5 (text_too_long when overlong s)) (lines_posted 1 (slip_lines s) b) c e) h

  kept_slips : (ss : List Bytes) (b : Book) → some_slip does ss b ≡ false → f (run ss b).blocks ≡ f b.blocks
  unfolding run some_slip
  kept_slips [] b h = refl
  kept_slips (s ∷ ss) b h =
      let here = accepted (posting s b) && some_line does (slip_lines s) b in
      let later = some_slip does ss (posted s b) in
      kept_slips ss (posted s b) (or_right here later h) ∙ kept_slip s b (or_left here later h)

-- the blocks of a type, in their order: a row of another type that comes or goes leaves them as they are
unfoldable pub type_rows : ℕ → ℕ → List Row → List Row
type_rows v n [] = []
type_rows v n (x ∷ xs) = whether of_type v n x then x ∷ type_rows v n xs else type_rows v n xs

module _ (v n : ℕ) (row : Row) where
  rows_inserted : (xs : List Row) → of_type v n row ≡ false → type_rows v n (inserted 4 row xs) ≡ type_rows v n xs
  unfolding type_rows inserted
  rows_inserted [] h = rw h
  rows_inserted (x ∷ xs) h = go (key_order 4 row x) refl (rows_inserted xs h)
    where
      go : (o : Ordering) → key_order 4 row x ≡ o → type_rows v n (inserted 4 row xs) ≡ type_rows v n xs → type_rows v n (inserted 4 row (x ∷ xs)) ≡ type_rows v n (x ∷ xs)
      go Less e ih = rw (e, h)
      go Equal e ih = rw e
      go Greater e ih = rw (e, ih)

  rows_replaced : (xs : List Row) → of_type v n row ≡ false → of_type v n (found 4 row xs) ≡ false → type_rows v n (replaced 4 row xs) ≡ type_rows v n xs
  unfolding type_rows replaced found
  rows_replaced [] h k = refl
  rows_replaced (x ∷ xs) h k = go (key_order 4 row x) refl (rows_replaced xs h)
    where
      go : (o : Ordering) → key_order 4 row x ≡ o → (of_type v n (found 4 row xs) ≡ false → type_rows v n (replaced 4 row xs) ≡ type_rows v n xs) →
          type_rows v n (replaced 4 row (x ∷ xs)) ≡ type_rows v n (x ∷ xs)
      go Less e ih = rw (e, ih (rw e at k))
      go Equal e ih = let m : of_type v n x ≡ false = rw e at k in rw (e, h, m)
      go Greater e ih = rw (e, ih (rw e at k))

  rows_removed : (xs : List Row) → of_type v n (found 4 row xs) ≡ false → type_rows v n (removed 4 row xs) ≡ type_rows v n xs
  unfolding type_rows removed found
  rows_removed [] k = refl
  rows_removed (x ∷ xs) k = go (key_order 4 row x) refl (rows_removed xs)
    where
      go : (o : Ordering) → key_order 4 row x ≡ o → (of_type v n (found 4 row xs) ≡ false → type_rows v n (removed 4 row xs) ≡ type_rows v n xs) →
          type_rows v n (removed 4 row (x ∷ xs)) ≡ type_rows v n (x ∷ xs)
      go Less e ih = rw (e, ih (rw e at k))
      go Equal e ih = let m : of_type v n x ≡ false = rw e at k in rw (e, m)
      go Greater e ih = rw (e, ih (rw e at k))

  rows_granted : (w : Wish) (b : Book) → changes w v n row b ≡ false → type_rows v n (granted w row b).blocks ≡ type_rows v n b.blocks
  rows_granted Unknown b h = refl
  rows_granted Add b h = rows_inserted b.blocks h
  rows_granted Replace b h =
      rows_replaced b.blocks (or_left (of_type v n row) (of_type v n (found 4 row b.blocks)) h) (or_right (of_type v n row) (of_type v n (found 4 row b.blocks)) h)
  rows_granted Delete b h = rows_removed b.blocks h

-- they weigh the same without the other blocks
total_rows : (weight : Row → ℕ) (v n : ℕ) (xs : List Row) → total weight v n (type_rows v n xs) ≡ total weight v n xs
unfolding total type_rows
total_rows weight v n [] = refl
total_rows weight v n (x ∷ xs) = go (of_type v n x) refl (total_rows weight v n xs)
  where
    go : (q : Bool) → of_type v n x ≡ q → total weight v n (type_rows v n xs) ≡ total weight v n xs → total weight v n (type_rows v n (x ∷ xs)) ≡ total weight v n (x ∷ xs)
    go true e ih = rw e (rw (e, ih))
    go false e ih = rw (e, ih) (omega arith)

pub run_left : (b : Book) (ss : List Bytes) → Left b → Left (run ss b)
run_left b ss l = (l.0, (with_blocks (written (run ss b)) l.1.0, run_reads_afresh l.0 l.1.0 b ss l.1.1))

-- the other tables ---------------------------------------------------------------------------------------------------------

pub other_tables_kept : OtherTablesKept
other_tables_kept b ss l =
    let c : Book = run ss b in
    let k : Kept b c = kept_run b ss b (record { apart = refl; blocks = (left_by l.0 l.1.0 b l.1.1).standing Block }) in
    (ap (λ (z : Book). z.types) k.apart, ap (λ (z : Book). z.depots) k.apart, ap (λ (z : Book). z.stops) k.apart, ap (λ (z : Book). z.points) k.apart, ap (λ (z : Book). z.days) k.apart, ap (λ (z : Book). z.edition) k.apart)

-- so the questions keep their answers
pub blocks_kept : BlocksKept
blocks_kept b ss version day depot block l h =
    let key : Row = version ∷ day ∷ depot ∷ block ∷ [] in
    let f : found 4 key (run ss b).blocks ≡ found 4 key b.blocks =
    kept_slips (found 4 key) (names key) (λ x z e. other_found key (row_in x) e (wish (fields x)) z) ss b h in
    let s : stands 4 key (run ss b).blocks ≡ stands 4 key b.blocks =
    kept_slips (stands 4 key) (names key) (λ x z e. other_stands key (row_in x) e (wish (fields x)) z) ss b h in
    block_asked (run ss b) (left_standing (run ss b) (run_left b ss l)) version day depot block
    ∙ ap (λ (z : Bool). block_answered (nowhere (not_there when not z)) (seven (found 4 key (run ss b).blocks))) s
    ∙ ap (λ (z : Row). block_answered (nowhere (not_there when not (stands 4 key b.blocks))) (seven z)) f
    ∙ sym (block_asked b (left_standing b l) version day depot block)

-- the blocks of a type stay, and whatever they weigh, where no accepted slip touches the type
pub rows_kept : (b : Book) (ss : List Bytes) (version type : ℕ) → some_slip (touches version type) ss b ≡ false → type_rows version type (run ss b).blocks ≡ type_rows version type b.blocks
rows_kept b ss version type h = kept_slips (type_rows version type) (touches version type) (λ x z e. rows_granted version type (row_in x) (wish (fields x)) z e) ss b h

pub total_kept : (b : Book) (ss : List Bytes) (version type : ℕ) → some_slip (touches version type) ss b ≡ false → (weight : Row → ℕ) →
    total weight version type (run ss b).blocks ≡ total weight version type b.blocks
total_kept b ss version type h weight =
    sym (total_rows weight version type (run ss b).blocks) ∙ ap (total weight version type) (rows_kept b ss version type h) ∙ total_rows weight version type b.blocks

pub types_kept : TypesKept
types_kept b ss version type l h =
    let key : Row = version ∷ type ∷ [] in
    type_asked (run ss b) (left_standing (run ss b) (run_left b ss l)) version type
    ∙ ap (λ (z : List Row). type_answered (nowhere (not_there when not (stands 2 key z))) (total seconds version type (run ss b).blocks) (total (λ x. 1) version type (run ss b).blocks))
    (other_tables_kept b ss l).0
    ∙ ap (λ (z : ℕ). type_answered (nowhere (not_there when not (stands 2 key b.types))) z (total (λ x. 1) version type (run ss b).blocks)) (total_kept b ss version type h seconds)
    ∙ ap (λ (z : ℕ). type_answered (nowhere (not_there when not (stands 2 key b.types))) (total seconds version type b.blocks) z) (total_kept b ss version type h (λ x. 1))
    ∙ sym (type_asked b (left_standing b l) version type)
