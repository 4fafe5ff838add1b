-- A delivery that is accepted, table by table, and the plainest delivery of a book. Assumes nothing.
use mathlib.Core.Path.{refl, ◌≡◌, ap, sym, ◌∙◌, subst}
use mathlib.Core.List.{[], List, ◌∷◌, map}
use mathlib.Core.Bool.{Bool, true, false}
use mathlib.Core.Logic.{◌⊎◌, inl, inr, ⊎_elim}
use Prim.Native.Nat.{ℕ, ◌≤◌, ◌<◌, suc}
use native.Mathlib.Omega.{arith}
use lib.ListN.{get_or}
use lib.Dec.{eqb}
use borrow.Author.Tests.{eqb-true, eqb-false}
use Rattle.words.specs.Words.{Bytes, Row}
use Rattle.refusals.specs.Verdicts.{placed, Check, Verdict}
use Rattle.std.specs.Prelude.{Ok, Err}
use Rattle.lines.specs.Lines.{lines, head_line, row_lines, line_after}
use Rattle.rows.specs.Rows.{rising as rises}
use Rattle.editions.specs.declared.Edition.{Edition}
use Rattle.tables.specs.declared.Table.{Table}
use Rattle.tables.specs.declared.Table.TheVariants.{VehicleType, Depot, Stop, StopPoint, Block, Calendar}
use Rattle.tables.specs.Parts.{part_of, tables}
use Rattle.tables.proofs.Figures.{part_below}
use Rattle.tables.proofs.Parts as parts
use Rattle.book.specs.Book.{Book, rows, empty_by, with_rows, entered}
use Rattle.book.specs.Result.{Result, refused, leaves, unless, ◌▹◌}
use Rattle.book.proofs.Laying.{rows_begun, rows_apart}
use Rattle.rules.specs.Rules.{unknown_of}
use Rattle.rules.proofs.Referring.{unknown_before}
use Rattle.header.specs.Header.{Header, header_of, top_faults}
use Rattle.row_line.specs.RowLine.{row_read}
use Rattle.table_lines.specs.Reading.{judged, rows_read}
use Rattle.table_reading.specs.Reading.{table_read}
use Rattle.delivery.specs.Delivery.{Delivery, reading}
use Rattle.writer.specs.Writing.{row_line, lines_written, names_line, written}
use Rattle.promises.specs.Promises.{InOrder, text_of, with_blocks}
use Rattle.promises.proofs.HeldLaws.{Held, EachGood, held_moved, held_table, Good, good_eleven, table_back}
use Rattle.promises.proofs.TestLaws.{came}
use Rattle.promises.proofs.PlainLaws.{plain_line, plain_line_block, plain_text, plain_names_block}

-- every table of the book stands by right
abbrev pub Standing : Book → Type 0
Standing b = (t : Table) → Held t b (rows t b)

nothing_held : (t : Table) (b : Book) → Held t b []
unfolding EachGood rises
nothing_held t b = record { rising = refl; good = tt; size = omega arith }

pub in_order : (ed : Edition) (d : Delivery) (b : Book) → reading ed d ≡ leaves b → InOrder ed d b
unfolding reading
in_order ed d b e =
    let r1 = table_read VehicleType d.types (empty_by ed) in
    let r2 = r1 ▹ table_read Depot d.depots in
    let r3 = r2 ▹ table_read Stop d.stops in
    let r4 = r3 ▹ table_read StopPoint d.points in
    let r5 = r4 ▹ table_read Block d.blocks in
    let s6 = came r5 (table_read Calendar d.days) b e in
    let s5 = came r4 (table_read Block d.blocks) s6.0 s6.1 in
    let s4 = came r3 (table_read StopPoint d.points) s5.0 s5.1 in
    let s3 = came r2 (table_read Stop d.stops) s4.0 s4.1 in
    let s2 = came r1 (table_read Depot d.depots) s3.0 s3.1 in
    record {
      behind_types = s2.0;
      behind_depots = s3.0;
      behind_stops = s4.0;
      behind_points = s5.0;
      behind_blocks = s6.0;
      types = s2.1;
      depots = s2.2;
      stops = s3.2;
      points = s4.2;
      blocks = s5.2;
      days = s6.2;
    }

-- a table's text is read to its rows in the book
pub record ReadTo (ed : Edition) (t : Table) (s : Bytes) (b : Book) : Type 0 where
  pub before : Book
  pub by : before.edition ≡ ed
  pub after : Book
  pub bare : rows t before ≡ []
  pub read : table_read t s before ≡ leaves after
  pub same : rows t after ≡ rows t b

-- table by table --------------------------------------------------------------------------------------------------------

-- behind the first n tables: each of them stands by right, as its text has it, and the others are empty
record Behind (n : ℕ) (ed : Edition) (d : Delivery) (b : Book) : Type 0 where
  by : b.edition ≡ ed
  held : (t : Table) → part_of t < n → Held t b (rows t b)
  read : (t : Table) → part_of t < n → ReadTo ed t (text_of t d) b
  bare : (t : Table) → n ≤ part_of t → rows t b ≡ []

behind_none : (ed : Edition) (d : Delivery) → Behind 0 ed d (empty_by ed)
behind_none ed d = record { by = refl; held = λ t l. absurd (omega arith); read = λ t l. absurd (omega arith); bare = λ t l. rows_begun ed t }

-- a table's part tells it
same_part : (t u : Table) → part_of t ≡ part_of u → t ≡ u
same_part t u e = sym (parts.in_order t) ∙ ap (λ (i : ℕ). get_or tables i Calendar) e ∙ parts.in_order u

own_or_before : (t u : Table) → part_of u < suc (part_of t) → (t ≡ u) ⊎ (part_of u < part_of t)
own_or_before t u l = go (eqb (part_of t) (part_of u)) refl
  where
    go : (q : Bool) → eqb (part_of t) (part_of u) ≡ q → (t ≡ u) ⊎ (part_of u < part_of t)
    go true e = inl (same_part t u (eqb-true (part_of t) (part_of u) e))
    go false e = let n : part_of t ≡ part_of u → ⊥ = eqb-false (part_of t) (part_of u) e in inr (omega (arith, n))

module _ (t : Table) (ed : Edition) (d : Delivery) (b c : Book) (k : Behind (part_of t) ed d b) (e : table_read t (text_of t d) b ≡ leaves c) where
  own_bare : rows t b ≡ []
  own_bare = k.bare t (omega arith)

  read_apart : (c ≡ with_rows t (rows t c) b) × Held t c (rows t c)
  read_apart = held_table t (text_of t d) b c (subst (λ (z : List Row). Held t b z) (sym own_bare) (nothing_held t b)) e

  same_edition : b.edition ≡ c.edition
  same_edition = sym (ap (λ (z : Book). z.edition) read_apart.0)

  other_rows : (u : Table) → (part_of u ≡ part_of t → ⊥) → rows u c ≡ rows u b
  other_rows u n = ap (rows u) read_apart.0 ∙ rows_apart t u (rows t c) b n

  earlier_held : (u : Table) → part_of u < part_of t → Held u c (rows u c)
  earlier_held u l =
      subst (λ (z : List Row). Held u c z) (sym (other_rows u (λ q. omega arith)))
      (held_moved u b c same_edition (unknown_before u b c (λ v m. sym (other_rows v (λ q. omega arith)))) (rows u b) (k.held u l))

  earlier_read : (u : Table) → part_of u < part_of t → ReadTo ed u (text_of u d) c
  earlier_read u l =
      let r : ReadTo ed u (text_of u d) b = k.read u l in
      record { before = r.before; by = r.by; after = r.after; bare = r.bare; read = r.read; same = r.same ∙ sym (other_rows u (λ q. omega arith)) }

  own_read : ReadTo ed t (text_of t d) c
  own_read = record { before = b; by = k.by; after = c; bare = own_bare; read = e; same = refl }

  behind_next : Behind (suc (part_of t)) ed d c
  behind_next =
      record {
        by = sym same_edition ∙ k.by;
        held = λ u l. ⊎_elim (λ q. subst (λ (v : Table). Held v c (rows v c)) q read_apart.1) (earlier_held u) (own_or_before t u l);
        read = λ u l. ⊎_elim (λ q. subst (λ (v : Table). ReadTo ed v (text_of v d) c) q own_read) (earlier_read u) (own_or_before t u l);
        bare = λ u l. other_rows u (λ q. omega arith) ∙ k.bare u (omega arith);
      }

-- the calendar has no references, and none lead there: it reads alike on other blocks ----------------------------------------

abbrev mapped : (Book → Book) → Result → Result
mapped f (refused p) = refused p
mapped f (leaves b) = leaves (f b)

judged_aside : (h : Header) (line : Bytes) (ys : List Row) (b : Book) → judged Calendar h line (with_rows Block ys b) ≡ judged Calendar h line b
unfolding judged unknown_of
judged_aside h line ys b = refl

rows_aside : (h : Header) (i : ℕ) (ls : List Bytes) (ys : List Row) (b : Book) → rows_read Calendar h i ls (with_rows Block ys b) ≡ mapped (with_rows Block ys) (rows_read Calendar h i ls b)
unfolding rows_read
rows_aside h i [] ys b = refl
rows_aside h i (l ∷ ls) ys b =
    let x : Book = entered Calendar (row_read b.edition Calendar h l) b in
    let on : ℕ = line_after b.edition i l in
    ap (λ (c : Check). unless (placed 7 i c) (rows_read Calendar h on ls (with_rows Block ys x))) (judged_aside h l ys b)
    ∙ go (placed 7 i (judged Calendar h l b)) (rows_read Calendar h on ls (with_rows Block ys x)) (rows_read Calendar h on ls x) (rows_aside h on ls ys x)
  where
    go : (v : Verdict) (q r : Result) → q ≡ mapped (with_rows Block ys) r → unless v q ≡ mapped (with_rows Block ys) (unless v r)
    go (Ok _) q r e = e
    go (Err p) q r e = refl

calendar_aside : (s : Bytes) (ys : List Row) (b : Book) → table_read Calendar s (with_rows Block ys b) ≡ mapped (with_rows Block ys) (table_read Calendar s b)
unfolding table_read
calendar_aside s ys b =
    let ls = lines b.edition s in
    go (top_faults b.edition Calendar s) _ _ (rows_aside (header_of b.edition Calendar s) (line_after b.edition 1 (head_line ls)) (row_lines ls) ys b)
  where
    go : (v : Verdict) (q r : Result) → q ≡ mapped (with_rows Block ys) r → unless v q ≡ mapped (with_rows Block ys) (unless v r)
    go (Ok _) q r e = e
    go (Err p) q r e = refl

-- an accepted delivery: what the tables before the blocks leave, the calendar behind them, the book, and each table
pub record Accepted (ed : Edition) (d : Delivery) (b : Book) : Type 0 where
  pub by : b.edition ≡ ed
  pub before_blocks : (leaves (empty_by ed) ▹ table_read VehicleType d.types ▹ table_read Depot d.depots ▹ table_read Stop d.stops ▹ table_read StopPoint d.points)
      ≡ leaves (with_rows Block [] (with_rows Calendar [] b))
  pub days : table_read Calendar d.days (with_rows Calendar [] b) ≡ leaves b
  pub standing : Standing b
  pub tables : (t : Table) → ReadTo ed t (text_of t d) b

pub left_by : (ed : Edition) (d : Delivery) (b : Book) → reading ed d ≡ leaves b → Accepted ed d b
left_by ed d b e =
    let o : InOrder ed d b = in_order ed d b e in
    let b4 : Book = o.behind_points in
    let b5 : Book = o.behind_blocks in
    let k1 = behind_next VehicleType ed d (empty_by ed) o.behind_types (behind_none ed d) o.types in
    let k2 = behind_next Depot ed d o.behind_types o.behind_depots k1 o.depots in
    let k3 = behind_next Stop ed d o.behind_depots o.behind_stops k2 o.stops in
    let k4 = behind_next StopPoint ed d o.behind_stops b4 k3 o.points in
    let k5 = behind_next Block ed d b4 b5 k4 o.blocks in
    let k6 = behind_next Calendar ed d b5 b k5 o.days in
    let undated : with_rows Calendar [] b ≡ b5 =
    ap (λ (z : Book). with_rows Calendar [] z) (read_apart Calendar ed d b5 b k5 o.days).0 ∙ ap (λ (z : List Row). with_rows Calendar z b5) (sym (own_bare Calendar ed d b5 b k5 o.days)) in
    let unblocked : with_rows Block [] b5 ≡ b4 =
    ap (λ (z : Book). with_rows Block [] z) (read_apart Block ed d b4 b5 k4 o.blocks).0 ∙ ap (λ (z : List Row). with_rows Block z b4) (sym (own_bare Block ed d b4 b5 k4 o.blocks)) in
    record {
      by = k6.by;
      before_blocks =
          rw (o.types, o.depots, o.stops, o.points) (ap (λ (z : Book). leaves z) (sym (ap (λ (z : Book). with_rows Block [] z) undated ∙ unblocked)));
      days = ap (table_read Calendar d.days) undated ∙ o.days;
      standing = λ t. k6.held t (part_below t);
      tables = λ t. k6.read t (part_below t);
    }

-- behind other blocks the calendar is read to the same days
days_behind : (d : Delivery) (b : Book) → table_read Calendar d.days (with_rows Calendar [] b) ≡ leaves b → (v : Verdict) (ys : List Row) →
    (unless v (leaves (with_rows Block ys (with_rows Calendar [] b))) ▹ table_read Calendar d.days) ≡ unless v (leaves (with_rows Block ys b))
days_behind d b e (Ok _) ys = calendar_aside d.days ys (with_rows Calendar [] b) ∙ ap (mapped (with_rows Block ys)) e
days_behind d b e (Err p) ys = refl

-- blocks that stand by right do so without a calendar
pub held_undated : (b : Book) (ys : List Row) → Held Block b ys → Held Block (with_rows Calendar [] b) ys
unfolding unknown_of
held_undated b ys h = held_moved Block b (with_rows Calendar [] b) refl (λ row. refl) ys h

-- a delivery with another text of blocks, by what that text comes to behind the tables before it
pub with_other_blocks : (ed : Edition) (d : Delivery) (b : Book) → reading ed d ≡ leaves b → (s : Bytes) (v : Verdict) (ys : List Row) →
    table_read Block s (with_rows Block [] (with_rows Calendar [] b)) ≡ unless v (leaves (with_rows Block ys (with_rows Calendar [] b))) →
    reading ed (with_blocks s d) ≡ unless v (leaves (with_rows Block ys b))
unfolding reading
with_other_blocks ed d b e s v ys r =
    let a : Accepted ed d b = left_by ed d b e in
    ap (λ (x : Result). x ▹ table_read Block s ▹ table_read Calendar d.days) a.before_blocks
    ∙ ap (λ (x : Result). x ▹ table_read Calendar d.days) r
    ∙ days_behind d b a.days v ys

-- the writer's form ------------------------------------------------------------------------------------------------------

pub lines_plain : (b : Book) (ys : List Row) → EachGood Block b ys → map (plain_line Block) ys ≡ map row_line ys
unfolding EachGood
lines_plain b [] h = refl
lines_plain b (y ∷ ys) h =
    let g : Good Block b y = h.0 in
    rw (plain_line_block y (good_eleven Block y g.shape), lines_plain b ys h.1)

pub written_plain : (b : Book) (ys : List Row) → Held Block b ys → plain_text Block ys ≡ lines_written (names_line ∷ map row_line ys)
written_plain b ys h = rw (plain_names_block, lines_plain b ys h.good)

-- what is written is read to the blocks, on the same other tables
pub blocks_back : (b : Book) (ys : List Row) → Held Block b ys → table_read Block (lines_written (names_line ∷ map row_line ys)) (with_rows Block [] b) ≡ leaves (with_rows Block ys b)
blocks_back b ys h = ap (λ (s : Bytes). table_read Block s (with_rows Block [] b)) (sym (written_plain b ys h)) ∙ table_back Block b ys h

-- the plainest delivery --------------------------------------------------------------------------------------------------

abbrev pub plain_delivery : Book → Delivery
plain_delivery b = record { types = plain_text VehicleType b.types; depots = plain_text Depot b.depots; stops = plain_text Stop b.stops; points = plain_text StopPoint b.points; blocks = written b; days = plain_text Calendar b.days }

pub plain_read : (b : Book) → Standing b → reading b.edition (plain_delivery b) ≡ leaves b
unfolding reading unknown_of
plain_read b h =
    let none : Book = empty_by b.edition in
    let b1 : Book = with_rows VehicleType b.types none in
    let b2 : Book = with_rows Depot b.depots b1 in
    let b3 : Book = with_rows Stop b.stops b2 in
    let b5 : Book = with_rows Calendar [] b in
    rw (
      table_back VehicleType none b.types (held_moved VehicleType b none refl (λ row. refl) b.types (h VehicleType)),
      table_back Depot b1 b.depots (held_moved Depot b b1 refl (λ row. refl) b.depots (h Depot)),
      table_back Stop b2 b.stops (held_moved Stop b b2 refl (λ row. refl) b.stops (h Stop)),
      table_back StopPoint b3 b.points (held_moved StopPoint b b3 refl (λ row. refl) b.points (h StopPoint)),
      blocks_back b5 b.blocks (held_undated b b.blocks (h Block)),
    )
    (table_back Calendar b b.days (h Calendar))
