-- A line heard: what is kept behind it. Assumes nothing.
use mathlib.Core.Path.{◌≡◌, refl, ap, sym, subst, ◌∙◌}
use mathlib.Core.List.{List, [], ◌∷◌}
use mathlib.Core.Bool.{Bool, true, false}
use Prim.Native.Nat.{ℕ, ◌≤◌, ◌<◌}
use native.Mathlib.Omega.{arith}
use lib.Dec.{ltb}
use lib.ListN.{length, take, drop}
use lib.Seq.{take-append_seam}
use borrow.Author.Tests.{ltb-true, ltb-false, le-leb, lt-leb}
use Rattle.words.specs.Words.{Bytes, Row}
use Rattle.refusals.specs.Verdicts.{place, placed, in_header, too_many_rows, line_too_long, Check, Verdict}
use Rattle.std.specs.Prelude.{Ok, Err}
use Rattle.refusals.proofs.Placing.{placed_passes}
use Rattle.lines.specs.Lines.{line_after, most_line, lines as lines_of}
use Rattle.numbers.specs.Putting.{put}
use Rattle.numbers.proofs.Putting.{rest}
use Rattle.editions.specs.declared.Edition.{Edition}
use Rattle.tables.specs.Columns.{number}
use Rattle.tables.specs.Parts.{room}
use Rattle.tables.specs.declared.Table.{Table}
use Rattle.book.specs.Book.{Book, rows, entered}
use Rattle.book.specs.Holding.{Sound, result_of}
use Rattle.book.specs.Result.{Result, leaves, unless}
use Rattle.book.specs.Room.{book_of}
use Rattle.rules.specs.Points.{points_named, NamedIn}
use Rattle.header.specs.Header.{Header, header_check, most_cells}
use Rattle.header.specs.Heading.{heading, headed, places, cells_kept}
use Rattle.header.specs.declared.Heading.{Heading}
use Rattle.header.proofs.Names.{header_length, header_few, heading_kept}
use Rattle.cells.specs.Cells.{cut, cells_of}
use Rattle.tables.specs.Listing.{listed}
use Rattle.row_line.specs.Judging.{Guided}
use Rattle.row_line.specs.RowLine.{row_read}
use Rattle.table_lines.specs.Reading.{judged, rows_read}
use Rattle.table_lines.specs.Taking.{lines_after}
use Rattle.radio.specs.Radio.{Course, going, onward, header_in, line_heard}
use Rattle.radio.specs.Hearing.{bytes_heard}
use Rattle.radio.proofs.Hearing.{long_judged, long_headed, line_after_lem, Of, of_line, of_bytes}
use Rattle.radio_lines.specs.Lines.{course_held, kept, Holding, CameTo, Stopping, Finished}
use Rattle.radio_lines.specs.declared.Heard.{Heard}
use Rattle.radio_lines.proofs.Bytes.{length_put}
use Rattle.radio_lines.proofs.Rows.{coursed, coursed_unless, coursed_line, lines_low, row_heard_lem, rows_came}

-- a line that is too long -------------------------------------------------------------------------------------------------------------

module _ (t : Table) (l : Bytes) (b : Book) (i : ℕ) (head : Bytes) (v : Verdict) (long : most_line < length l) where
  pub long_head : i ≡ 1 → v ≡ placed (number t) i line_too_long → Stopping v (line_heard t l b i head)
  unfolding line_heard
  long_head e o = record { at = place 17 (number t) i 0; refused = o; is = rw (e, long_headed b.edition t l long) }

  module _ (n : i ≡ 1 → ⊥) where
    pub long_full : room t ≤ length (rows t b) → v ≡ placed (number t) i too_many_rows → Stopping v (line_heard t l b i head)
    long_full f o = record { at = place 5 (number t) i 0; refused = o; is = row_heard_lem t l b i head n ∙ rw (long_judged t (header_in b.edition t head) l b long, le-leb (room t) (length (rows t b)) f) }

    pub long_row : length (rows t b) < room t → v ≡ placed (number t) i line_too_long → Stopping v (line_heard t l b i head)
    long_row f o = record { at = place 17 (number t) i 0; refused = o; is = row_heard_lem t l b i head n ∙ rw (long_judged t (header_in b.edition t head) l b long, lt-leb (room t) (length (rows t b)) f) }

-- what stops a table is told whatever is kept
pub stopped_came : (t : Table) (v : Verdict) (c : Course) → Stopping v c → (book : List Row) (lines : Bytes) (i head rest : ℕ) → CameTo t c book lines (record { verdict = v; line = i; head = head; rest = rest })
stopped_came t v c k book lines i head rest = record { is = rw k.refused (sym k.is); holds = λ a. never (sym a ∙ k.refused) }
  where
    never : {A : Type 0} → ◌≡◌ {A = Verdict} (Ok tt) (Err k.at) → A
    never e = let z : ◌≡◌ {A = ℕ} 0 1 = cc in absurd (omega arith)

-- the header --------------------------------------------------------------------------------------------------------------------------

pub head_short : (ed : Edition) (t : Table) (l : Bytes) → header_check ed t l ≡ Ok tt → length l ≤ most_line
head_short ed t l p = go (ltb most_line (length l)) refl
  where
    never : {A : Type 0} → line_too_long ≡ Ok tt → A
    never e = let z : ◌≡◌ {A = ℕ} 0 1 = cc in absurd (omega arith)

    go : (q : Bool) → ltb most_line (length l) ≡ q → length l ≤ most_line
    go true e = never (sym (long_headed ed t l (ltb-true most_line (length l) e)) ∙ p)
    go false e = ltb-false most_line (length l) e

-- the edition of the book is `ed`, and the next line's number `next`
module _ (t : Table) (line : Bytes) (from : Heard) (book : List Row) (lines lines' : Bytes) (hold : Holding t from book lines) (ed : Edition) (by : ed ≡ (book_of book).edition)
    (next : ℕ) (after : next ≡ line_after ed from.line line) (v : Verdict) (o : v ≡ in_header (number t) (header_check ed t line))
    (w : v ≡ Ok tt → lines' ≡ put line lines) (one : from.line ≡ 1) where
  abbrev behind : Heard
  behind = record { verdict = v; line = next; head = length line; rest = 0 }

  checked : v ≡ in_header (number t) (header_check (book_of book).edition t line)
  checked = o ∙ ap (λ (x : Edition). in_header (number t) (header_check x t line)) by

  numbered : next ≡ line_after (book_of book).edition 1 line
  numbered = after ∙ ap (λ (x : Edition). line_after x from.line line) by ∙ ap (λ (n : ℕ). line_after (book_of book).edition n line) one

  head_is : line_heard t line (book_of book) from.line (take from.head lines) ≡ onward v (going (book_of book) next line [])
  unfolding line_heard
  head_is = rw (one, checked, numbered)

  line_kept : v ≡ Ok tt → take (length line) lines' ≡ line
  line_kept a = ap (take (length line)) (w a) ∙ take-append_seam line (drop (length line) lines)

  pub head_came : CameTo t (line_heard t line (book_of book) from.line (take from.head lines)) book lines' behind
  head_came = record { is = go v refl ∙ sym head_is; holds = λ a. holds a (placed_passes (number t) 1 (header_check (book_of book).edition t line) (sym checked ∙ a)) }
    where
      go : (u : Verdict) → v ≡ u → course_held u next (length line) 0 book lines' ≡ onward u (going (book_of book) next line [])
      go (Ok _) e = ap (λ (z : Bytes). going (book_of book) next z []) (line_kept e)
      go (Err p) e = refl

      holds : v ≡ Ok tt → header_check (book_of book).edition t line ≡ Ok tt → Holding t behind book lines'
      holds a p =
          let two : 1 < next = rw numbered (line_after_lem (book_of book).edition 1 line) in
          record {
            sound = hold.sound;
            named = hold.named;
            long = ap length (w a) ∙ length_put line lines (omega (arith, head_short (book_of book).edition t line p, hold.long)) ∙ hold.long;
            heads = head_short (book_of book).edition t line p;
            rests = omega arith;
            begun = omega arith;
            first = λ e. absurd (omega arith);
            headed = λ n. ap (header_check (book_of book).edition t) (line_kept a) ∙ p;
          }

-- rows --------------------------------------------------------------------------------------------------------------------------------

held_coursed : (v : Verdict) (xs : List Row) (lines : Bytes) (i head : ℕ) → course_held v i head 0 xs lines ≡ coursed (result_of v xs) i (take head lines)
held_coursed (Ok _) xs lines i head = refl
held_coursed (Err p) xs lines i head = refl

named_left : (v : Verdict) (xs : List Row) → NamedIn (result_of v xs) → v ≡ Ok tt → points_named (book_of xs) ≡ true
named_left v xs n a = subst (λ (u : Verdict). NamedIn (result_of u xs)) a n

-- a course that goes on has the edition of the book that is kept
pub of_held : (ed : Edition) (v : Verdict) (i head rest : ℕ) (xs : List Row) (lines : Bytes) (c : Course) → course_held v i head rest xs lines ≡ c → Of ed c → v ≡ Ok tt → (book_of xs).edition ≡ ed
of_held ed v i head rest xs lines c is o a = subst (Of ed) (sym (ap (λ (u : Verdict). course_held u i head rest xs lines) (sym a) ∙ is)) o

module _ (t : Table) (from : Heard) (book book' : List Row) (lines : Bytes) (hold : Holding t from book lines) (v : Verdict) (sound : Sound book') (named : NamedIn (result_of v book'))
    (same : v ≡ Ok tt → (book_of book').edition ≡ (book_of book).edition) (next : ℕ) (later : v ≡ Ok tt → 2 ≤ next) (row : from.line ≡ 1 → ⊥) where
  pub rows_hold : v ≡ Ok tt → Holding t (record { verdict = v; line = next; head = from.head; rest = 0 }) book' lines
  rows_hold a =
      let two : 2 ≤ next = later a in
      record {
        sound = sound;
        named = named_left v book' named a;
        long = hold.long;
        heads = hold.heads;
        rests = omega arith;
        begun = omega arith;
        first = λ e. absurd (omega arith);
        headed = λ n. ap (λ (x : Edition). header_check x t (take from.head lines)) (same a) ∙ hold.headed row;
      }

module _ (t : Table) (from : Heard) (book book' : List Row) (lines : Bytes) (hold : Holding t from book lines) (v : Verdict) (sound : Sound book') (named : NamedIn (result_of v book')) where
  abbrev head : Bytes
  head = take from.head lines

  abbrev ed : Edition
  ed = (book_of book).edition

  -- a line under the header that is kept, which is lent as `front`
  pub row_came : (line front : Bytes) → front ≡ head → (from.line ≡ 1 → ⊥) → (next : ℕ) → next ≡ line_after ed from.line line
      → result_of v book' ≡ unless (placed (number t) from.line (judged t (header_in ed t front) line (book_of book))) (leaves (entered t (row_read ed t (header_in ed t front) line) (book_of book)))
      → CameTo t (line_heard t line (book_of book) from.line head) book' lines (record { verdict = v; line = next; head = from.head; rest = 0 })
  row_came line front f n next after e =
      record {
        is = came;
        holds = rows_hold t from book book' lines hold v sound named (of_held ed v next from.head 0 book' lines (line_heard t line (book_of book) from.line head) came (of_line ed t line (book_of book) from.line head refl))
            next (λ a. omega (arith, hold.begun, after, line_after_lem ed from.line line)) n;
      }
    where
      fault : Bytes → Verdict
      fault h = placed (number t) from.line (judged t (header_in ed t h) line (book_of book))

      new : Bytes → Book
      new h = entered t (row_read ed t (header_in ed t h) line) (book_of book)

      left : Bytes → Result
      left h = unless (fault h) (leaves (new h))

      came : course_held v next from.head 0 book' lines ≡ line_heard t line (book_of book) from.line head
      came =
          held_coursed v book' lines next from.head
          ∙ ap (λ (r : Result). coursed r next head) (e ∙ ap left f)
          ∙ coursed_unless (fault head) (new head) next head
          ∙ ap (λ (k : ℕ). onward (fault head) (going (new head) k head [])) after
          ∙ sym (row_heard_lem t line (book_of book) from.line head n)

  pub body_came : (body front : Bytes) → front ≡ head → 2 ≤ from.line → from.rest ≡ 0 → Finished ed [] body → (next : ℕ) → (v ≡ Ok tt → next ≡ lines_after ed from.line (lines_of ed body))
      → result_of v book' ≡ rows_read t (header_in ed t front) from.line (lines_of ed body) (book_of book)
      → CameTo t (bytes_heard t body (kept from book lines)) book' lines (record { verdict = v; line = next; head = from.head; rest = 0 })
  body_came body front f two none fed next after e =
      record {
        is = came;
        holds = rows_hold t from book book' lines hold v sound named (of_held ed v next from.head 0 book' lines (bytes_heard t body (kept from book lines)) came (of_bytes ed t body (kept from book lines) refl))
            next (λ a. omega (arith, after a, two, lines_low ed from.line (lines_of ed body))) (λ z. omega arith);
      }
    where
      came : course_held v next from.head 0 book' lines ≡ bytes_heard t body (kept from book lines)
      came =
          held_coursed v book' lines next from.head
          ∙ coursed_line v book' next _ head after
          ∙ ap (λ (r : Result). coursed r (lines_after ed from.line (lines_of ed body)) head) (e ∙ ap (λ (h : Bytes). rows_read t (header_in ed t h) from.line (lines_of ed body) (book_of book)) f)
          ∙ sym (ap (λ (k : ℕ). bytes_heard t body (going (book_of book) from.line head (take k (drop most_line lines)))) none ∙ rows_came t head body (book_of book) from.line two fed)

-- no bytes
pub none_came : (t : Table) (from : Heard) (book : List Row) (lines : Bytes) → Holding t from book lines → (body : Bytes) → length body ≡ 0 → from.rest ≡ 0
    → CameTo t (bytes_heard t body (kept from book lines)) book lines (record { verdict = Ok tt; line = from.line; head = from.head; rest = 0 })
unfolding bytes_heard
none_came t from book lines hold [] e none =
    record {
      is = ap (λ (k : ℕ). going (book_of book) from.line (take from.head lines) (take k (drop most_line lines))) (sym none);
      holds = λ a. record { sound = hold.sound; named = hold.named; long = hold.long; heads = hold.heads; rests = omega arith; begun = hold.begun; first = hold.first; headed = hold.headed };
    }
none_came t from book lines hold (x ∷ xs) e none = absurd (omega arith)

-- the header's verdict, and what rows are read by ----------------------------------------------------------------------------------------

heading_check : (ed : Edition) (t : Table) (line : Bytes) → (heading ed t line).check ≡ header_check ed t line
heading_check ed t line = go (header_check ed t line)
  where
    go : (c : Check) → (headed c (header_in ed t line)).check ≡ c
    go (Ok _) = refl
    go (Err f) = refl

pub head_verdict : (ed : Edition) (t : Table) (line : Bytes) (h : Heading) (n : ℕ) (v : Verdict) → h ≡ heading ed t line → n ≡ number t → v ≡ placed n 1 h.check → v ≡ in_header (number t) (header_check ed t line)
head_verdict ed t line h n v e k o = o ∙ ap (λ (m : ℕ). placed m 1 h.check) k ∙ ap (placed (number t) 1) (ap (λ (x : Heading). x.check) e ∙ heading_check ed t line)

-- by the edition `x` that the code found, which is the book's
module _ (x ed : Edition) (by : x ≡ ed) (t : Table) (line : Bytes) (h : Heading) (e : h ≡ heading x t line) (p : header_check ed t line ≡ Ok tt) where
  pub head_places : h.at ≡ places (header_in ed t line)
  head_places = ap (λ (g : Heading). g.at) (e ∙ ap (λ (y : Edition). heading y t line) by) ∙ heading_kept ed t line p

  pub head_guides : (columns : List (List ℕ)) → columns ≡ listed x t → Guided ed t columns h.at
  head_guides columns k =
      let is : h.at ≡ places (header_in ed t line) = head_places in
      record {
        rules = k ∙ ap (λ (y : Edition). listed y t) by;
        few = rw is (few (header_in ed t line) (omega (arith, header_length ed t (cells_of (cut ed line)), header_few ed t line p)));
        headed = (header_in ed t line, is);
      }
    where
      few : (g : Header) → length g ≤ most_cells → cells_kept (places g) ≤ most_cells
      few g l = l
