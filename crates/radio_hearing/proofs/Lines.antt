-- A part heard: the line that ends in it, the lines behind, and what is left. Assumes nothing.
use mathlib.Core.Path.{◌≡◌, refl, ap, sym, subst, ◌∙◌}
use mathlib.Core.List.{List, ◌++◌}
use Prim.Native.Nat.{ℕ, suc, ◌+◌, ◌-◌, ◌≤◌, ◌<◌}
use native.Mathlib.Omega.{arith}
use lib.ListN.{length, take, drop, length-append, length-drop, take-append-drop}
use native.Mathlib.Nat.{zero-add}
use native.Mathlib.Numerals.{add-one}
use lib.Seq.{length-take-le, take_all, drop-drop}
use Rattle.words.specs.Words.{Bytes, Row}
use Rattle.refusals.specs.declared.Place.{Place}
use Rattle.std.specs.Prelude.{Ok, Err}
use Rattle.refusals.specs.Verdicts.{Verdict}
use Rattle.lines.specs.Lines.{most_line, quoting_behind}
use Rattle.lines.specs.Ends.{line_at, line_length, feed_from}
use Rattle.lines.specs.declared.Line.{Line}
use Rattle.numbers.specs.Putting.{put}
use Rattle.numbers.proofs.Putting.{rest, back, length_rest, length_back}
use Rattle.editions.specs.declared.Edition.{Edition}
use Rattle.cells.specs.declared.State.{State}
use Rattle.cells.specs.declared.State.TheVariants.{Fresh}
use Rattle.tables.specs.Parts.{room}
use Rattle.tables.specs.declared.Table.{Table}
use Rattle.book.specs.Book.{Book}
use Rattle.book.specs.Room.{book_of}
use Rattle.header.specs.Header.{header_check}
use Rattle.table_reading.proofs.Taking.{not_accepted}
use Rattle.radio.proofs.Stretching.{front, part_long, part_tail, part_line, over_join, line_found}
use Rattle.radio.specs.Radio.{Course, stopped, going, line_heard, kept_line, ended}
use Rattle.radio.specs.Hearing.{bytes_heard}
use Rattle.radio.proofs.Parting.{ended_short}
use Rattle.radio.proofs.Hearing.{over_stopped, of_bytes}
use Rattle.radio_lines.specs.Lines.{course_held, kept, Holding, CameTo, Stopping}
use Rattle.radio_lines.specs.declared.Heard.{Heard}
use Rattle.radio_lines.proofs.Bytes.{length_put, from_begin, to_end}
use Rattle.radio_lines.proofs.Lines.{stopped_came, of_held}
use Rattle.radio_hearing.specs.Hearing.{Feedless}
use Rattle.radio_hearing.proofs.Bytes.{behind_kept, none_came}

-- a part ------------------------------------------------------------------------------------------------------------------------------

pub rest_length_lem : (t : Table) (from : Heard) (book : List Row) (lines : Bytes) → Holding t from book lines → length (take from.rest (drop most_line lines)) ≡ from.rest
rest_length_lem t from book lines hold = length-take-le from.rest (drop most_line lines) (rw length-drop (omega (arith, hold.long, hold.rests)))

module _ (t : Table) (from : Heard) (book : List Row) (lines : Bytes) (hold : Holding t from book lines) where
  abbrev came : Bytes
  came = take from.rest (drop most_line lines)

  -- the edition of the book, how the quotes of the unfinished line stand, and its bytes before the line feed that ends it
  abbrev ed : Edition
  ed = (book_of book).edition

  abbrev stands : State
  stands = quoting_behind Fresh came

  pub long_came : (s : Bytes) (v : Verdict) → kept_line - from.rest < length (front ed stands s) → ((l head : Bytes) → most_line < length l → Stopping v (line_heard t l (book_of book) from.line head))
      → (lines' : Bytes) → CameTo t (bytes_heard t s (kept from book lines)) book lines' (record { verdict = v; line = from.line; head = from.head; rest = from.rest })
  long_came s v few stop lines' =
      let n : length came ≡ from.rest = rest_length_lem t from book lines hold in
      let long : kept_line < length (came ++ front ed stands s) = omega (arith, length-append came (front ed stands s), n, few, hold.rests) in
      let head : Bytes = take from.head lines in
      let k : Stopping v (line_heard t (came ++ front ed stands s) (book_of book) from.line head) = stop (came ++ front ed stands s) head (omega arith) in
      let is : bytes_heard t s (kept from book lines) ≡ line_heard t (came ++ front ed stands s) (book_of book) from.line head = part_long t s (book_of book) from.line head came (omega (arith, n, hold.rests)) long in
      stopped_came t v (bytes_heard t s (kept from book lines)) (record { at = k.at; refused = k.refused; is = is ∙ k.is }) book lines' from.line from.head from.rest

  pub tail_came : (tail ys : Bytes) → Feedless ed stands tail → from.rest + length tail ≤ kept_line → ys ≡ put tail (rest lines (most_line + from.rest)) → (n : ℕ) → n ≡ length tail
      → CameTo t (bytes_heard t tail (kept from book lines)) book (back lines (most_line + from.rest) ys) (record { verdict = Ok tt; line = from.line; head = from.head; rest = from.rest + n })
  tail_came tail ys unfed few ey n en =
      record {
        is = ap (λ (h : Bytes). going (book_of book) from.line h (take (from.rest + n) (drop most_line lines'))) heads
            ∙ ap (going (book_of book) from.line (take from.head lines)) (ap (λ (k : ℕ). take (from.rest + k) (drop most_line lines')) en ∙ both.1)
            ∙ sym (part_tail t tail (book_of book) from.line (take from.head lines) came unfed (omega (arith, length-append came tail, rest_length_lem t from book lines hold)));
        holds = λ a. record {
          sound = hold.sound;
          named = hold.named;
          long = length_back lines ys (most_line + from.rest) (ap length ey ∙ length_put tail (rest lines (most_line + from.rest)) (omega (arith, room, hold.long))) ∙ hold.long;
          heads = hold.heads;
          rests = omega arith;
          begun = hold.begun;
          first = hold.first;
          headed = λ m. ap (header_check ed t) heads ∙ hold.headed m;
        };
      }
    where
      lines' : Bytes
      lines' = back lines (most_line + from.rest) ys

      room : length (rest lines (most_line + from.rest)) ≡ length lines - (most_line + from.rest)
      room = length_rest lines (most_line + from.rest)

      both : ((k : ℕ) → k ≤ most_line → take k lines' ≡ take k lines) × (take (from.rest + length tail) (drop most_line lines') ≡ came ++ tail)
      both = behind_kept lines tail ys most_line from.rest (omega (arith, hold.long, hold.rests)) ey

      heads : take from.head lines' ≡ take from.head lines
      heads = both.0 from.head hold.heads

-- the bytes of a part in turn: a refusal stays, and what goes on goes on
module _ (t : Table) (b : Bytes) (c all : Course) (whole : all ≡ bytes_heard t b c) (h : Heard) (book : List Row) (lines : Bytes) (k : CameTo t c book lines h) where
  pub stays_stopped : (p : Place) → h.verdict ≡ Err p → (book' : List Row) (lines' : Bytes) → CameTo t all book' lines' h
  stays_stopped p r book' lines' =
      let at : c ≡ stopped p = sym k.is ∙ ap (λ (v : Verdict). course_held v h.line h.head h.rest book lines) r in
      record {
        is = ap (λ (v : Verdict). course_held v h.line h.head h.rest book' lines') r ∙ sym (whole ∙ ap (bytes_heard t b) at ∙ over_stopped t b p);
        holds = λ q. not_accepted p (sym r ∙ q);
      }

  pub goes_on : h.verdict ≡ Ok tt → (book' : List Row) (lines' : Bytes) (r : Heard) → CameTo t (bytes_heard t b (kept h book lines)) book' lines' r → CameTo t all book' lines' r
  goes_on q book' lines' r n =
      let at : kept h book lines ≡ c = ap (λ (v : Verdict). course_held v h.line h.head h.rest book lines) (sym q) ∙ k.is in
      subst (λ (x : Course). CameTo t x book' lines' r) (ap (bytes_heard t b) at ∙ sym whole) n

pub over_parted : (t : Table) (s a b : Bytes) (c : Course) → s ≡ a ++ b → bytes_heard t s c ≡ bytes_heard t b (bytes_heard t a c)
over_parted t s a b c e = ap (λ (z : Bytes). bytes_heard t z c) e ∙ over_join t a b c

-- the edition of the book stays
pub edition_stays : (t : Table) (s : Bytes) (from h : Heard) (book book' : List Row) (lines lines' : Bytes) → CameTo t (bytes_heard t s (kept from book lines)) book' lines' h → h.verdict ≡ Ok tt
    → (book_of book').edition ≡ (book_of book).edition
edition_stays t s from h book book' lines lines' k a =
    of_held (book_of book).edition h.verdict h.line h.head h.rest book' lines' (bytes_heard t s (kept from book lines)) k.is (of_bytes (book_of book).edition t s (kept from book lines) refl) a

-- the line that ends in a part ------------------------------------------------------------------------------------------------------------

module _ (ed : Edition) (part lines : Bytes) (feed r : ℕ) where
  abbrev line : Bytes
  line = ended (take r (drop most_line lines) ++ take feed part)

  -- by the edition `x` that the code found
  pub line_lies : (x : Edition) → x ≡ ed → (l : Line) → l ≡ line_at x part 0 → feed ≡ feed_from ed (quoting_behind Fresh (take r (drop most_line lines))) part → feed < length part → r ≡ 0
      → take (l.end - 0) (drop 0 part) ≡ line
  line_lies x by l e f h none =
      let n : l.end ≡ line_length ed Fresh part = ap (λ (y : Line). y.end) e ∙ ap (λ (y : Edition). 0 + line_length y Fresh part) by ∙ zero-add (line_length ed Fresh part) in
      let g : feed ≡ feed_from ed Fresh part = f ∙ ap (λ (q : State). feed_from ed q part) (none_came (drop most_line lines) r none) in
      from_begin part l.end ∙ ap (λ (k : ℕ). take k part) n ∙ sym (line_found ed part (omega arith))
      ∙ ap ended (ap (λ (k : ℕ). take k part) (sym g) ∙ ap (λ (k : ℕ). take k (drop most_line lines) ++ take feed part) (sym none))

  pub line_together : (room : Bytes) (n : ℕ) → take n room ≡ ended (take (most_line + r - most_line) (drop most_line lines) ++ take (feed - 0) (drop 0 part))
      → take (n - 0) (drop 0 room) ≡ line
  line_together room n e =
      let k : most_line + r - most_line ≡ r = omega arith in
      from_begin room n ∙ e ∙ ap ended (ap (λ (m : ℕ). take m (drop most_line lines) ++ take (feed - 0) (drop 0 part)) k ∙ ap (λ (z : Bytes). take r (drop most_line lines) ++ z) (from_begin part feed))

  pub same_line : (t : Table) (l m : Bytes) → l ≡ m → (b : Book) (i : ℕ) (head : Bytes) (book : List Row) (lines' : Bytes) (h : Heard) → CameTo t (line_heard t l b i head) book lines' h → CameTo t (line_heard t m b i head) book lines' h
  same_line t l m e b i head book lines' h k = subst (λ (z : Bytes). CameTo t (line_heard t z b i head) book lines' h) e k

  -- a line has no more bytes than came of it
  pub line_short : length (take r (drop most_line lines)) ≡ r → feed < length part → (l : Bytes) → l ≡ line → length l ≤ r + feed
  line_short n h l e =
      let came : Bytes = take r (drop most_line lines) in
      let m : length (take feed part) ≡ feed = length-take-le feed part (omega arith) in
      omega (arith, ap length e, ended_short (came ++ take feed part), length-append came (take feed part), n, m)

pub front_length : (ed : Edition) (q : State) (s : Bytes) (feed : ℕ) → feed ≡ feed_from ed q s → feed < length s → length (front ed q s) ≡ feed
front_length ed q s feed f h = length-take-le (feed_from ed q s) s (omega arith) ∙ sym f

-- the bytes behind the line, and the rows of a part and what is left
pub behind_line : (t : Table) (s : Bytes) (from : Heard) (book : List Row) (lines : Bytes) → Holding t from book lines → (feed : ℕ)
    → feed ≡ feed_from (book_of book).edition (quoting_behind Fresh (take from.rest (drop most_line lines))) s → feed < length s → feed ≤ kept_line - from.rest
    → bytes_heard t s (kept from book lines) ≡ bytes_heard t (drop (feed + 1) s) (line_heard t (ended (take from.rest (drop most_line lines) ++ take feed s)) (book_of book) from.line (take from.head lines))
behind_line t s from book lines hold feed f h few =
    let came : Bytes = take from.rest (drop most_line lines) in
    let head : Bytes = take from.head lines in
    let ed : Edition = (book_of book).edition in
    let before : Bytes = front ed (quoting_behind Fresh came) s in
    let n : length came ≡ from.rest = rest_length_lem t from book lines hold in
    let m : length before ≡ feed = front_length ed (quoting_behind Fresh came) s feed f h in
    part_line t s (book_of book) from.line head came (omega arith) (omega (arith, length-append came before, n, m, hold.rests))
    ∙ ap (λ (k : ℕ). bytes_heard t (drop k s) (line_heard t (ended (came ++ before)) (book_of book) from.line head)) (ap suc (sym f) ∙ sym (add-one feed))
    ∙ ap (λ (k : ℕ). bytes_heard t (drop (feed + 1) s) (line_heard t (ended (came ++ take k s)) (book_of book) from.line head)) (sym f)

parted : (s : Bytes) (a e : ℕ) → a ≤ e → drop a s ≡ take (e - a) (drop a s) ++ drop e s
parted s a e h =
    let z : a + (e - a) ≡ e = omega arith in
    sym (ap (λ (r : Bytes). take (e - a) (drop a s) ++ r) (ap (λ (k : ℕ). drop k s) (sym z) ∙ sym (drop-drop (e - a) a s)) ∙ take-append-drop (e - a) (drop a s))

pub parted_end : (s : Bytes) (a e : ℕ) → a ≤ e → drop a s ≡ take (e - a) (drop a s) ++ take (length s - e) (drop e s)
parted_end s a e h = parted s a e h ∙ ap (λ (r : Bytes). take (e - a) (drop a s) ++ r) (sym (to_end s e))

-- the line feed that the code found, by the edition that it found
pub feed_found : (x ed : Edition) → x ≡ ed → (lines s : Bytes) (r feed : ℕ) → feed ≡ feed_from x (quoting_behind Fresh (take (most_line + r - most_line) (drop most_line lines))) s
    → feed ≡ feed_from ed (quoting_behind Fresh (take r (drop most_line lines))) s
feed_found x ed by lines s r feed f =
    let k : most_line + r - most_line ≡ r = omega arith in
    f ∙ ap (λ (m : ℕ). feed_from x (quoting_behind Fresh (take m (drop most_line lines))) s) k ∙ ap (λ (y : Edition). feed_from y (quoting_behind Fresh (take r (drop most_line lines))) s) by

-- bytes none of which ends the line are all before its line feed
pub tail_front : (ed : Edition) (q : State) (s : Bytes) → Feedless ed q s → (n : ℕ) → n < length s → n < length (front ed q s)
tail_front ed q s unfed n h = omega (arith, ap length (take_all (feed_from ed q s) s unfed), h)

-- behind rows that are finished nothing of a line came
pub tail_feedless : (x ed : Edition) → x ≡ ed → (lines s tail : Bytes) (n : ℕ) → n ≡ 0 → tail ≡ s → Feedless x Fresh s → Feedless ed (quoting_behind Fresh (take n (drop most_line lines))) tail
tail_feedless x ed by lines s tail n z e f =
    subst (λ (q : State). Feedless ed q tail) (sym (none_came (drop most_line lines) n z)) (subst (Feedless ed Fresh) (sym e) (subst (λ (y : Edition). Feedless y Fresh s) by f))
