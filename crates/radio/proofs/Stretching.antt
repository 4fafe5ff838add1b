-- A table a line at a time, as the code goes through a part. Assumes nothing.
use mathlib.Core.Path.{◌≡◌, refl, ap, sym, subst, ◌∙◌}
use mathlib.Core.List.{[], ◌∷◌, ◌++◌, append-nil}
use mathlib.Core.Bool.{Bool, true, false}
use Prim.Native.Nat.{ℕ, suc, ◌≤◌, ◌<◌}
use native.Mathlib.Omega.{arith}
use lib.Dec.{ltb, leb}
use lib.ListN.{length, length-append, take, drop, take-append-drop}
use lib.Seq.{append_snoc, take_all}
use borrow.Author.Tests.{ltb-true, ltb-false, le-leb, lt-leb}
use Rattle.words.specs.Words.{Bytes, whether◌then◌else◌}
use Rattle.editions.specs.declared.Edition.{Edition}
use Rattle.cells.specs.declared.State.{State}
use Rattle.cells.specs.declared.State.TheVariants.{Fresh}
use Rattle.lines.specs.Lines.{lines, quoting, quoting_behind, ends_row, most_line}
use Rattle.lines.specs.Ends.{feed_from, line_length, line_room}
use Rattle.lines.proofs.Lining.{lines_first}
use Rattle.tables.specs.declared.Table.{Table}
use Rattle.book.specs.Book.{Book}
use Rattle.radio.specs.Radio.{Course, going, line_heard, ends_line, ended, byte_heard, kept_line}
use Rattle.radio.proofs.Parting.{Unfed, lines_fed, behind_more, behind_one, feed_is}
use Rattle.radio.specs.Hearing.{bytes_heard}
use Rattle.radio.proofs.Hearing.{over_stopped, long_alike, Stops, long_stops}

-- none of these bytes, behind those that came, ends the line
unfoldable pub Unended : Edition → Bytes → Bytes → Type 0
Unended e rest [] = Unit {0}
Unended e rest (x ∷ xs) = (ends_line e rest x ≡ false) × Unended e (rest ++ (x ∷ [])) xs

pub over_join : (t : Table) (p q : Bytes) (c : Course) → bytes_heard t (p ++ q) c ≡ bytes_heard t q (bytes_heard t p c)
unfolding bytes_heard
over_join t [] q c = refl
over_join t (x ∷ p) q c = over_join t p q (byte_heard t x c)

-- bytes that end no line are kept, or are too many
pub stretch_over : (t : Table) (l : Bytes) (b : Book) (i : ℕ) (head rest : Bytes) → Unended b.edition rest l → length rest ≤ kept_line →
    bytes_heard t l (going b i head rest) ≡ (whether leb (length (rest ++ l)) kept_line then going b i head (rest ++ l) else line_heard t (rest ++ l) b i head)
unfolding bytes_heard Unended byte_heard
stretch_over t [] b i head rest h few = rw (append-nil, le-leb (length rest) kept_line few)
stretch_over t (x ∷ l) b i head rest h few = go (ltb (length rest) kept_line) refl (stretch_over t l b i head (rest ++ (x ∷ [])) h.1)
  where
    whole : Bytes → Course
    whole s = whether leb (length s) kept_line then going b i head s else line_heard t s b i head

    go : (q : Bool) → ltb (length rest) kept_line ≡ q → (length (rest ++ (x ∷ [])) ≤ kept_line → bytes_heard t l (going b i head (rest ++ (x ∷ []))) ≡ whole ((rest ++ (x ∷ [])) ++ l)) →
        bytes_heard t l (byte_heard t x (going b i head rest)) ≡ whole (rest ++ (x ∷ l))
    go true e ih = rw (h.0, e) (ih (rw length-append (omega (arith, ltb-true (length rest) kept_line e))) ∙ ap whole (append_snoc rest x l))
    go false e ih =
        let one : most_line < length (rest ++ (x ∷ [])) = rw length-append (omega (arith, ltb-false (length rest) kept_line e)) in
        let all : kept_line < length (rest ++ (x ∷ l)) = rw length-append (omega (arith, ltb-false (length rest) kept_line e)) in
        let k : Stops (line_heard t (rest ++ (x ∷ [])) b i head) = long_stops t (rest ++ (x ∷ [])) b i head one in
        rw (h.0, e, lt-leb (length (rest ++ (x ∷ l))) kept_line all)
        (ap (bytes_heard t l) k.is ∙ over_stopped t l k.at ∙ sym k.is ∙ long_alike t (rest ++ (x ∷ [])) (rest ++ (x ∷ l)) b i head one (omega arith))

pub stretch_kept : (t : Table) (l : Bytes) (b : Book) (i : ℕ) (head rest : Bytes) → Unended b.edition rest l → length (rest ++ l) ≤ kept_line → bytes_heard t l (going b i head rest) ≡ going b i head (rest ++ l)
stretch_kept t l b i head rest h few =
    let short : length rest ≤ kept_line = omega (arith, length-append rest l) in
    stretch_over t l b i head rest h short ∙ rw (le-leb (length (rest ++ l)) kept_line few)

-- and one that ends the line lets it be taken
pub line_over : (t : Table) (l : Bytes) (x : ℕ) (s : Bytes) (b : Book) (i : ℕ) (head rest : Bytes) → Unended b.edition rest l → length (rest ++ l) ≤ kept_line → ends_line b.edition (rest ++ l) x ≡ true →
    bytes_heard t (l ++ (x ∷ s)) (going b i head rest) ≡ bytes_heard t s (line_heard t (ended (rest ++ l)) b i head)
unfolding bytes_heard byte_heard
line_over t l x s b i head rest h few e =
    over_join t l (x ∷ s) (going b i head rest)
    ∙ ap (λ (c : Course). bytes_heard t (x ∷ s) c) (stretch_kept t l b i head rest h few)
    ∙ rw e

-- up to the first line feed that ends the line, as `lines` finds it ------------------------------------------------------------------

-- the bytes before it, of a line whose quotes stand so
abbrev pub front : Edition → State → Bytes → Bytes
front e q s = take (feed_from e q s) s

module _ (e : Edition) where
  unfed_unended : (rest l : Bytes) → Unfed e (quoting_behind Fresh rest) l → Unended e rest l
  unfolding Unfed Unended ends_line
  unfed_unended rest [] h = tt
  unfed_unended rest (x ∷ l) h = (h.0, unfed_unended (rest ++ (x ∷ [])) l (subst (λ (q : State). Unfed e q l) (sym (behind_one Fresh rest x)) h.1))

  front_unfed : (q : State) (s : Bytes) → Unfed e q (front e q s)
  unfolding Unfed feed_from
  front_unfed q [] = tt
  front_unfed q (x ∷ s) = go (ends_row e q x) refl (front_unfed (quoting q x) s)
    where
      go : (t : Bool) → ends_row e q x ≡ t → Unfed e (quoting q x) (front e (quoting q x) s) → Unfed e q (take (whether t then 0 else suc (feed_from e (quoting q x) s)) (x ∷ s))
      go true k h = tt
      go false k h = (k, h)

  front_all : (q : State) (s : Bytes) → length s ≤ feed_from e q s → front e q s ≡ s
  front_all q s h = take_all (feed_from e q s) s h

  splits : (q : State) (s : Bytes) → feed_from e q s < length s → s ≡ front e q s ++ (10 ∷ drop (suc (feed_from e q s)) s)
  unfolding feed_from
  splits q [] h = absurd (omega arith)
  splits q (x ∷ s) h = go (ends_row e q x) refl h (splits (quoting q x) s)
    where
      n : ℕ
      n = feed_from e (quoting q x) s

      go : (t : Bool) → ends_row e q x ≡ t → (whether t then 0 else suc n) < suc (length s) → (n < length s → s ≡ take n s ++ (10 ∷ drop (suc n) s)) →
          x ∷ s ≡ take (whether t then 0 else suc n) (x ∷ s) ++ (10 ∷ drop (suc (whether t then 0 else suc n)) (x ∷ s))
      go true k l ih = ap (λ (y : ℕ). y ∷ s) (feed_is e q x k)
      go false k l ih = ap (λ (z : Bytes). x ∷ z) (ih (omega arith))

  -- and it ends the line
  ends_there : (q : State) (s : Bytes) → feed_from e q s < length s → ends_row e (quoting_behind q (front e q s)) 10 ≡ true
  unfolding feed_from quoting_behind
  ends_there q [] h = absurd (omega arith)
  ends_there q (x ∷ s) h = go (ends_row e q x) refl h (ends_there (quoting q x) s)
    where
      n : ℕ
      n = feed_from e (quoting q x) s

      go : (t : Bool) → ends_row e q x ≡ t → (whether t then 0 else suc n) < suc (length s) → (n < length s → ends_row e (quoting_behind (quoting q x) (take n s)) 10 ≡ true) →
          ends_row e (quoting_behind q (take (whether t then 0 else suc n) (x ∷ s))) 10 ≡ true
      go true k l ih = subst (λ (y : ℕ). ends_row e q y ≡ true) (feed_is e q x k) k
      go false k l ih = ih (omega arith)

module _ (t : Table) (s : Bytes) (b : Book) (i : ℕ) (head rest : Bytes) where
  -- how the quotes of the line stand, the bytes before its line feed, and how many they are
  abbrev stands : State
  stands = quoting_behind Fresh rest

  abbrev before : Bytes
  before = front b.edition stands s

  abbrev feed : ℕ
  feed = feed_from b.edition stands s

  unended : Unended b.edition rest before
  unended = unfed_unended b.edition rest before (front_unfed b.edition stands s)

  -- a line that ends in the part
  pub part_line : feed < length s → length (rest ++ before) ≤ kept_line →
      bytes_heard t s (going b i head rest) ≡ bytes_heard t (drop (suc feed) s) (line_heard t (ended (rest ++ before)) b i head)
  unfolding ends_line
  part_line h few =
      let ends : ends_row b.edition (quoting_behind Fresh (rest ++ before)) 10 ≡ true =
      ap (λ (q : State). ends_row b.edition q 10) (behind_more Fresh rest before) ∙ ends_there b.edition stands s h in
      ap (λ (z : Bytes). bytes_heard t z (going b i head rest)) (splits b.edition stands s h)
      ∙ line_over t before 10 (drop (suc feed) s) b i head rest unended few ends

  -- a line that is too long already: it stops the table
  pub part_long : length rest ≤ kept_line → kept_line < length (rest ++ before) → bytes_heard t s (going b i head rest) ≡ line_heard t (rest ++ before) b i head
  part_long few h =
      let k : Stops (line_heard t (rest ++ before) b i head) = long_stops t (rest ++ before) b i head (omega arith) in
      ap (λ (z : Bytes). bytes_heard t z (going b i head rest)) (sym (take-append-drop feed s))
      ∙ over_join t before (drop feed s) (going b i head rest)
      ∙ ap (bytes_heard t (drop feed s)) (stretch_over t before b i head rest unended few ∙ kept_long ∙ k.is)
      ∙ over_stopped t (drop feed s) k.at ∙ sym k.is
    where
      kept_long : (whether leb (length (rest ++ before)) kept_line then going b i head (rest ++ before) else line_heard t (rest ++ before) b i head) ≡ line_heard t (rest ++ before) b i head
      kept_long = rw (lt-leb (length (rest ++ before)) kept_line h)

  -- a line that does not end in the part
  pub part_tail : length s ≤ feed → length (rest ++ s) ≤ kept_line → bytes_heard t s (going b i head rest) ≡ going b i head (rest ++ s)
  part_tail h few = stretch_kept t s b i head rest (subst (Unended b.edition rest) (front_all b.edition stands s h) unended) few

-- where nothing of the line came before, it is the line that `lines` finds
pub line_found : (e : Edition) (s : Bytes) → feed_from e Fresh s < length s → ended (front e Fresh s) ≡ take (line_length e Fresh s) s
line_found e [] h = absurd (omega arith)
line_found e (x ∷ s) h =
    let one : lines e (x ∷ s) ≡ ended (front e Fresh (x ∷ s)) ∷ lines e (drop (suc (feed_from e Fresh (x ∷ s))) (x ∷ s)) =
    ap (lines e) (splits e Fresh (x ∷ s) h) ∙ lines_fed e Fresh (front e Fresh (x ∷ s)) 10 (drop (suc (feed_from e Fresh (x ∷ s))) (x ∷ s)) (front_unfed e Fresh (x ∷ s)) (ends_there e Fresh (x ∷ s) h) in
    let two : lines e (x ∷ s) ≡ take (line_length e Fresh (x ∷ s)) (x ∷ s) ∷ lines e (drop (line_room e Fresh (x ∷ s)) (x ∷ s)) = lines_first e Fresh x s in
    cc
