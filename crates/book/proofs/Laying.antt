-- The parts of a lent slice and the book that they hold: what is laid out is read again, one part is put in another's place, and what
-- changes keep a book in order. Assumes nothing.
use mathlib.Core.Path.{◌≡◌, ap, ◌∙◌, refl, sym}
use mathlib.Core.List.{List, ◌++◌, [], ◌∷◌, append_assoc}
use mathlib.Core.Bool.{true}
use Prim.Native.Nat.{ℕ, ◌+◌, ◌-◌, ◌≤◌, ◌<◌, suc}
use native.Mathlib.Omega.{arith}
use lib.ListN.{length, take, drop, set, length-take, length-drop, get_or, length-append, take-append-drop, drop_of_length-le, replicate, replicate-append-replicate}
use lib.Seq.{take_at, drop_at, drop-drop, drop-cons, get_or_at, set_at}
use Rattle.words.specs.Words.{Row}
use Rattle.rows.specs.Room.{used, filled, zeros}
use Rattle.rows.specs.Spots.{Holds}
use Rattle.rows.specs.Rows.{rising, inserted}
use Rattle.rows.proofs.Room.{used_within, used_take, used_row, Versioned, length_filled, used_filled, holds_filled, used_versioned}
use Rattle.editions.specs.declared.Edition.{Edition}
use Rattle.editions.specs.declared.Edition.TheVariants.{Dino21, Dino23}
use Rattle.tables.specs.Parts.{room, book_rows, begin, part_of, rooms, tables, marks_at}
use Rattle.tables.specs.declared.Table.{Table}
use Rattle.tables.specs.declared.Table.TheVariants.{VehicleType, Depot, Stop, StopPoint, Block, Calendar}
use Rattle.tables.specs.Columns.{key_width}
use Rattle.tables.proofs.Parts.{part_within, around_table}
use Rattle.book.specs.Room.{part, book_of, laid_of, laid, marks, edition_of}
use Rattle.book.specs.Book.{rows, Book, with_rows, entered, empty, empty_by}
use Rattle.book.specs.Holding.{Sound}

-- a list between two others -----------------------------------------------------------------------------------------------------

module _ {A : Type 0} (p q r : List A) (i m : ℕ) (lp : length p ≡ i) (lq : length q ≡ m) where
  between : take m (drop i (p ++ (q ++ r))) ≡ q
  between = ap (take m) (drop_at p (q ++ r) i lp) ∙ take_at q r m lq

  put_between : (y : List A) → take i (p ++ (q ++ r)) ++ (y ++ drop m (drop i (p ++ (q ++ r)))) ≡ p ++ (y ++ r)
  put_between y = rw (take_at p (q ++ r) i lp, drop_at p (q ++ r) i lp, drop_at q r m lq)

-- the parts -----------------------------------------------------------------------------------------------------------------------

module _ (xs : List Row) (long : length xs ≡ book_rows) where
  pub length_part : (t : Table) → length (part t xs) ≡ room t
  length_part t = simp (length-take, length-drop) (omega (arith, part_within t))

pub rows_part : (t : Table) (xs : List Row) → rows t (book_of xs) ≡ used (part t xs)
rows_part VehicleType xs = refl
rows_part Depot xs = refl
rows_part Stop xs = refl
rows_part StopPoint xs = refl
rows_part Block xs = refl
rows_part Calendar xs = refl

-- a part of the book as the code cuts it out
pub part_cut : (t : Table) (xs : List Row) (from n : ℕ) → from ≡ begin t → n ≡ room t → take (from + n - from) (drop from xs) ≡ part t xs
part_cut t xs from n e f =
    let g : from + n - from ≡ n = omega arith in
    ap (λ (k : ℕ). take k (drop from xs)) (g ∙ f) ∙ ap (λ (k : ℕ). take (room t) (drop k xs)) e

-- a table of a sound slice, by the part that is lent
module _ (t : Table) (xs : List Row) (sound : Sound xs) (lent : List Row) (is : lent ≡ part t xs) where
  pub lent_holds : (k : ℕ) → k ≡ key_width t → Holds k lent
  lent_holds k e = rw (is, e) (sound.tables t)

  pub lent_rows : used lent ≡ rows t (book_of xs)
  lent_rows = ap used is ∙ sym (rows_part t xs)

  -- what is asked of the rows of the part is asked of the table's
  pub lent_asked : {A : Type 0} (question : ℕ → List Row → A) (k : ℕ) → k ≡ key_width t → question k (used lent) ≡ question (key_width t) (rows t (book_of xs))
  lent_asked question k e = ap (λ (n : ℕ). question n (used lent)) e ∙ ap (question (key_width t)) lent_rows

  pub lent_length : length lent ≡ room t
  lent_length = ap length is ∙ length_part xs sound.long t

  pub lent_few : length (rows t (book_of xs)) ≤ length lent
  lent_few = omega (arith, used_within lent, ap (λ (l : List Row). length l) lent_rows)

  -- the table's rows come first
  pub lent_first : (n : ℕ) → n ≡ length (rows t (book_of xs)) → take (n - 0) (drop 0 lent) ≡ rows t (book_of xs)
  lent_first n e =
      let f : n - 0 ≡ length (used lent) = let g : n - 0 ≡ n = omega arith in g ∙ e ∙ ap (λ (l : List Row). length l) (sym lent_rows) in
      ap (λ (k : ℕ). take k lent) f ∙ used_take lent ∙ lent_rows

  pub lent_row : (i : ℕ) → i < length (rows t (book_of xs)) → get_or (rows t (book_of xs)) i [] ≡ get_or lent i []
  lent_row i h =
      let g : i < length (used lent) = rw lent_rows h in
      ap (λ (l : List Row). get_or l i []) (sym lent_rows) ∙ used_row lent i g

-- a book in order ------------------------------------------------------------------------------------------------------------------

-- each table's rows have room, by rising key, and each row's VERSION is at least 1
pub record Orderly (b : Book) : Type 0 where
  pub few : (t : Table) → length (rows t b) ≤ room t
  pub rises : (t : Table) → rising (key_width t) (rows t b) ≡ true
  pub versioned : (t : Table) → Versioned (rows t b)

-- two books are the same by their tables and their edition
pub same_book : (a b : Book) → ((t : Table) → rows t a ≡ rows t b) → a.edition ≡ b.edition → a ≡ b
same_book a b e f = go a.types a.depots a.stops a.points a.blocks a.days a.edition (e VehicleType) (e Depot) (e Stop) (e StopPoint) (e Block) (e Calendar) f
  where
    go : (p q r s t u : List Row) (d : Edition) → p ≡ b.types → q ≡ b.depots → r ≡ b.stops → s ≡ b.points → t ≡ b.blocks → u ≡ b.days → d ≡ b.edition
        → ◌≡◌ {A = Book} (record { types = p; depots = q; stops = r; points = s; blocks = t; days = u; edition = d }) b
    go p q r s t u d e0 e1 e2 e3 e4 e5 e6 = rw (e0, e1, e2, e3, e4, e5, e6)

pub rows_with : (t : Table) (ys : List Row) (b : Book) → rows t (with_rows t ys b) ≡ ys
rows_with VehicleType ys b = refl
rows_with Depot ys b = refl
rows_with Stop ys b = refl
rows_with StopPoint ys b = refl
rows_with Block ys b = refl
rows_with Calendar ys b = refl

pub with_same : (t : Table) (b : Book) → with_rows t (rows t b) b ≡ b
with_same VehicleType b = refl
with_same Depot b = refl
with_same Stop b = refl
with_same StopPoint b = refl
with_same Block b = refl
with_same Calendar b = refl

-- a book's tables are apart
pub with_with : (t : Table) (xs ys : List Row) (b : Book) → with_rows t xs (with_rows t ys b) ≡ with_rows t xs b
with_with VehicleType xs ys b = refl
with_with Depot xs ys b = refl
with_with Stop xs ys b = refl
with_with StopPoint xs ys b = refl
with_with Block xs ys b = refl
with_with Calendar xs ys b = refl

pub entered_with : (t : Table) (row : Row) (xs : List Row) (b : Book) → entered t row (with_rows t xs b) ≡ with_rows t (inserted (key_width t) row xs) b
entered_with t row xs b = ap (λ (l : List Row). with_rows t (inserted (key_width t) row l) (with_rows t xs b)) (rows_with t xs b) ∙ with_with t (inserted (key_width t) row xs) xs b

pub rows_begun : (e : Edition) (t : Table) → rows t (empty_by e) ≡ []
rows_begun e VehicleType = refl
rows_begun e Depot = refl
rows_begun e Stop = refl
rows_begun e StopPoint = refl
rows_begun e Block = refl
rows_begun e Calendar = refl

-- what holds of a table's new rows, and of the rows of every table before, holds of the rows of every table
pub every_table : (P : Table → List Row → Type 0) (b : Book) (t : Table) (ys : List Row) → P t ys → ((u : Table) → P u (rows u b)) → (u : Table) → P u (rows u (with_rows t ys b))
every_table P b VehicleType ys h k VehicleType = h
every_table P b VehicleType ys h k Depot = k Depot
every_table P b VehicleType ys h k Stop = k Stop
every_table P b VehicleType ys h k StopPoint = k StopPoint
every_table P b VehicleType ys h k Block = k Block
every_table P b VehicleType ys h k Calendar = k Calendar
every_table P b Depot ys h k VehicleType = k VehicleType
every_table P b Depot ys h k Depot = h
every_table P b Depot ys h k Stop = k Stop
every_table P b Depot ys h k StopPoint = k StopPoint
every_table P b Depot ys h k Block = k Block
every_table P b Depot ys h k Calendar = k Calendar
every_table P b Stop ys h k VehicleType = k VehicleType
every_table P b Stop ys h k Depot = k Depot
every_table P b Stop ys h k Stop = h
every_table P b Stop ys h k StopPoint = k StopPoint
every_table P b Stop ys h k Block = k Block
every_table P b Stop ys h k Calendar = k Calendar
every_table P b StopPoint ys h k VehicleType = k VehicleType
every_table P b StopPoint ys h k Depot = k Depot
every_table P b StopPoint ys h k Stop = k Stop
every_table P b StopPoint ys h k StopPoint = h
every_table P b StopPoint ys h k Block = k Block
every_table P b StopPoint ys h k Calendar = k Calendar
every_table P b Block ys h k VehicleType = k VehicleType
every_table P b Block ys h k Depot = k Depot
every_table P b Block ys h k Stop = k Stop
every_table P b Block ys h k StopPoint = k StopPoint
every_table P b Block ys h k Block = h
every_table P b Block ys h k Calendar = k Calendar
every_table P b Calendar ys h k VehicleType = k VehicleType
every_table P b Calendar ys h k Depot = k Depot
every_table P b Calendar ys h k Stop = k Stop
every_table P b Calendar ys h k StopPoint = k StopPoint
every_table P b Calendar ys h k Block = k Block
every_table P b Calendar ys h k Calendar = h

pub rows_apart : (t u : Table) (xs : List Row) (b : Book) → (part_of u ≡ part_of t → ⊥) → rows u (with_rows t xs b) ≡ rows u b
rows_apart t u xs b n = every_table (λ v l. (part_of v ≡ part_of t → ⊥) → l ≡ rows v b) b t xs (λ m. absurd (m refl)) (λ v m. refl) u n

-- laid out -----------------------------------------------------------------------------------------------------------------------

laid_append : (ts us : List Table) (b : Book) → laid_of (ts ++ us) b ≡ laid_of ts b ++ laid_of us b
laid_append [] us b = refl
laid_append (t ∷ ts) us b =
    ap (λ (l : List Row). filled (room t) (rows t b) ++ l) (laid_append ts us b) ∙ sym (append_assoc (filled (room t) (rows t b)) (laid_of ts b) (laid_of us b))

length_laid_of : (b : Book) → ((t : Table) → length (rows t b) ≤ room t) → (ts : List Table) → length (laid_of ts b) ≡ rooms ts
length_laid_of b few [] = refl
length_laid_of b few (t ∷ ts) =
    length-append (filled (room t) (rows t b)) (laid_of ts b)
    ∙ ap (λ (n : ℕ). n + length (laid_of ts b)) (length_filled (room t) (rows t b) (few t)) ∙ ap (λ (n : ℕ). room t + n) (length_laid_of b few ts)

-- what stands before and behind a table in the slice
abbrev front : Table → Book → List Row
front t b = laid_of (take (part_of t) tables) b

abbrev behind : Table → Book → List Row
behind t b = laid_of (drop (suc (part_of t)) tables) b ++ (marks b.edition ∷ [])

-- is not touched where other rows come into the table
front_stays : (t : Table) (ys : List Row) (b : Book) → front t (with_rows t ys b) ≡ front t b
front_stays VehicleType ys b = refl
front_stays Depot ys b = refl
front_stays Stop ys b = refl
front_stays StopPoint ys b = refl
front_stays Block ys b = refl
front_stays Calendar ys b = refl

behind_stays : (t : Table) (ys : List Row) (b : Book) → behind t (with_rows t ys b) ≡ behind t b
behind_stays VehicleType ys b = refl
behind_stays Depot ys b = refl
behind_stays Stop ys b = refl
behind_stays StopPoint ys b = refl
behind_stays Block ys b = refl
behind_stays Calendar ys b = refl

laid_around : (t : Table) (b : Book) → laid b ≡ front t b ++ (filled (room t) (rows t b) ++ behind t b)
laid_around t b =
    ap (λ (ts : List Table). laid_of ts b ++ (marks b.edition ∷ [])) (around_table t)
    ∙ ap (λ (l : List Row). l ++ (marks b.edition ∷ [])) (laid_append (take (part_of t) tables) (t ∷ drop (suc (part_of t)) tables) b)
    ∙ append_assoc (front t b) (filled (room t) (rows t b) ++ laid_of (drop (suc (part_of t)) tables) b) (marks b.edition ∷ [])
    ∙ ap (λ (l : List Row). front t b ++ l) (append_assoc (filled (room t) (rows t b)) (laid_of (drop (suc (part_of t)) tables) b) (marks b.edition ∷ []))

laid_with : (t : Table) (ys : List Row) (b : Book) → laid (with_rows t ys b) ≡ front t b ++ (filled (room t) ys ++ behind t b)
laid_with t ys b =
    laid_around t (with_rows t ys b)
    ∙ ap (λ (l : List Row). l ++ (filled (room t) (rows t (with_rows t ys b)) ++ behind t (with_rows t ys b))) (front_stays t ys b)
    ∙ ap (λ (l : List Row). front t b ++ (filled (room t) l ++ behind t (with_rows t ys b))) (rows_with t ys b)
    ∙ ap (λ (l : List Row). front t b ++ (filled (room t) ys ++ l)) (behind_stays t ys b)

module _ (b : Book) (few : (t : Table) → length (rows t b) ≤ room t) (t : Table) where
  front_long : length (front t b) ≡ begin t
  front_long = length_laid_of b few (take (part_of t) tables)

  pub part_laid : part t (laid b) ≡ filled (room t) (rows t b)
  part_laid =
      ap (part t) (laid_around t b)
      ∙ between (front t b) (filled (room t) (rows t b)) (behind t b) (begin t) (room t) front_long (length_filled (room t) (rows t b) (few t))

  -- one part put in the place of another
  pub part_put : (ys : List Row) → take (begin t) (laid b) ++ (filled (room t) ys ++ drop (room t) (drop (begin t) (laid b))) ≡ laid (with_rows t ys b)
  part_put ys =
      ap (λ (l : List Row). take (begin t) l ++ (filled (room t) ys ++ drop (room t) (drop (begin t) l))) (laid_around t b)
      ∙ put_between (front t b) (filled (room t) (rows t b)) (behind t b) (begin t) (room t) front_long (length_filled (room t) (rows t b) (few t)) (filled (room t) ys)
      ∙ sym (laid_with t ys b)

-- the row of marks tells its edition
pub edition_marked : (e : Edition) → edition_of (marks e) ≡ e
edition_marked Dino21 = refl
edition_marked Dino23 = refl

-- it stands behind all tables
module _ (b : Book) (few : (t : Table) → length (rows t b) ≤ room t) where
  length_laid : length (laid b) ≡ book_rows
  length_laid =
      length-append (laid_of tables b) (marks b.edition ∷ []) ∙ ap (λ (n : ℕ). n + 1) (length_laid_of b few tables)

  pub marks_laid : get_or (laid b) marks_at [] ≡ marks b.edition
  marks_laid = get_or_at (laid_of tables b) (marks b.edition) [] [] marks_at (length_laid_of b few tables)

  pub edition_laid : (book_of (laid b)).edition ≡ b.edition
  edition_laid = ap edition_of marks_laid ∙ edition_marked b.edition

-- a book in order is laid out in a sound slice, and read again
module _ (b : Book) (orderly : Orderly b) where
  pub used_laid : (t : Table) → used (part t (laid b)) ≡ rows t b
  used_laid t = ap used (part_laid b orderly.few t) ∙ used_filled (room t) (rows t b) (orderly.versioned t)

  pub book_laid : book_of (laid b) ≡ b
  book_laid = same_book (book_of (laid b)) b (λ t. rows_part t (laid b) ∙ used_laid t) (edition_laid b orderly.few)

  pub sound_laid : Sound (laid b)
  sound_laid =
      record {
        long = length_laid b orderly.few;
        tables = λ t. rw (part_laid b orderly.few t) (holds_filled (key_width t) (room t) (rows t b) (orderly.rises t) (orderly.versioned t) (orderly.few t));
        marked = marks_laid b orderly.few ∙ ap marks (sym (edition_laid b orderly.few));
      }

-- a slice is its parts
module _ (xs : List Row) (long : length xs ≡ book_rows) where
  rest_of_lem : (t : Table) (end : ℕ) → end ≡ begin t + room t → drop (begin t) xs ≡ part t xs ++ drop end xs
  rest_of_lem t end e = sym (take-append-drop (room t) (drop (begin t) xs)) ∙ ap (λ (l : List Row). part t xs ++ l) (drop-drop (room t) (begin t) xs ∙ ap (λ (n : ℕ). drop n xs) (sym e))

  -- behind the parts stands the row of marks, and nothing else
  marks_last : drop marks_at xs ≡ get_or xs marks_at [] ∷ []
  marks_last =
      let most : length xs ≤ book_rows = omega arith in
      let within : marks_at < length xs = omega arith in
      drop-cons xs marks_at [] within ∙ ap (λ (l : List Row). get_or xs marks_at [] ∷ l) (drop_of_length-le xs most)

  parts : xs ≡ part VehicleType xs ++ (part Depot xs ++ (part Stop xs ++ (part StopPoint xs ++ (part Block xs ++ (part Calendar xs ++ (get_or xs marks_at [] ∷ []))))))
  parts =
      rest_of_lem VehicleType (begin Depot) refl
      ∙ ap (λ (l : List Row). part VehicleType xs ++ l) (rest_of_lem Depot (begin Stop) refl
      ∙ ap (λ (l : List Row). part Depot xs ++ l) (rest_of_lem Stop (begin StopPoint) refl
      ∙ ap (λ (l : List Row). part Stop xs ++ l) (rest_of_lem StopPoint (begin Block) refl
      ∙ ap (λ (l : List Row). part StopPoint xs ++ l) (rest_of_lem Block (begin Calendar) refl
      ∙ ap (λ (l : List Row). part Block xs ++ l) (rest_of_lem Calendar marks_at refl
      ∙ ap (λ (l : List Row). part Calendar xs ++ l) marks_last)))))

-- the book of a sound slice is in order, and laid out it is the slice
module _ (xs : List Row) (sound : Sound xs) where
  pub orderly_book : Orderly (book_of xs)
  orderly_book =
      record {
        few = λ t. rw (rows_part t xs) (omega (arith, used_within (part t xs), length_part xs sound.long t));
        rises = λ t. rw (rows_part t xs) (sound.tables t).rises;
        versioned = λ t. rw (rows_part t xs) (used_versioned (part t xs));
      }

  pub rows_few : (t : Table) → length (rows t (book_of xs)) ≤ room t
  rows_few = orderly_book.few

  part_filled : (t : Table) → part t xs ≡ filled (room t) (rows t (book_of xs))
  part_filled t =
      (sound.tables t).rest ∙ ap (λ (n : ℕ). filled n (used (part t xs))) (length_part xs sound.long t) ∙ ap (filled (room t)) (sym (rows_part t xs))

  pub laid_book_lem : laid (book_of xs) ≡ xs
  laid_book_lem =
      sym (parts xs sound.long
      ∙ seven (part VehicleType xs) (part Depot xs) (part Stop xs) (part StopPoint xs) (part Block xs) (part Calendar xs) (get_or xs marks_at []) _ _ _ _ _ _ _ (part_filled VehicleType) (part_filled Depot) (part_filled Stop) (part_filled StopPoint) (part_filled Block) (part_filled Calendar) sound.marked)
    where
      together : (a b c d e f : List Row) (m : Row) → a ++ (b ++ (c ++ (d ++ (e ++ (f ++ (m ∷ [])))))) ≡ (a ++ (b ++ (c ++ (d ++ (e ++ (f ++ [])))))) ++ (m ∷ [])
      together a b c d e f m = simp append_assoc

      seven : (a b c d e f : List Row) (m : Row) (a' b' c' d' e' f' : List Row) (m' : Row) → a ≡ a' → b ≡ b' → c ≡ c' → d ≡ d' → e ≡ e' → f ≡ f' → m ≡ m'
          → a ++ (b ++ (c ++ (d ++ (e ++ (f ++ (m ∷ [])))))) ≡ (a' ++ (b' ++ (c' ++ (d' ++ (e' ++ (f' ++ [])))))) ++ (m' ∷ [])
      seven a b c d e f m a' b' c' d' e' f' m' p q r s t u v = let w = together a' b' c' d' e' f' m' in cc w

  -- the slice, where the part that was lent comes back with other rows
  pub lent_back : (t : Table) (from n : ℕ) → from ≡ begin t → n ≡ room t → (ys zs : List Row) → zs ≡ filled (room t) ys
      → take from xs ++ (zs ++ drop (from + n - from) (drop from xs)) ≡ laid (with_rows t ys (book_of xs))
  lent_back t from n e g ys zs f =
      let m : from + n - from ≡ room t = let h : from + n - from ≡ n = omega arith in h ∙ g in
      rw (m, e, f) (ap (λ (l : List Row). take (begin t) l ++ (filled (room t) ys ++ drop (room t) (drop (begin t) l))) (sym laid_book_lem) ∙ part_put (book_of xs) orderly_book.few t ys)

-- changes keep a book in order -------------------------------------------------------------------------------------------------------

pub orderly_with : (b : Book) → Orderly b → (t : Table) (ys : List Row) → length ys ≤ room t → rising (key_width t) ys ≡ true → Versioned ys → Orderly (with_rows t ys b)
orderly_with b o t ys f r v =
    record {
      few = every_table (λ u l. length l ≤ room u) b t ys f o.few;
      rises = every_table (λ u l. rising (key_width u) l ≡ true) b t ys r o.rises;
      versioned = every_table (λ u l. Versioned l) b t ys v o.versioned;
    }

pub orderly_begun : (e : Edition) → Orderly (empty_by e)
unfolding rising Versioned
orderly_begun e = record { few = λ t. rw (rows_begun e t) (omega arith); rises = λ t. rw (rows_begun e t); versioned = λ t. rw (rows_begun e t) tt }

pub orderly_empty : Orderly empty
orderly_empty = orderly_begun Dino21

-- the book that a reading begins with is sound where it is laid out, and read again
pub sound_begun : (e : Edition) → Sound (laid (empty_by e))
sound_begun e = sound_laid (empty_by e) (orderly_begun e)

pub book_begun : (e : Edition) → book_of (laid (empty_by e)) ≡ empty_by e
book_begun e = book_laid (empty_by e) (orderly_begun e)

-- the empty book: rows of zeros
no_rows : (n : ℕ) → filled n [] ≡ replicate n zeros
no_rows n = let e : n - 0 ≡ n = omega arith in rw e

empty_laid : (e : Edition) (ts : List Table) → filled (rooms ts) [] ≡ laid_of ts (empty_by e)
empty_laid e [] = refl
empty_laid e (t ∷ ts) =
    no_rows (room t + rooms ts) ∙ sym (replicate-append-replicate (room t) (rooms ts) zeros)
    ∙ ap (λ (l : List Row). replicate (room t) zeros ++ l) (sym (no_rows (rooms ts)) ∙ empty_laid e ts)
    ∙ ap (λ (l : List Row). l ++ laid_of ts (empty_by e)) (sym (no_rows (room t)) ∙ ap (filled (room t)) (sym (rows_begun e t)))

-- and one more, whose mark is that of 2.1
one_more : (n : ℕ) (xs : List Row) → filled n [] ≡ xs → filled (suc n) [] ≡ xs ++ (marks Dino21 ∷ [])
one_more n xs e =
    let f : suc n ≡ n + 1 = omega arith in
    no_rows (suc n) ∙ ap (λ (k : ℕ). replicate k zeros) f ∙ sym (replicate-append-replicate n 1 zeros)
    ∙ ap (λ (l : List Row). l ++ (zeros ∷ [])) (sym (no_rows n) ∙ e)

pub laid_empty : (n : ℕ) → n ≡ book_rows → filled n [] ≡ laid empty
laid_empty n e = ap (λ (k : ℕ). filled k []) e ∙ one_more marks_at (laid_of tables empty) (empty_laid Dino21 tables)

-- the edition marked in it
pub laid_begun : (e : Edition) → set (laid empty) marks_at (marks e) ≡ laid (empty_by e)
laid_begun e =
    set_at (laid_of tables empty) (marks Dino21) [] (marks e) marks_at (length_laid_of empty orderly_empty.few tables)
    ∙ ap (λ (l : List Row). l ++ (marks e ∷ [])) (sym (empty_laid Dino21 tables) ∙ empty_laid e tables)
