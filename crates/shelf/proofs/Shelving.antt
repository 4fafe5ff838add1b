-- The rows of a shelf, and what a row put in, changed or freed makes of them. Assumes nothing.
use mathlib.Core.Path.{◌≡◌, refl, ap, sym, ◌∙◌}
use mathlib.Core.List.{List, [], map, ◌∷◌, ◌++◌, append_assoc, map-append}
use Prim.Native.Nat.{ℕ, zero, suc, ◌+◌, ◌≤◌, ◌<◌, ◌-◌}
use native.Mathlib.Omega.{arith}
use native.Mathlib.Numerals.{add-one}
use native.Mathlib.Nat.{not-suc-le-zero, add-zero}
use lib.ListN.{length, get_or, take, drop, length-map, set, length-append, take-append-drop, length-take, length-drop, length-set}
use lib.Seq.{drop-drop, get_or-drop, length-take-le, get_or-take, get_or-set_other, get_or-set_same, take_at, set_at, split_at, take-add, drop_at}
use Rattle.words.specs.Words.{Row}
use Rattle.std.specs.Prelude.{Ok, Err}
use Rattle.rows.specs.Rows.{inserted, replaced, removed}
use Rattle.rows.specs.Spots.{spot}
use Rattle.rows.proofs.Places.{at_replaced, at_removed, gap_inserted}
use Rattle.shelf.specs.Shelf.{up_from, AllBelow, NoneOf, Apart, shelved, Shelf}
use Rattle.shelf.proofs.Shifts.{put_in, taken_out}

-- the numbers from i on
length_up_from : (i n : ℕ) → length (up_from i n) ≡ n
unfolding up_from
length_up_from i zero = refl
length_up_from i (suc n) = ap suc (length_up_from (suc i) n)

below_up_from : (m i n : ℕ) → i + n ≤ m → AllBelow m (up_from i n)
unfolding up_from AllBelow
below_up_from m i zero h = tt
below_up_from m i (suc n) h = (omega arith, below_up_from m (suc i) n (omega arith))

none_of_up_from : (j i n : ℕ) → j < i → NoneOf j (up_from i n)
unfolding up_from NoneOf
none_of_up_from j i zero h = tt
none_of_up_from j i (suc n) h = ((λ e. omega arith), none_of_up_from j (suc i) n (omega arith))

apart_up_from : (i n : ℕ) → Apart (up_from i n)
unfolding up_from Apart
apart_up_from i zero = tt
apart_up_from i (suc n) = (none_of_up_from i (suc i) n (omega arith), apart_up_from (suc i) n)

-- the rows in the slots of a list
abbrev rows_at : List Row → List ℕ → List Row
rows_at slots is = map (λ i. get_or slots i []) is

rows_at_up_from : (all slots : List Row) (i n m : ℕ) → drop i all ≡ slots → n ≤ m → m ≤ length slots → rows_at all (take n (up_from i m)) ≡ take n slots
unfolding up_from
rows_at_up_from all slots i zero m e h l = refl
rows_at_up_from all slots i (suc n) zero e h l = absurd (not-suc-le-zero h)
rows_at_up_from all [] i (suc n) (suc m) e h l = absurd (not-suc-le-zero l)
rows_at_up_from all (x ∷ xs) i (suc n) (suc m) e h l =
    let here : get_or all i [] ≡ x = rw add-zero at (sym (get_or-drop i all 0 []) ∙ ap (λ (r : List Row). get_or r 0 []) e) in
    let later : drop (suc i) all ≡ xs = rw add-one at (sym (drop-drop 1 i all) ∙ ap (drop 1) e) in
    rw here (ap (λ (r : List Row). x ∷ r) (rows_at_up_from all xs (suc i) n m later (omega arith) (omega arith)))

module _ (slots : List Row) (n : ℕ) (h : n ≤ length slots) where
  pub shelf_start : Shelf slots (up_from 0 (length slots)) n
  shelf_start = record {
    long = length_up_from 0 (length slots);
    within = below_up_from (length slots) 0 (length slots) (omega arith);
    apart = apart_up_from 0 (length slots);
    few = h;
  }

  pub start_shelved : shelved slots (up_from 0 (length slots)) n ≡ take n slots
  start_shelved = rows_at_up_from slots slots 0 n (length slots) refl h (omega arith)

-- the slots of a shelf, by their places in the order
below_at : (m : ℕ) (is : List ℕ) → AllBelow m is → (i : ℕ) → i < length is → get_or is i 0 < m
unfolding AllBelow
below_at m [] b i h = absurd (not-suc-le-zero h)
below_at m (j ∷ js) b zero h = b.0
below_at m (j ∷ js) b (suc i) h = below_at m js b.1 i (omega arith)

-- within a list the element that stands for none says nothing
get_d_map : {A B : Type 0} (f : A → B) (a : A) (b : B) (xs : List A) (i : ℕ) → i < length xs → get_or (map f xs) i b ≡ f (get_or xs i a)
get_d_map f a b [] i h = absurd (not-suc-le-zero h)
get_d_map f a b (x ∷ xs) zero h = refl
get_d_map f a b (x ∷ xs) (suc i) h = get_d_map f a b xs i (omega arith)

taken_slots : (slots : List Row) (order : List ℕ) (n : ℕ) → Shelf slots order n → length (take n order) ≡ n
taken_slots slots order n shelf = length-take-le n order (omega (arith, shelf.few, shelf.long))

pub length_shelved : (slots : List Row) (order : List ℕ) (n : ℕ) → Shelf slots order n → length (shelved slots order n) ≡ n
length_shelved slots order n shelf = length-map (take n order) (λ i. get_or slots i []) ∙ taken_slots slots order n shelf

pub slot_within : (slots : List Row) (order : List ℕ) (n : ℕ) → Shelf slots order n → (i : ℕ) → i < length order → get_or order i 0 < length slots
slot_within slots order n shelf i h = below_at (length slots) order shelf.within i h

pub get_d_shelved : (slots : List Row) (order : List ℕ) (n : ℕ) → Shelf slots order n → (i : ℕ) → i < n → get_or (shelved slots order n) i [] ≡ get_or slots (get_or order i 0) []
get_d_shelved slots order n shelf i h =
    get_d_map (λ j. get_or slots j []) 0 [] (take n order) i (omega (arith, taken_slots slots order n shelf))
    ∙ ap (λ (j : ℕ). get_or slots j []) (get_or-take n order i 0 h)

-- a number that goes to another place of a list
none_of_out : (i v : ℕ) (a c : List ℕ) → NoneOf i (a ++ (v ∷ c)) → NoneOf i (v ∷ (a ++ c))
unfolding NoneOf
none_of_out i v [] c p = p
none_of_out i v (x ∷ a) c p = let q : NoneOf i (v ∷ (a ++ c)) = none_of_out i v a c p.1 in (q.0, (p.0, q.1))

none_of_in : (i v : ℕ) (a c : List ℕ) → NoneOf i (v ∷ (a ++ c)) → NoneOf i (a ++ (v ∷ c))
unfolding NoneOf
none_of_in i v [] c p = p
none_of_in i v (x ∷ a) c p = (p.1.0, none_of_in i v a c (p.0, p.1.1))

apart_out : (v : ℕ) (a c : List ℕ) → Apart (a ++ (v ∷ c)) → Apart (v ∷ (a ++ c))
unfolding NoneOf Apart
apart_out v [] c p = p
apart_out v (x ∷ a) c p =
    let q : Apart (v ∷ (a ++ c)) = apart_out v a c p.1 in
    let r : NoneOf x (v ∷ (a ++ c)) = none_of_out x v a c p.0 in
    (((λ e. r.0 (sym e)), q.0), (r.1, q.1))

apart_in : (v : ℕ) (a c : List ℕ) → Apart (v ∷ (a ++ c)) → Apart (a ++ (v ∷ c))
unfolding NoneOf Apart
apart_in v [] c p = p
apart_in v (x ∷ a) c p = (none_of_in x v a c ((λ e. p.0.0 (sym e)), p.1.0), apart_in v a c (p.0.1, p.1.1))

below_out : (m v : ℕ) (a c : List ℕ) → AllBelow m (a ++ (v ∷ c)) → AllBelow m (v ∷ (a ++ c))
unfolding AllBelow
below_out m v [] c p = p
below_out m v (x ∷ a) c p = let q : AllBelow m (v ∷ (a ++ c)) = below_out m v a c p.1 in (q.0, (p.0, q.1))

below_in : (m v : ℕ) (a c : List ℕ) → AllBelow m (v ∷ (a ++ c)) → AllBelow m (a ++ (v ∷ c))
unfolding AllBelow
below_in m v [] c p = p
below_in m v (x ∷ a) c p = (p.1.0, below_in m v a c (p.0, p.1.1))

none_of_left : (i : ℕ) (a c : List ℕ) → NoneOf i (a ++ c) → NoneOf i a
unfolding NoneOf
none_of_left i [] c p = tt
none_of_left i (x ∷ a) c p = (p.0, none_of_left i a c p.1)

none_of_right : (i : ℕ) (a c : List ℕ) → NoneOf i (a ++ c) → NoneOf i c
unfolding NoneOf
none_of_right i [] c p = p
none_of_right i (x ∷ a) c p = none_of_right i a c p.1

-- a slot's row is changed: the other slots' rows stay
rows_at_set : (slots : List Row) (s : ℕ) (row : Row) (is : List ℕ) → NoneOf s is → rows_at (set slots s row) is ≡ rows_at slots is
unfolding NoneOf
rows_at_set slots s row [] p = refl
rows_at_set slots s row (i ∷ is) p = rw (get_or-set_other slots s i row [] (λ e. p.0 (sym e)), rows_at_set slots s row is p.1)

-- an order in three parts, with the slot v behind the first or behind the second of them
abbrev early : List ℕ → ℕ → List ℕ → List ℕ → List ℕ
early a v b c = a ++ (v ∷ (b ++ c))

abbrev late : List ℕ → ℕ → List ℕ → List ℕ → List ℕ
late a v b c = a ++ (b ++ (v ∷ c))

module _ (slots : List Row) (a : List ℕ) (v : ℕ) (b c : List ℕ) (at n : ℕ) (first : length a ≡ at) (both : length (a ++ b) ≡ n) where
  late_early : late a v b c ≡ (a ++ b) ++ (v ∷ c)
  late_early = sym (append_assoc a b (v ∷ c))

  as_long : length (early a v b c) ≡ length (late a v b c)
  as_long = simp length-append (omega arith)

  apart_early : Apart (late a v b c) → Apart (early a v b c)
  apart_early p = apart_in v a (b ++ c) (rw append_assoc at (apart_out v (a ++ b) c (rw late_early at p)))

  apart_late : Apart (early a v b c) → Apart (late a v b c)
  apart_late p = rw late_early (apart_in v (a ++ b) c (rw append_assoc (apart_out v a (b ++ c) p)))

  below_early : (m : ℕ) → AllBelow m (late a v b c) → AllBelow m (early a v b c)
  below_early m p = below_in m v a (b ++ c) (rw append_assoc at (below_out m v (a ++ b) c (rw late_early at p)))

  below_late : (m : ℕ) → AllBelow m (early a v b c) → AllBelow m (late a v b c)
  below_late m p = rw late_early (below_in m v (a ++ b) c (rw append_assoc (below_out m v a (b ++ c) p)))

  -- the rows, with the slot's row among them and without it
  with_it : shelved slots (early a v b c) (suc n) ≡ rows_at slots a ++ (get_or slots v [] ∷ rows_at slots b)
  with_it =
      let e : early a v b c ≡ (a ++ (v ∷ b)) ++ c = sym (append_assoc a (v ∷ b) c) in
      let l : length (a ++ (v ∷ b)) ≡ suc n = simp length-append (omega (arith, simp length-append at both)) in
      rw (e, take_at (a ++ (v ∷ b)) c (suc n) l) (map-append _ a (v ∷ b))

  without_it : shelved slots (late a v b c) n ≡ rows_at slots a ++ rows_at slots b
  without_it = rw (late_early, take_at (a ++ b) (v ∷ c) n both) (map-append _ a b)

  length_first : length (rows_at slots a) ≡ at
  length_first = length-map a _ ∙ first

  -- the slot's row changed
  module _ (row : Row) (p : Apart (early a v b c)) (w : v < length slots) where
    others : NoneOf v (a ++ (b ++ c))
    unfolding Apart
    others = (apart_out v a (b ++ c) p).0

    set_first : rows_at (set slots v row) a ≡ rows_at slots a
    set_first = rows_at_set slots v row a (none_of_left v a (b ++ c) others)

    set_second : rows_at (set slots v row) b ≡ rows_at slots b
    set_second = rows_at_set slots v row b (none_of_left v b c (none_of_right v a (b ++ c) others))

    set_both : rows_at (set slots v row) a ++ (get_or (set slots v row) v [] ∷ rows_at (set slots v row) b) ≡ rows_at slots a ++ (row ∷ rows_at slots b)
    set_both = rw (set_first, set_second, get_or-set_same slots v row [] w)

module _ (slots : List Row) (order : List ℕ) (n : ℕ) (shelf : Shelf slots order n) (at : ℕ) (row : Row) where
  as_many : length order ≡ length slots
  as_many = shelf.long

  few : n ≤ length slots
  few = shelf.few

  abbrev front : List ℕ
  front = take at order

  length_order_front : at ≤ n → length front ≡ at
  length_order_front h = length-take-le at order (omega (arith, as_many, few))

  module _ (room : n < length slots) (h : at ≤ n) (slots' : List Row) (order' : List ℕ)
      (s : slots' ≡ set slots (get_or order n 0) row) (o : order' ≡ put_in n at (get_or order n 0) order) where
    abbrev free : ℕ
    free = get_or order n 0

    abbrev middle : List ℕ
    middle = take (n - at) (drop at order)

    abbrev rest : List ℕ
    rest = drop (suc n) order

    used_slots : take n order ≡ front ++ middle
    used_slots = let e : at + (n - at) ≡ n = omega arith in rw e at (take-add at (n - at) order)

    order_late : order ≡ late front free middle rest
    order_late =
        let l : n < length order = omega (arith, as_many) in
        split_at order n 0 l ∙ rw (used_slots, append_assoc)

    both : length (front ++ middle) ≡ n
    both = rw (← used_slots) (taken_slots slots order n shelf)

    free_within : free < length slots
    free_within = slot_within slots order n shelf n (omega (arith, as_many))

    apart_put : Apart (early front free middle rest)
    apart_put = apart_early slots front free middle rest at n (length_order_front h) both (rw order_late at shelf.apart)

    pub put_shelf : Shelf slots' order' (suc n)
    put_shelf = rw (s, o) record {
      long = as_long slots front free middle rest at n (length_order_front h) both ∙ ap length (sym order_late) ∙ as_many ∙ sym (length-set slots free row);
      within = rw length-set (below_early slots front free middle rest at n (length_order_front h) both (length slots) (rw order_late at shelf.within));
      apart = apart_put;
      few = rw length-set room;
    }

    put_before : shelved slots order n ≡ rows_at slots front ++ rows_at slots middle
    put_before = rw used_slots (map-append _ front middle)

    pub put_shelved : shelved slots' order' (suc n) ≡ take at (shelved slots order n) ++ (row ∷ drop at (shelved slots order n))
    put_shelved =
        let l : length (rows_at slots front) ≡ at = length_first slots front free middle rest at n (length_order_front h) both in
        rw (s, o) (with_it (set slots free row) front free middle rest at n (length_order_front h) both)
        ∙ set_both slots front free middle rest at n (length_order_front h) both row apart_put free_within
        ∙ rw (put_before, take_at, drop_at)

    pub put_inserted : (k : ℕ) → spot k row (shelved slots order n) ≡ Err at → shelved slots' order' (suc n) ≡ inserted k row (shelved slots order n)
    put_inserted k e = put_shelved ∙ sym (gap_inserted k row (shelved slots order n) at e)

  -- an order whose slot at a place is used
  module _ (h : at < n) where
    abbrev slot : ℕ
    slot = get_or order at 0

    abbrev later : List ℕ
    later = take (n - suc at) (drop (suc at) order)

    abbrev unused : List ℕ
    unused = drop n order

    later_slots : drop (suc at) order ≡ later ++ unused
    later_slots =
        let e : suc at + (n - suc at) ≡ n = omega arith in
        sym (take-append-drop (n - suc at) (drop (suc at) order)) ∙ rw (drop-drop, e)

    order_early : order ≡ early front slot later unused
    order_early =
        let l : at < length order = omega (arith, as_many, few) in
        split_at order at 0 l ∙ ap (λ (r : List ℕ). front ++ (slot ∷ r)) later_slots

    first : length front ≡ at
    first = length_order_front (omega arith)

    without : length (front ++ later) ≡ n - 1
    without = simp (length-append, length-take, length-drop) (omega (arith, as_many, few))

    one_more : suc (n - 1) ≡ n
    one_more = omega arith

    slot_in : slot < length slots
    slot_in = slot_within slots order n shelf at (omega (arith, as_many, few))

    apart_now : Apart (early front slot later unused)
    apart_now = rw order_early at shelf.apart

    rows_now : (xs : List Row) → shelved xs order n ≡ rows_at xs front ++ (get_or xs slot [] ∷ rows_at xs later)
    rows_now xs =
        ap (λ (r : List ℕ). shelved xs r n) order_early ∙ ap (shelved xs (early front slot later unused)) (sym one_more)
        ∙ with_it xs front slot later unused at (n - 1) first without

    length_now : length (rows_at slots front) ≡ at
    length_now = length_first slots front slot later unused at (n - 1) first without

  module _ (h : at < n) (slots' : List Row) (s : slots' ≡ set slots (get_or order at 0) row) where
    pub set_shelf : Shelf slots' order n
    set_shelf = rw s record {
      long = as_many ∙ sym (length-set slots (slot h) row);
      within = rw length-set shelf.within;
      apart = shelf.apart;
      few = rw length-set few;
    }

    pub set_shelved : shelved slots' order n ≡ set (shelved slots order n) at row
    set_shelved =
        rw s (rows_now h (set slots (slot h) row))
        ∙ set_both slots front (slot h) (later h) (unused h) at (n - 1) (first h) (without h) row (apart_now h) (slot_in h)
        ∙ sym (ap (λ (r : List Row). set r at row) (rows_now h slots) ∙ set_at (rows_at slots front) _ _ row at (length_now h))

    pub set_replaced : (k : ℕ) → spot k row (shelved slots order n) ≡ Ok at → shelved slots' order n ≡ replaced k row (shelved slots order n)
    set_replaced k e = set_shelved ∙ sym (at_replaced k row (shelved slots order n) at e)

  module _ (h : at < n) (order' : List ℕ) (o : order' ≡ taken_out n at (get_or order at 0) order) where
    pub free_shelf : Shelf slots order' (n - 1)
    free_shelf = rw o record {
      long = sym (as_long slots front (slot h) (later h) (unused h) at (n - 1) (first h) (without h)) ∙ ap length (sym (order_early h)) ∙ as_many;
      within = below_late slots front (slot h) (later h) (unused h) at (n - 1) (first h) (without h) (length slots) (rw (order_early h) at shelf.within);
      apart = apart_late slots front (slot h) (later h) (unused h) at (n - 1) (first h) (without h) (apart_now h);
      few = omega (arith, few);
    }

    free_first : take at (shelved slots order n) ≡ rows_at slots front
    free_first = ap (take at) (rows_now h slots) ∙ take_at (rows_at slots front) _ at (length_now h)

    free_later : drop (suc at) (shelved slots order n) ≡ rows_at slots (later h)
    free_later =
        let l : length (rows_at slots front ++ (get_or slots (slot h) [] ∷ [])) ≡ suc at = simp (length-append, length_now h) (omega arith) in
        ap (drop (suc at)) (rows_now h slots ∙ sym (append_assoc (rows_at slots front) (get_or slots (slot h) [] ∷ []) (rows_at slots (later h))))
        ∙ drop_at (rows_at slots front ++ (get_or slots (slot h) [] ∷ [])) (rows_at slots (later h)) (suc at) l

    pub free_shelved : shelved slots order' (n - 1) ≡ take at (shelved slots order n) ++ drop (suc at) (shelved slots order n)
    free_shelved =
        rw (o, free_first, free_later) (without_it slots front (slot h) (later h) (unused h) at (n - 1) (first h) (without h))

    pub free_removed : (k : ℕ) → spot k row (shelved slots order n) ≡ Ok at → shelved slots order' (n - 1) ≡ removed k row (shelved slots order n)
    free_removed k e = free_shelved ∙ sym (at_removed k row (shelved slots order n) at e)
