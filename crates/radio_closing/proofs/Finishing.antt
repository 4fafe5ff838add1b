-- What a table comes to when it is closed. Assumes nothing.
use mathlib.Core.Path.{◌≡◌, refl, ap, sym, subst, ◌∙◌}
use mathlib.Core.List.{List, [], ◌∷◌}
use mathlib.Core.Bool.{Bool, true, false, not}
use Prim.Native.Nat.{ℕ, suc, ◌+◌, ◌-◌, ◌<◌, ◌≤◌, ◌^◌}
use native.Mathlib.Omega.{arith}
use lib.Dec.{eqb}
use lib.ListN.{length, take, drop, length-drop}
use lib.Seq.{length-take-le, take-append_seam}
use borrow.Author.Tests.{ne_eqb}
use Rattle.words.specs.Words.{Bytes, Row, whether◌then◌else◌}
use Rattle.refusals.specs.Verdicts.{in_text, Verdict}
use Rattle.refusals.specs.declared.Place.{Place}
use Rattle.std.specs.Prelude.{Ok, Err}
use Rattle.lines.specs.Lines.{most_line}
use Rattle.numbers.specs.Putting.{put}
use Rattle.tables.specs.Columns.{number}
use Rattle.tables.specs.declared.Table.{Table}
use Rattle.book.specs.Room.{book_of}
use Rattle.book.specs.Holding.{result_of}
use Rattle.book.specs.Result.{refused, leaves}
use Rattle.radio.specs.Radio.{Course, stopped, came_to, none, finished, fault_before, closing, length_check, line_heard, kept_line}
use Rattle.radio.specs.Room.{fault_in, course_in, radio_bytes, announced_of, come_of, line_of, head_of, rest_of, flag_of, place_of}
use Rattle.radio_rule.specs.Lent.{slices}
use Rattle.radio_lines.specs.Lines as hearing
use Rattle.radio_lines.specs.Lines.{course_held, Holding, CameTo}
use Rattle.radio_lines.specs.declared.Heard.{Heard}
use Rattle.radio_slices.specs.Hearing.{table_of, taken, Hears}
use Rattle.radio_slices.proofs.Hearing.{course_stopped, course_going, lengths, can_go_on, rest_long}
use Rattle.radio_closing.specs.Closing.{earlier_fault, none_left, Comes}

-- the last line ---------------------------------------------------------------------------------------------------------------------

-- what a last line came to
pub comes_last : (t : Table) (c : Course) (b : List Row) (l : Bytes) (h : Heard) → CameTo t c b l h → (d : Course) → c ≡ d → Comes (came_to d) h.verdict b
comes_last t c b l h came d e = record { is = go h.verdict came.is ∙ ap came_to e; sound = λ f. (came.holds f).sound }
  where
    go : (v : Verdict) → course_held v h.line h.head h.rest b l ≡ c → result_of v b ≡ came_to c
    go (Ok _) f = ap came_to f
    go (Err p) f = ap came_to f

-- the last line, copied to a room of its own
pub last_copied : (n : ℕ) (l room z : Bytes) → length l ≡ radio_bytes → n ≤ kept_line → room ≡ put (take ((most_line + n) - most_line) (drop most_line l)) z → take (n - 0) (drop 0 room) ≡ take n (drop most_line l)
last_copied n l room z long h e =
    let x = take n (drop most_line l) in
    let i : (most_line + n) - most_line ≡ n = omega arith in
    let j : n - 0 ≡ length x = omega (arith, length-take-le n (drop most_line l) (omega (arith, length-drop most_line l))) in
    ap (take (n - 0)) (e ∙ ap (λ (m : ℕ). put (take m (drop most_line l)) z) i) ∙ ap (λ (m : ℕ). take m (put x z)) j ∙ take-append_seam x (drop (length x) z)

-- all bytes have come ---------------------------------------------------------------------------------------------------------------

none_of : (xs : Bytes) → none xs ≡ eqb (length xs) 0
none_of [] = refl
none_of (x ∷ xs) = sym (ne_eqb (suc (length xs)) 0 (λ e. omega arith))

module _ (t : Table) (b : List Row) (k : List ℕ) (l : Bytes) (h : Hears b k l) where
  abbrev last_one : Bytes
  last_one = take (rest_of k) (drop most_line l)

  pub finish_fault : (flag_of k ≡ 0 → ⊥) → (p : Place) → p ≡ fault_in (slices b k l) → Comes (finished t (course_in (slices b k l))) (Err p) b
  unfolding finished
  finish_fault n p e = record { is = ap refused e ∙ ap (finished t) (sym (course_stopped b k l h n)); sound = λ f. let z : ◌≡◌ {A = ℕ} 0 1 = cc in let y : ⊥ = omega arith in absurd y }

  module _ (e : flag_of k ≡ 0) where
    left : none last_one ≡ eqb (rest_of k) 0
    left = none_of last_one ∙ ap (λ (n : ℕ). eqb n 0) (rest_long b k l h e)

    finished_going : (q : Bool) → none_left k ≡ q → finished t (course_in (slices b k l)) ≡ (whether q then leaves (book_of b) else came_to (line_heard t last_one (book_of b) (line_of k) (take (head_of k) l)))
    unfolding finished
    finished_going q f = ap (finished t) (course_going b k l h e) ∙ rw (left, f)

    pub finish_none : none_left k ≡ true → Comes (finished t (course_in (slices b k l))) (Ok tt) b
    finish_none f = record { is = sym (finished_going true f); sound = λ g. (can_go_on b k l h e).sound }

    pub finish_last : none_left k ≡ false → (x : Heard) → x ≡ taken k → (v : Verdict) (y : List Row)
        → Comes (came_to (line_heard t (take x.rest (drop most_line l)) (book_of b) x.line (take x.head l))) v y → Comes (finished t (course_in (slices b k l))) v y
    finish_last f x g v y c =
        record {
          is = c.is ∙ ap (λ (z : Heard). came_to (line_heard t (take z.rest (drop most_line l)) (book_of b) z.line (take z.head l))) g ∙ sym (finished_going false f);
          sound = c.sound;
        }

    -- what the last line asks
    pub last_asks : t ≡ table_of k → Holding t (taken k) b l × (line_of k + rest_of k + 1 < 2 ^ 64)
    last_asks f =
        let c = (lengths b k l h e).came in
        let n = h.come in
        (subst (λ (u : Table). Holding u (taken k) b l) (sym f) (can_go_on b k l h e), omega arith)

-- closed ----------------------------------------------------------------------------------------------------------------------------

module _ (t : Table) (b : List Row) (k : List ℕ) (l : Bytes) where
  earlier : fault_before t (course_in (slices b k l)) ≡ earlier_fault (number t) k
  earlier = go (eqb (flag_of k) 0)
    where
      go : (q : Bool) → fault_before t (whether q then hearing.kept (taken k) b l else stopped (fault_in (slices b k l))) ≡ (whether q then false else not (eqb (place_of k).table (number t)))
      go true = refl
      go false = refl

  pub closed_before : earlier_fault (number t) k ≡ true → (p : Place) → p ≡ fault_in (slices b k l) → Comes (closing t (announced_of k) (come_of k) (course_in (slices b k l))) (Err p) b
  unfolding closing
  closed_before f p e = record { is = rw (earlier, f) (go (eqb (flag_of k) 0) f); sound = λ g. let z : ◌≡◌ {A = ℕ} 0 1 = cc in let y : ⊥ = omega arith in absurd y }
    where
      go : (q : Bool) → (whether q then false else not (eqb (place_of k).table (number t))) ≡ true → refused p ≡ came_to (whether q then hearing.kept (taken k) b l else stopped (fault_in (slices b k l)))
      go true g = let z : ◌≡◌ {A = ℕ} 0 1 = cc in let y : ⊥ = omega arith in absurd y
      go false g = ap refused e

  module _ (f : earlier_fault (number t) k ≡ false) where
    pub closed_length : (p : Place) → in_text (number t) (length_check (announced_of k) (come_of k)) ≡ Err p → Comes (closing t (announced_of k) (come_of k) (course_in (slices b k l))) (Err p) b
    unfolding closing
    closed_length p e = record { is = rw (earlier, f, e); sound = λ g. let z : ◌≡◌ {A = ℕ} 0 1 = cc in let y : ⊥ = omega arith in absurd y }

    pub closed_finished : in_text (number t) (length_check (announced_of k) (come_of k)) ≡ Ok tt → (v : Verdict) (x : List Row)
        → Comes (finished t (course_in (slices b k l))) v x → Comes (closing t (announced_of k) (come_of k) (course_in (slices b k l))) v x
    unfolding closing
    closed_finished e v x c = record { is = rw (earlier, f, e) c.is; sound = c.sound }
