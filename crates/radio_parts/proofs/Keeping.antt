-- What a part came to is kept. Assumes nothing.
use mathlib.Core.Path.{◌≡◌, refl, ap, sym, ◌∙◌}
use mathlib.Core.List.{List, [], ◌∷◌}
use Prim.Native.Nat.{ℕ, ◌+◌, ◌-◌, ◌≤◌}
use native.Mathlib.Omega.{arith}
use lib.ListN.{length, take, drop}
use Rattle.words.specs.Words.{Bytes, Row}
use Rattle.refusals.specs.declared.Place.{Place}
use Rattle.std.specs.Prelude.{Ok, Err}
use Rattle.refusals.specs.Verdicts.{Verdict}
use Rattle.lines.specs.Lines.{most_line}
use Rattle.tables.specs.Parts.{part_of}
use Rattle.tables.specs.declared.Table.{Table}
use Rattle.book.specs.Room.{laid, book_of}
use Rattle.book.proofs.Laying.{laid_book_lem}
use Rattle.radio.specs.Radio.{Course, stopped, going, hears, kept_line}
use Rattle.radio.specs.Room.{Slices, two_lines, laid_out, table_at, first_heard, last_heard, turn_of, announced_of}
use Rattle.radio_rule.specs.Lent.{slices}
use Rattle.radio_rule.proofs.Rule.{at_place}
use Rattle.radio_lines.specs.Lines.{course_held, Holding}
use Rattle.radio_lines.specs.declared.Heard.{Heard}
use Rattle.radio_slices.specs.Numbers.{stopped_slices}
use Rattle.radio_slices.specs.Hearing.{table_of}
use Rattle.radio_slices.proofs.Slices.{slices_are}
use Rattle.radio_parts.specs.Keeping.{Keeping}
use Rattle.radio_parts.proofs.Lines.{a_long, b_long}

turn_laid : (turn : ℕ) → first_heard ≤ turn → turn ≤ last_heard → first_heard + part_of (table_at (turn - first_heard)) ≡ turn
turn_laid turn h k = ap (λ (n : ℕ). first_heard + n) (at_place (turn - first_heard) (omega arith)) ∙ omega arith

stopped_laid : (t : Table) (a n : ℕ) (p : Place) → stopped_slices (first_heard + part_of t) a n p ≡ laid_out (hears t a n (stopped p))
unfolding laid_out
stopped_laid t a n p = refl

going_laid : (t : Table) (a n : ℕ) (b : List Row) (i : ℕ) (head rest : Bytes)
    → slices (laid (book_of b)) ((first_heard + part_of t) ∷ a ∷ n ∷ i ∷ length head ∷ length rest ∷ 0 ∷ 0 ∷ 0 ∷ 0 ∷ 0 ∷ []) (two_lines head rest) ≡ laid_out (hears t a n (going (book_of b) i head rest))
unfolding laid_out
going_laid t a n b i head rest = refl

module _ (heard : Heard) (b : List Row) (k : List ℕ) (l : Bytes) (s : Keeping heard b k l) (n : ℕ) where
  abbrev came : Verdict → Course
  came v = course_held v heard.line heard.head heard.rest b l

  pub kept_fault : (p : Place) → heard.verdict ≡ Err p → (u : Slices) → u ≡ stopped_slices (turn_of k) (announced_of k) n p
      → u ≡ laid_out (hears (table_of k) (announced_of k) n (came heard.verdict))
  kept_fault p e u f =
      f
      ∙ ap (λ (m : ℕ). stopped_slices m (announced_of k) n p) (sym (turn_laid (turn_of k) s.least s.last))
      ∙ stopped_laid (table_of k) (announced_of k) n p
      ∙ ap (λ (v : Verdict). laid_out (hears (table_of k) (announced_of k) n (came v))) (sym e)

  abbrev numbers_going : ℕ → ℕ → ℕ → List ℕ
  numbers_going turn head rest = turn ∷ announced_of k ∷ n ∷ heard.line ∷ head ∷ rest ∷ 0 ∷ 0 ∷ 0 ∷ 0 ∷ 0 ∷ []

  pub kept_going : heard.verdict ≡ Ok tt → (m : List ℕ) (x : Bytes) → m ≡ numbers_going (turn_of k) heard.head heard.rest
      → x ≡ two_lines (take heard.head l) (take heard.rest (drop most_line l))
      → slices b m x ≡ laid_out (hears (table_of k) (announced_of k) n (came heard.verdict))
  kept_going e m x f g =
      let o : Holding (table_of k) heard b l = s.holds e in
      let head = take heard.head l in
      let rest = take heard.rest (drop most_line l) in
      let p : length head ≡ heard.head = a_long most_line kept_line heard.head heard.rest l s.bytes o.heads o.rests in
      let q : length rest ≡ heard.rest = b_long most_line kept_line heard.head heard.rest l s.bytes o.heads o.rests in
      let z : m ≡ numbers_going (first_heard + part_of (table_of k)) (length head) (length rest) =
      f ∙ ap (λ (j : ℕ). numbers_going j heard.head heard.rest) (sym (turn_laid (turn_of k) s.least s.last))
      ∙ ap (λ (j : ℕ). numbers_going (first_heard + part_of (table_of k)) j heard.rest) (sym p)
      ∙ ap (numbers_going (first_heard + part_of (table_of k)) (length head)) (sym q) in
      slices_are b (laid (book_of b)) m _ x (two_lines head rest) (sym (laid_book_lem b o.sound)) z g
      ∙ going_laid (table_of k) (announced_of k) n b heard.line head rest
      ∙ ap (λ (v : Verdict). laid_out (hears (table_of k) (announced_of k) n (came v))) (sym e)
