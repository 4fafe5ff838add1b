-- A part of a table: what is heard of it, and what is kept behind it. Assumes nothing.
use mathlib.Core.Path.{◌≡◌, refl, ap, sym, subst, ◌∙◌}
use mathlib.Core.List.{List}
use Prim.Native.Nat.{ℕ, ◌+◌, ◌-◌, ◌<◌, ◌≤◌, ◌^◌}
use native.Mathlib.Omega.{arith}
use lib.ListN.{length, take, set, length-take}
use Rattle.words.specs.Words.{Bytes, Row}
use Rattle.refusals.specs.declared.Place.{Place}
use Rattle.tables.specs.declared.Table.{Table}
use Rattle.radio.specs.Radio.{Course, stopped, hears, counted, most_counted}
use Rattle.radio.specs.Room.{Slices, laid_out, fault_in, course_in, announced_of, come_of, line_of, rest_of, flag_of}
use Rattle.radio.specs.Hearing.{bytes_heard}
use Rattle.radio.proofs.Hearing.{over_stopped}
use Rattle.radio.proofs.Laying.{handed}
use Rattle.radio_rule.specs.Lent.{slices}
use Rattle.radio_lines.specs.Lines as hearing
use Rattle.radio_lines.specs.Lines.{Holding}
use Rattle.radio_lines.specs.declared.Heard.{Heard}
use Rattle.radio_slices.specs.Hearing.{table_of, taken, Hears}
use Rattle.radio_slices.proofs.Turns.{is_heard}
use Rattle.radio_slices.proofs.Hearing.{course_stopped, course_going, can_go_on, lengths}

count_laid : (t : Table) (a n m : ℕ) (p : Place) → let u = laid_out (hears t a n (stopped p)) in slices u.book (set u.numbers 2 m) u.lines ≡ laid_out (hears t a m (stopped p))
unfolding laid_out
count_laid t a n m p = refl

module _ (x : Bytes) (b : List Row) (k : List ℕ) (l : Bytes) (h : Hears b k l) where
  abbrev behind : Slices
  behind = laid_out (hears (table_of k) (announced_of k) (counted (come_of k + length x)) (bytes_heard (table_of k) (take (announced_of k - come_of k) x) (course_in (slices b k l))))

  pub only_counted : (flag_of k ≡ 0 → ⊥) → (m : ℕ) → m ≡ counted (come_of k + length x) → slices b (set k 2 m) l ≡ behind
  only_counted d m e =
      let p = fault_in (slices b k l) in
      let c = course_stopped b k l h d in
      let s : slices b k l ≡ laid_out (hears (table_of k) (announced_of k) (come_of k) (stopped p)) =
      (handed (slices b k l) h.keeps).is ∙ ap laid_out (is_heard (slices b k l) h.heard ∙ ap (hears (table_of k) (announced_of k) (come_of k)) c) in
      ap (λ (u : Slices). slices u.book (set u.numbers 2 m) u.lines) s
      ∙ count_laid (table_of k) (announced_of k) (come_of k) m p
      ∙ ap (λ (n : ℕ). laid_out (hears (table_of k) (announced_of k) n (stopped p))) e
      ∙ ap (λ (y : Course). laid_out (hears (table_of k) (announced_of k) (counted (come_of k + length x)) y))
      (sym (ap (bytes_heard (table_of k) (take (announced_of k - come_of k) x)) c ∙ over_stopped (table_of k) (take (announced_of k - come_of k) x) p))

  module _ (e : flag_of k ≡ 0) (t : Table) (g : t ≡ table_of k) (y : Heard) (f : y ≡ taken k) (p : Bytes) (q : p ≡ take (announced_of k - come_of k) x) where
    short : length p ≤ most_counted
    short = omega (arith, ap length q ∙ length-take (announced_of k - come_of k) x, h.announced)

    pub hear_asks : Holding t y b l × (y.line + y.rest + length p + 1 < 2 ^ 64)
    hear_asks =
        let i : y.line ≡ line_of k = ap (λ (z : Heard). z.line) f in
        let j : y.rest ≡ rest_of k = ap (λ (z : Heard). z.rest) f in
        let c = (lengths b k l h e).came in
        let n = h.come in
        let o = short in
        (subst (λ (z : Heard). Holding t z b l) (sym f) (subst (λ (u : Table). Holding u (taken k) b l) (sym g) (can_go_on b k l h e)), omega arith)

    pub part_kept : (m : ℕ) (c : Course) (u : Slices) → u ≡ laid_out (hears (table_of k) (announced_of k) m c) → m ≡ counted (come_of k + length x) → c ≡ bytes_heard t p (hearing.kept y b l) → u ≡ behind
    part_kept m c u v w z =
        let o : c ≡ bytes_heard (table_of k) (take (announced_of k - come_of k) x) (course_in (slices b k l)) =
        z ∙ ap (λ (a : Table). bytes_heard a p (hearing.kept y b l)) g ∙ ap (λ (a : Bytes). bytes_heard (table_of k) a (hearing.kept y b l)) q
        ∙ ap (λ (a : Heard). bytes_heard (table_of k) (take (announced_of k - come_of k) x) (hearing.kept a b l)) f
        ∙ ap (bytes_heard (table_of k) (take (announced_of k - come_of k) x)) (sym (course_going b k l h e)) in
        v ∙ ap (λ (n : ℕ). laid_out (hears (table_of k) (announced_of k) n c)) w ∙ ap (λ (a : Course). laid_out (hears (table_of k) (announced_of k) (counted (come_of k + length x)) a)) o

pub holds_by : (t u : Table) → t ≡ u → (y : Heard) (b : List Row) (l : Bytes) → Holding t y b l → Holding u y b l
holds_by t u e y b l h = subst (λ (v : Table). Holding v y b l) e h
