-- A table that is closed, and the next turn. Assumes nothing.
use mathlib.Core.Path.{◌≡◌, refl, ap, ◌∙◌}
use mathlib.Core.List.{List}
use Prim.Native.Nat.{ℕ}
use Rattle.words.specs.Words.{Bytes, Row}
use Rattle.std.specs.Prelude.{Ok, Err}
use Rattle.refusals.specs.Verdicts.{Verdict}
use Rattle.tables.specs.declared.Table.{Table}
use Rattle.book.specs.Holding.{result_of}
use Rattle.book.specs.Result.{Result}
use Rattle.radio.specs.Radio.{closing, next, verdict_of}
use Rattle.radio.specs.Room.{Slices, laid_out, course_in, outcome, announced_of, come_of}
use Rattle.radio_rule.specs.Lent.{slices}
use Rattle.radio_slices.specs.Hearing.{table_of}
use Rattle.radio_closing.specs.Closing.{Comes, closed_heard}

said_of : (v : Verdict) (y : List Row) → v ≡ verdict_of (result_of v y)
said_of (Ok _) y = refl
said_of (Err p) y = refl

pub closed : (b : List Row) (k : List ℕ) (l : Bytes) (t : Table) → t ≡ table_of k → (v : Verdict) (y : List Row)
    → Comes (closing t (announced_of k) (come_of k) (course_in (slices b k l))) v y → (u : Slices) → u ≡ laid_out (next (table_of k) (result_of v y))
    → outcome v u ≡ closed_heard b k l
closed b k l t g v y c u f =
    let r = closing (table_of k) (announced_of k) (come_of k) (course_in (slices b k l)) in
    let e : result_of v y ≡ r = c.is ∙ ap (λ (x : Table). closing x (announced_of k) (come_of k) (course_in (slices b k l))) g in
    ap (outcome v) (f ∙ ap (λ (x : Result). laid_out (next (table_of k) x)) e)
    ∙ ap (λ (w : Verdict). outcome w (laid_out (next (table_of k) r))) (said_of v y ∙ ap verdict_of e)
