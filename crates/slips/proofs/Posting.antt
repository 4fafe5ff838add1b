-- The lines of a slip one behind the other, and the slip as a whole: all of it, or the book as it was. Assumes nothing.
use mathlib.Core.Path.{◌≡◌, sym, ap, ◌∙◌, refl}
use mathlib.Core.List.{List, []}
use mathlib.Core.Bool.{Bool, true, false, ◌&&◌, not}
use Prim.Native.Nat.{ℕ, ◌+◌, ◌-◌, ◌≤◌, ◌<◌}
use native.Mathlib.Omega.{arith}
use native.Mathlib.Numerals.{add-one}
use lib.ListN.{take, drop, length}
use borrow.Author.Tests.{eq-eqb, ne_eqb, lt-ltb, le-ltb}
use Rattle.words.specs.Words.{Bytes, Row}
use Rattle.refusals.specs.Verdicts.{placed, ◌when◌, nowhere, text_too_long, bad_loan, Check, Verdict}
use Rattle.refusals.specs.declared.Place.{Place}
use Rattle.std.specs.Prelude.{Ok, Err}
use Rattle.refusals.proofs.Placing.{placed_passes}
use Rattle.lines.specs.Lines.{slip_lines}
use Rattle.lines.specs.declared.Line.{Line}
use Rattle.lines.proofs.Lining.{LineFrom, slip_lines_none}
use Rattle.rows.specs.Room.{filled}
use Rattle.book.specs.Book.{Book}
use Rattle.book.specs.Result.{refused, unless, leaves, Result}
use Rattle.book.specs.Room.{book_of}
use Rattle.keeping.specs.Keeping.{keeps_rule}
use Rattle.block_change.specs.Change.{slip_check, slip_leaves}
use Rattle.slips.specs.Slips.{lines_posted, posting}
use Rattle.slips.specs.Taking.{behind}
use Rattle.slips.specs.Calls.{outcome, work_sized, cleared, slip_outcome, slip_call}

-- a check that is refused on its line does not pass
placed_refused : (t i : ℕ) (c : Check) (p : Place) → placed t i c ≡ Err p → c ≡ Ok tt → ⊥
placed_refused t i (Ok _) p e f = let z : ◌≡◌ {A = ℕ} 0 1 = cc in omega arith
placed_refused t i (Err w) p e f = let z : ◌≡◌ {A = ℕ} 0 1 = cc in omega arith

-- line by line --------------------------------------------------------------------------------------------------------------------

module _ (s : Bytes) (at : ℕ) (here : Line) (from : LineFrom slip_lines s at here) (i : ℕ) (b : Book) where
  abbrev line_here_lem : Bytes
  line_here_lem = take (here.end - at) (drop at s)

  lines_here : lines_posted i (slip_lines (drop at s)) b ≡ unless (placed 5 i (slip_check line_here_lem b)) (lines_posted (i + 1) (slip_lines (drop here.next s)) (slip_leaves line_here_lem b))
  unfolding lines_posted
  lines_here = ap (λ (ls : List Bytes). lines_posted i ls b) from.is ∙ rw (add-one i)

  module _ (c : Check) (v : Verdict) (is : c ≡ slip_check line_here_lem b) (on : v ≡ placed 5 i c) where
    pub line_passes : v ≡ Ok tt → c ≡ Ok tt
    line_passes e = placed_passes 5 i c (sym on ∙ e)

    pub line_fails : (p : Place) → v ≡ Err p → c ≡ Ok tt → ⊥
    line_fails p e = placed_refused 5 i c p (sym on ∙ e)

    pub line_next : v ≡ Ok tt → (b' : Book) → b' ≡ slip_leaves line_here_lem b → lines_posted i (slip_lines (drop at s)) b ≡ lines_posted (i + 1) (slip_lines (drop here.next s)) b'
    line_next e b' f =
        lines_here
        ∙ ap (λ (x : Check). unless (placed 5 i x) (lines_posted (i + 1) (slip_lines (drop here.next s)) (slip_leaves line_here_lem b))) (sym is ∙ line_passes e)
        ∙ ap (lines_posted (i + 1) (slip_lines (drop here.next s))) (sym f)

    pub line_refused : (p : Place) → v ≡ Err p → lines_posted i (slip_lines (drop at s)) b ≡ refused p
    line_refused p e =
        lines_here
        ∙ ap (λ (x : Verdict). unless x (lines_posted (i + 1) (slip_lines (drop here.next s)) (slip_leaves line_here_lem b))) (ap (placed 5 i) (sym is) ∙ sym on ∙ e)

pub lines_end : (s : Bytes) (at i : ℕ) (b : Book) → length s ≤ at → lines_posted i (slip_lines (drop at s)) b ≡ leaves b
unfolding lines_posted
lines_end s at i b h = ap (λ (ls : List Bytes). lines_posted i ls b) (slip_lines_none s at h)

-- the whole slip --------------------------------------------------------------------------------------------------------------------

module _ (s : Bytes) (xs work : List Row) where
  -- all lines, or the book as it was
  pub whole : (b b' : Book) (v : Verdict) (ys : List Row) → b ≡ book_of xs → unless v (leaves b') ≡ lines_posted 1 (slip_lines s) b → ys ≡ behind v b' xs
      → outcome v ys (cleared work) ≡ slip_outcome (lines_posted 1 (slip_lines s) (book_of xs)) xs work
  whole b b' v ys before r e =
      ap (λ (l : List Row). outcome v l (cleared work)) e ∙ go v ∙ ap (λ (q : Result). slip_outcome q xs work) (r ∙ ap (lines_posted 1 (slip_lines s)) before)
    where
      go : (v : Verdict) → outcome v (behind v b' xs) (cleared work) ≡ slip_outcome (unless v (leaves b')) xs work
      go (Ok _) = refl
      go (Err p) = refl

  -- 16 and 1
  pub call_unruled : (v : Verdict) → keeps_rule xs ≡ false → v ≡ placed 0 0 bad_loan → outcome v xs (cleared work) ≡ slip_call s xs work
  call_unruled v e f = rw (f, e)

  module _ (sized : length work ≡ 512) (keeps : keeps_rule xs ≡ true) where
    fits : not (keeps_rule xs && work_sized work) ≡ false
    fits = rw (keeps, eq-eqb (length work) 512 sized)

    pub call_long : (v : Verdict) → 65536 < length s → v ≡ placed 5 0 text_too_long → outcome v xs (cleared work) ≡ slip_call s xs work
    unfolding posting
    call_long v h f = rw (f, fits, lt-ltb 65536 (length s) h)

    pub call_lines : length s ≤ 65536 → slip_outcome (lines_posted 1 (slip_lines s) (book_of xs)) xs work ≡ slip_call s xs work
    unfolding posting
    call_lines h = rw (fits, le-ltb 65536 (length s) h)

  -- a working area of another length, and one that ends all zero
  pub call_unsized : (v : Verdict) → (length work ≡ 512 → ⊥) → v ≡ placed 0 0 bad_loan → outcome v xs work ≡ slip_call s xs work
  call_unsized v h f = go (keeps_rule xs)
    where
      go : (t : Bool) → outcome v xs work ≡ slip_outcome (unless (nowhere (bad_loan when not (t && work_sized work))) (posting s (book_of xs))) xs work
      go true = rw (f, ne_eqb (length work) 512 h, ne_eqb (length work) 512 h)
      go false = rw (f, ne_eqb (length work) 512 h)

pub work_cleared : (work : List Row) (n : ℕ) (ws : List Row) → length work ≡ 512 → n ≡ 512 → ws ≡ filled n [] → ws ≡ cleared work
work_cleared work n ws e f g = rw (g, f, eq-eqb (length work) 512 e)
