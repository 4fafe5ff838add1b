-- A day: the delivery, then the slip, by what the reading answers. Assumes nothing.
use mathlib.Core.Path.{◌≡◌, sym, ap, ◌∙◌}
use mathlib.Core.List.{List}
use Prim.Native.Nat.{ℕ}
use lib.ListN.{length}
use borrow.Author.Tests.{eq-eqb, ne_eqb}
use Rattle.words.specs.Words.{Row, Bytes}
use Rattle.refusals.specs.Verdicts.{nowhere, bad_loan, Verdict}
use Rattle.refusals.specs.declared.Place.{Place}
use Rattle.std.specs.Prelude.{Ok, Err}
use Rattle.tables.specs.Parts.{book_rows}
use Rattle.book.specs.Book.{empty}
use Rattle.book.specs.Room.{laid}
use Rattle.delivery.specs.Delivery.{Delivery}
use Rattle.delivery.specs.Calls.{read_call}
use Rattle.delivery.specs.Calls as reading-is
use Rattle.slips.specs.Calls.{Outcome, outcome, cleared, slip_call}
use Rattle.day.specs.Calls.{emptied, then_slip, day_call}

pub book_emptied : (xs : List Row) → length xs ≡ book_rows → laid empty ≡ emptied xs
book_emptied xs e = rw (eq-eqb (length xs) book_rows e)

pub book_stays : (xs : List Row) → (length xs ≡ book_rows → ⊥) → xs ≡ emptied xs
book_stays xs h = rw (ne_eqb (length xs) book_rows h)

module _ (n : ℕ) (d : Delivery) (s : Bytes) (xs work : List Row) where
  -- 16 of the working area
  pub day_unsized : (v : Verdict) (ys : List Row) → (length work ≡ 512 → ⊥) → v ≡ nowhere bad_loan → ys ≡ emptied xs → outcome v ys work ≡ day_call n d s xs work
  day_unsized v ys h f e = rw (f, e, ne_eqb (length work) 512 h)

  module _ (sized : length work ≡ 512) (v : Verdict) (ys : List Row) (read : reading-is.outcome v ys ≡ read_call n d xs) where
    -- behind the reading, by its verdict
    day_read : day_call n d s xs work ≡ then_slip v s ys work
    day_read =
        rw (eq-eqb (length work) 512 sized) (ap (λ (o : reading-is.Outcome). then_slip o.verdict s o.book work) (sym read))

    pub day_slip : (o : Outcome) → v ≡ Ok tt → o ≡ slip_call s ys work → o ≡ day_call n d s xs work
    day_slip o e f = f ∙ ap (λ (w : Verdict). then_slip w s ys work) (sym e) ∙ sym day_read

    pub day_refused : (p : Place) (ws : List Row) → v ≡ Err p → ws ≡ cleared work → outcome (Err p) ys ws ≡ day_call n d s xs work
    day_refused p ws e f = ap (outcome (Err p) ys) f ∙ ap (λ (w : Verdict). then_slip w s ys work) (sym e) ∙ sym day_read
