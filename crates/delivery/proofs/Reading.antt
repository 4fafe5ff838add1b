-- The tables of a delivery one behind the other, and the call. Assumes nothing.
use Rattle.std.proofs.Common.{Some, None}
use mathlib.Core.Path.{◌≡◌, ap, sym, ◌∙◌, subst}
use mathlib.Core.List.{List}
use Prim.Native.Nat.{ℕ}
use lib.ListN.{length}
use borrow.Author.Tests.{eq-eqb, ne_eqb}
use Rattle.words.specs.Words.{Row}
use Rattle.refusals.specs.Verdicts.{nowhere, bad_loan, unknown_edition, Verdict}
use Rattle.refusals.specs.declared.Place.{Place}
use Rattle.std.specs.Prelude.{Ok, Err}
use Rattle.editions.specs.Editions.{choice}
use Rattle.editions.specs.declared.Edition.{Edition}
use Rattle.tables.specs.Parts.{book_rows}
use Rattle.book.specs.Book.{Book, empty, empty_by}
use Rattle.book.specs.Room.{laid, book_of}
use Rattle.book.specs.Holding.{Sound, result_of}
use Rattle.book.specs.Result.{refused, leaves}
use Rattle.book.proofs.Laying.{laid_book_lem}
use Rattle.delivery.specs.Delivery.{Delivery, reading}
use Rattle.delivery.specs.Calls.{Outcome, outcome, read_outcome, read_call}

module _ (n : ℕ) (d : Delivery) (xs : List Row) where
  pub read_sized : (length xs ≡ book_rows → ⊥) → (v : Verdict) → v ≡ nowhere bad_loan → outcome v xs ≡ read_call n d xs
  read_sized h v e = rw (ne_eqb (length xs) book_rows h, e)

  module _ (sized : length xs ≡ book_rows) where
    pub read_unknown : choice n ≡ None → (v : Verdict) → v ≡ nowhere unknown_edition → (ys : List Row) → ys ≡ laid empty → outcome v ys ≡ read_call n d xs
    read_unknown c v e ys f = rw (eq-eqb (length xs) book_rows sized, c, e, f)

    pub read_chosen : (e : Edition) → choice n ≡ Some e → (o : Outcome) → o ≡ read_outcome (reading e d) → o ≡ read_call n d xs
    read_chosen e c o f = rw (eq-eqb (length xs) book_rows sized, c) f

pub begun_again : (e : Edition) (b : Book) → b ≡ empty_by e → b ≡ empty_by b.edition
begun_again e b k = k ∙ ap (λ (x : Book). empty_by x.edition) (sym k)

-- by an edition, which the book without rows has
module _ (e : Edition) (d : Delivery) (b : Book) (begun : b ≡ empty_by e) (v : Verdict) (ys : List Row) (is : result_of v ys ≡ reading b.edition d) where
  by_edition : result_of v ys ≡ reading e d
  by_edition = is ∙ ap (λ (x : Book). reading x.edition d) begun

  pub read_accepted : v ≡ Ok tt → Sound ys → outcome (Ok tt) ys ≡ read_outcome (reading e d)
  read_accepted a sound =
      let z : leaves (book_of ys) ≡ reading e d = subst (λ (x : Verdict). result_of x ys ≡ reading e d) a by_edition in
      rw (← z, laid_book_lem ys sound)

  pub read_refused : (p : Place) → v ≡ Err p → (zs : List Row) → zs ≡ laid empty → outcome (Err p) zs ≡ read_outcome (reading e d)
  read_refused p a zs k =
      let z : refused p ≡ reading e d = subst (λ (x : Verdict). result_of x ys ≡ reading e d) a by_edition in
      rw (← z, k)
