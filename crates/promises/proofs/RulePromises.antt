-- The book rule: its test holds exactly of the books that some accepted delivery leaves. Assumes nothing.
use mathlib.Core.Path.{◌≡◌, sym, subst}
use mathlib.Core.List.{List}
use mathlib.Core.Bool.{true}
use lib.Dec.{eqb}
use lib.ListN.{length}
use Rattle.words.specs.Words.{Row}
use Rattle.rows.specs.Room.{same_rows}
use Rattle.rows.proofs.Room.{same_rows_true}
use Rattle.tables.specs.Parts.{book_rows}
use Rattle.book.specs.Book.{Book}
use Rattle.book.specs.Room.{laid, book_of}
use Rattle.keeping.specs.Keeping.{lawful_book, keeps_rule}
use Rattle.delivery.specs.Delivery.{Left}
use Rattle.promises.specs.Promises.{RuleTested}
use Rattle.promises.proofs.DeliveryLaws.{Standing, left_by, plain_delivery, plain_read}
use Rattle.promises.proofs.TestLaws.{and_three}
use Rattle.promises.proofs.RuleLaws.{lawful_standing, laid_keeps}

pub left_standing : (b : Book) → Left b → Standing b
left_standing b l = (left_by l.0 l.1.0 b l.1.1).standing

keeps_left : (slice : List Row) → keeps_rule slice ≡ true → (b : Book) × Left b × (slice ≡ laid b)
keeps_left slice h =
    let b : Book = book_of slice in
    let k = and_three (eqb (length slice) book_rows) (lawful_book b) (same_rows slice (laid b)) h in
    (b, (b.edition, (plain_delivery b, plain_read b (lawful_standing b k.1))), same_rows_true slice (laid b) k.2)

pub rule_tested : RuleTested
rule_tested slice = (
  keeps_left slice,
  λ l. subst (λ (z : List Row). keeps_rule z ≡ true) (sym l.2) (laid_keeps l.0 (left_standing l.0 l.1)),
)
