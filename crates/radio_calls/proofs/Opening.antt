-- A delivery opened, and a table announced. Assumes nothing.
use Rattle.std.proofs.Common.{Option, Some, None}
use mathlib.Core.Path.{◌≡◌, refl, ap, sym, ◌∙◌}
use mathlib.Core.List.{List}
use mathlib.Core.Bool.{true, false}
use Prim.Native.Nat.{ℕ, ◌<◌}
use lib.ListN.{replicate}
use Rattle.words.specs.Words.{Bytes, Row}
use Rattle.refusals.specs.Verdicts.{nowhere, bad_loan, unknown_edition}
use Rattle.std.specs.Prelude.{Ok}
use Rattle.editions.specs.Editions.{choice}
use Rattle.editions.specs.declared.Edition.{Edition}
use Rattle.tables.specs.declared.Table.{Table}
use Rattle.tables.specs.declared.Table.TheVariants.{VehicleType, Depot, Stop, StopPoint, Block, Calendar}
use Rattle.book.specs.Result.{Result, refused, leaves}
use Rattle.radio.specs.Radio.{awaits, hears, announce, counted, begun}
use Rattle.radio.specs.Room.{Slices, outcome, laid_out, table_at, result_in, fits, keeps_radio, radio_call, open_by, open_call, radio_numbers, all_closed, turn_of}
use Rattle.radio.proofs.Laying.{handed}
use Rattle.radio_rule.specs.Lent.{slices}
use Rattle.radio_slices.specs.Numbers.{empty_slices, numbers_announced}
use Rattle.radio_slices.proofs.Turns.{is_awaited}
use Rattle.radio_calls.proofs.Turns.{announced_in_turn}

module _ (n : ℕ) (b : List Row) (k : List ℕ) (l : Bytes) where
  pub not_fit : fits (slices b k l) ≡ false → open_call n (slices b k l) ≡ outcome (nowhere bad_loan) (slices b k l)
  not_fit e = rw e

  module _ (fit : fits (slices b k l) ≡ true) where
    chosen : (c : Option Edition) → choice n ≡ c → open_call n (slices b k l) ≡ open_by c (slices b k l)
    chosen c e = rw fit (ap (λ (x : Option Edition). open_by x (slices b k l)) e)

    pub not_known : choice n ≡ None → open_call n (slices b k l) ≡ outcome (nowhere unknown_edition) (slices b k l)
    not_known e = chosen None e

    pub opened : (x : Edition) → choice n ≡ Some x → (s : Slices) → s ≡ empty_slices x (replicate radio_numbers 0) → outcome (Ok tt) s ≡ open_call n (slices b k l)
    unfolding laid_out
    opened x e s f = ap (outcome (Ok tt)) f ∙ sym (chosen (Some x) e)

-- announced: the book and the lines stay
announced_laid : (t : Table) (r : Result) (a : ℕ) → let u = laid_out (awaits t r) in slices u.book (numbers_announced a u.numbers) u.lines ≡ laid_out (hears t a 0 (begun r))
unfolding laid_out
announced_laid VehicleType (refused p) a = refl
announced_laid VehicleType (leaves b) a = refl
announced_laid Depot (refused p) a = refl
announced_laid Depot (leaves b) a = refl
announced_laid Stop (refused p) a = refl
announced_laid Stop (leaves b) a = refl
announced_laid StopPoint (refused p) a = refl
announced_laid StopPoint (leaves b) a = refl
announced_laid Block (refused p) a = refl
announced_laid Block (leaves b) a = refl
announced_laid Calendar (refused p) a = refl
announced_laid Calendar (leaves b) a = refl

pub announced : (s : Slices) → keeps_radio s ≡ true → (a : ℕ) → turn_of s.numbers < all_closed
    → outcome (Ok tt) (slices s.book (numbers_announced (counted a) s.numbers) s.lines) ≡ radio_call (announce a) s
announced s keeps a h =
    let e : s ≡ laid_out (awaits (table_at (turn_of s.numbers)) (result_in s)) = (handed s keeps).is ∙ ap laid_out (is_awaited s h) in
    ap (λ (u : Slices). outcome (Ok tt) (slices u.book (numbers_announced (counted a) u.numbers) u.lines)) e
    ∙ ap (outcome (Ok tt)) (announced_laid (table_at (turn_of s.numbers)) (result_in s) (counted a))
    ∙ sym (announced_in_turn s keeps a h)
