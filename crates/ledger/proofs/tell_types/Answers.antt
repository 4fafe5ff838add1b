-- A book that keeps the book rule can be counted, and hours that are near some seconds are numbers.
use Rattle.std.proofs.Common.{◌≡◌, ℕ, List, sym, ap, subst, ◌∙◌, not}
use Rattle.std.specs.Prelude.{T, Float}
use Rattle.std.specs.Float.Ieee.{is_nan}
use Rattle.words.specs.Words.{Row}
use Rattle.keeping.proofs.Keeping.{keeps_sound}
use Rattle.hours.specs.Calls.{hours_call}
use Rattle.hours.specs.declared.HoursAnswer.{HoursAnswer}
use Rattle.hours.proofs.LedgerClaims.{hours_near, clerk_near}
use Rattle.ledger.proofs.tell_types.Goals as goal

both_numbers : (book : List Row) (version type : ℕ) (a : HoursAnswer) → a ≡ hours_call book version type → T (not (is_nan a.hours)) × T (not (is_nan a.summed))
unfolding is_nan
both_numbers book version type a e = (
  subst (λ (z : Float). T (not (is_nan z))) (sym (ap (λ (o : HoursAnswer). o.hours) e ∙ (hours_near book version type).is)) tt,
  subst (λ (z : Float). T (not (is_nan z))) (sym (ap (λ (o : HoursAnswer). o.summed) e ∙ (clerk_near book version type).is)) tt,
)

pub rows_of-row-items-requires : goal.rows_of-row-items-requires
rows_of-row-items-requires g c = keeps_sound c.args.book.now (sym c.keeps_rule.ensures ∙ c.if-not-keeps_rule.false)

pub float_to_bits-quotient : goal.float_to_bits-quotient
float_to_bits-quotient g c = (both_numbers c.args.book.now _ _ c.type_hours-found.result c.type_hours-found.ensures).0

pub float_to_bits-summed : goal.float_to_bits-summed
float_to_bits-summed g c = (both_numbers c.args.book.now _ _ c.type_hours-found.result c.type_hours-found.ensures).1
