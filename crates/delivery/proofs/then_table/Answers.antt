use mathlib.Core.Path.{subst, ◌∙◌}
use Rattle.std.proofs.lemmas.Result.{err_from_is_err_and}
use Rattle.refusals.specs.Verdicts.{Verdict}
use Rattle.book.specs.Holding.{result_of}
use Rattle.rules.specs.Points.{NamedIn}
use Rattle.delivery.proofs.then_table.Goals as goal

pub take_table-requires : goal.take_table-requires
take_table-requires c =
    let st = c in
    (st.requires.0, subst (λ (v : Verdict). NamedIn (result_of v st.args.book.now)) c.in_ok-earlier.was st.requires.1)

pub returns-in_err-earlier : goal.returns-in_err-earlier
returns-in_err-earlier c =
    let p = err_from_is_err_and c.from_residual.result c.from_residual.ensures.1 in
    rw (p.1, p.2) (c.requires.0, rw c.in_err-earlier.was, tt)

pub returns : goal.returns
returns c = (c.take_table.ensures.0, c.take_table.ensures.1 ∙ rw c.in_ok-earlier.was, c.take_table.ensures.2)
