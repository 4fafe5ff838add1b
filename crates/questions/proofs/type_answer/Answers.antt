-- `questions::type_answer` meets its contract: 16, 15, or the sums. Assumes nothing.
use mathlib.Core.Bool.{true}
use mathlib.Core.Path.{◌≡◌, sym, ap, ◌∙◌}
use Rattle.words.specs.Words.{Row}
use Rattle.refusals.specs.Verdicts.{nowhere, Check}
use Rattle.tables.specs.declared.Table.TheVariants.{VehicleType}
use Rattle.book.specs.Book.{knows}
use Rattle.book.specs.Room.{book_of}
use Rattle.keeping.specs.Keeping.{keeps_rule}
use Rattle.keeping.proofs.Keeping.{keeps_sound}
use Rattle.questions.specs.Calls.{type_answered}
use Rattle.questions.proofs.Answers as answers
use Rattle.questions.proofs.type_answer.Goals as goal

pub returns-then-not-keeps_rule : goal.returns-then-not-keeps_rule
returns-then-not-keeps_rule c =
    let st = c in
    let xs = st.args.book.now in
    let a = st.args in
    c.no_type.ensures ∙ ap (λ (k : Check). type_answered (nowhere k) 0 0) c.bad_loan.ensures
    ∙ answers.type_bad xs a.version a.number (sym c.keeps_rule.ensures ∙ c.if-not-keeps_rule.true)

pub knowing-requires : goal.knowing-requires
knowing-requires c =
    let st = c in
    keeps_sound st.args.book.now (sym c.keeps_rule.ensures ∙ c.if-not-keeps_rule.false)

pub returns-then-not-knowing : goal.returns-then-not-knowing
returns-then-not-knowing c =
    let kn = c in
    let st = kn in
    let xs = st.args.book.now in
    let a = st.args in
    let keeps : keeps_rule xs ≡ true = sym kn.keeps_rule.ensures ∙ kn.if-not-keeps_rule.false in
    let here = ap (λ (r : Row). knows VehicleType r (book_of xs)) (sym kn.key.ensures) ∙ sym kn.knowing.ensures ∙ c.if-not-knowing.true in
    c.no_type-then-not-knowing.ensures ∙ ap (λ (k : Check). type_answered (nowhere k) 0 0) c.not_there.ensures ∙ answers.type_missing xs a.version a.number keeps here

pub blocks_summed-found-requires : goal.blocks_summed-found-requires
blocks_summed-found-requires c =
    let kn = c in
    sym kn.keeps_rule.ensures ∙ kn.if-not-keeps_rule.false

pub returns : goal.returns
returns c =
    let kn = c in
    let st = kn in
    let xs = st.args.book.now in
    let a = st.args in
    let keeps : keeps_rule xs ≡ true = sym kn.keeps_rule.ensures ∙ kn.if-not-keeps_rule.false in
    let here = ap (λ (r : Row). knows VehicleType r (book_of xs)) (sym kn.key.ensures) ∙ sym kn.knowing.ensures ∙ c.if-not-knowing.false in
    rw (c.blocks_summed-found.ensures.0, c.blocks_summed-found.ensures.1) (answers.type_there xs a.version a.number keeps here)
