-- `questions::block_answer` meets its contract: 16, 15, or the row's numbers behind its key. Assumes nothing.
use mathlib.Core.Bool.{true}
use mathlib.Core.Path.{◌≡◌, sym, ap, ◌∙◌}
use lib.ListN.{replicate}
use Rattle.words.specs.Words.{Row}
use Rattle.refusals.specs.Verdicts.{nowhere, Check}
use Rattle.tables.specs.declared.Table.TheVariants.{Block}
use Rattle.book.specs.Book.{knows}
use Rattle.book.specs.Room.{book_of}
use Rattle.keeping.specs.Keeping.{keeps_rule}
use Rattle.keeping.proofs.Keeping.{keeps_sound}
use Rattle.questions.specs.Calls.{block_answered}
use Rattle.questions.proofs.Answers as answers
use Rattle.questions.proofs.block_answer.Goals as goal

pub returns-then-not-keeps_rule : goal.returns-then-not-keeps_rule
returns-then-not-keeps_rule c =
    let st = c in
    let xs = st.args.book.now in
    let a = st.args in
    c.no_block.ensures ∙ ap (λ (k : Check). block_answered (nowhere k) (replicate 7 0)) c.bad_loan.ensures
    ∙ answers.block_bad xs a.version a.day_type a.depot a.block (sym c.keeps_rule.ensures ∙ c.if-not-keeps_rule.true)

pub knowing-requires : goal.knowing-requires
knowing-requires c =
    let st = c in
    keeps_sound st.args.book.now (sym c.keeps_rule.ensures ∙ c.if-not-keeps_rule.false)

pub returns-then-not-knowing : goal.returns-then-not-knowing
returns-then-not-knowing c =
    let kn = c in
    let st = kn in
    let xs = st.args.book.now in
    let a = st.args in
    let keeps : keeps_rule xs ≡ true = sym kn.keeps_rule.ensures ∙ kn.if-not-keeps_rule.false in
    let here = ap (λ (r : Row). knows Block r (book_of xs)) (sym kn.block_key-key.ensures) ∙ sym kn.knowing.ensures ∙ c.if-not-knowing.true in
    c.no_block-then-not-knowing.ensures ∙ ap (λ (k : Check). block_answered (nowhere k) (replicate 7 0)) c.not_there.ensures ∙ answers.block_missing xs a.version a.day_type a.depot a.block keeps here

pub block_of-requires : goal.block_of-requires
block_of-requires c =
    let kn = c in
    let st = kn in
    keeps_sound st.args.book.now (sym kn.keeps_rule.ensures ∙ kn.if-not-keeps_rule.false)

pub returns : goal.returns
returns c =
    let kn = c in
    let st = kn in
    let xs = st.args.book.now in
    let a = st.args in
    let keeps : keeps_rule xs ≡ true = sym kn.keeps_rule.ensures ∙ kn.if-not-keeps_rule.false in
    let here = ap (λ (r : Row). knows Block r (book_of xs)) (sym kn.block_key-key.ensures) ∙ sym kn.knowing.ensures ∙ c.if-not-knowing.false in
    rw (c.seven_numbers.ensures, c.block_of.ensures, kn.block_key-key.ensures) (answers.block_there xs a.version a.day_type a.depot a.block (keeps_sound xs keeps) keeps here)
