-- `sheet::write_refusal` meets its contract: one line. Assumes nothing.
use mathlib.Core.Path.{◌≡◌, sym, ap, ◌∙◌}
use mathlib.Core.List.{[], ◌∷◌}
use native.Mathlib.Omega.{arith}
use lib.ListN.{length, length-append}
use borrow.Author.Rules.{rules}
use Rattle.words.specs.Words.{Bytes, bytes}
use Rattle.refusals.specs.Verdicts.{nowhere, Check}
use Rattle.refusals.specs.declared.Place.{Place}
use Rattle.numbers.specs.Putting.{put}
use Rattle.writer.proofs.Answers.{too_short, all_written}
use Rattle.sheet.specs.Sheet.{sheet_line, refusal_text}
use Rattle.sheet.proofs.Lines.{line_alone}
use Rattle.sheet.proofs.write_refusal.Goals as goal
use Rattle.sheet.proofs.write_refusal.Goals.{After-line_length-size}

abbrev line : Place → Bytes
line p = sheet_line (bytes "X") (p.number ∷ p.table ∷ p.line ∷ p.column ∷ [])

counted : (c : After-line_length-size) → c.line_length-size.result ≡ length (refusal_text c.args.place)
unfolding bytes
counted c =
    let p = c.args.place in
    c.line_length-size.ensures.0 88 ∙ sym (ap length (line_alone (line p)) ∙ simp length-append)

pub returns-then-out-size : goal.returns-then-out-size
returns-then-out-size c =
    let l = c in
    let a = l.args in
    too_short (refusal_text a.place) a.out.now l.line_length-size.result (counted (goal.at.returns-then-out-size c).After-line_length-size) c.unwritten.result.verdict c.unwritten.result.size (omega arith)
    (c.unwritten.ensures.0 ∙ ap (λ (k : Check). nowhere k) c.output_short.ensures) c.unwritten.ensures.1

pub write_line-requires : goal.write_line-requires
write_line-requires c =
    let l = c in
    (search rules, omega (arith, l.line_length-size.ensures.0 88))

pub returns : goal.returns
unfolding bytes
returns c =
    let l = c in
    let a = l.args in
    let w = c.write_line in
    all_written (refusal_text a.place) a.out.now l.line_length-size.result (counted (goal.at.returns c).After-line_length-size) w.new.out (omega arith)
    (w.ensures.1 ∙ ap (λ (t : Bytes). put t a.out.now) (sym (line_alone (line a.place))))
