-- `table_reading::shelve_line` meets its contract: what the line leaves on the shelf is laid out where it is accepted. Assumes nothing.
use mathlib.Core.Path.{ap, ◌∙◌, sym}
use Prim.Native.Nat.{ℕ}
use native.Mathlib.Omega.{arith}
use Rattle.std.proofs.lemmas.Result.{err_from_is_err_and}
use native.Mathlib.Numerals.{add-one}
use borrow.Author.Rules.{rules}
use Rattle.editions.specs.declared.Edition.{Edition}
use Rattle.tables.specs.Listing.{listed}
use Rattle.row_line.specs.Judging.{read}
use Rattle.refusals.specs.Verdicts.{placed}
use Rattle.tables.proofs.Parts.{room_most}
use Rattle.book.specs.Room.{book_of}
use Rattle.rules.proofs.Points.{referable}
use Rattle.intake.proofs.Shelving.{shelf_most}
use Rattle.table_reading.proofs.Taking.{laid_next, check_passes, line_accepted, line_refused}
use Rattle.table_reading.proofs.shelve_line.Goals as goal

pub edition_of-edition-requires : goal.edition_of-edition-requires
edition_of-edition-requires c = c.requires.1.long

pub shelve-n-requires : goal.shelve-n-requires
shelve-n-requires c =
    let st = c in
    let r = referable st.args.t (book_of st.args.book.now) st.requires.2 in
    search rules

pub read_row-read-requires : goal.read_row-read-requires
read_row-read-requires c = (c.requires.0.rules ∙ ap (λ (d : Edition). listed d c.args.t) (sym c.edition_of-edition.ensures), omega (arith, c.requires.0.few))

pub take_row-check-requires : goal.take_row-check-requires
take_row-check-requires c =
    let st = c in
    let headed = st.requires.0.headed in
    (c.shelve-n.ensures.0, (headed.0, (st.args.line.now, c.read_row-read.ensures headed.0 headed.1 ∙ ap (λ (d : Edition). read d st.args.t headed.0 st.args.line.now) c.edition_of-edition.ensures)))

pub overflow_add-n : goal.overflow_add-n
overflow_add-n c =
    let st = c in
    let n = c.shelve-n.result in
    omega (arith, shelf_most st.args.t st.args.book.now _ _ n c.shelve-n.ensures.0, room_most st.args.t)

pub lay_table-requires : goal.lay_table-requires
lay_table-requires c =
    let placed-so = c.placed.ensures in
    rw add-one (c.take_row-check.ensures.on (check_passes _ _ _ _ placed-so c.in_ok-placed.was))

pub returns : goal.returns
returns c =
    let st = c in
    let n = c.shelve-n.result in
    let taken = c.take_row-check in
    let placed-so = c.placed.ensures ∙ ap (λ (k : ℕ). placed k st.args.i taken.result) c.number.ensures in
    let accepted = c.in_ok-placed.was in
    let left = laid_next st.args.t st.args.book.now _ _ n (taken.ensures.on (check_passes _ _ _ _ placed-so accepted)) _ c.lay_table.ensures in
    line_accepted st.args.t st.args.at.now st.args.line.now st.args.i st.args.book.now _ _ c.shelve-n.ensures.1 taken.result _ placed-so st.requires.0.headed st.requires.2
    (λ h kept. taken.ensures.taken h st.args.line.now (c.read_row-read.ensures h kept ∙ ap (λ (d : Edition). read d st.args.t h st.args.line.now) c.edition_of-edition.ensures)) accepted _ left

pub returns-in_err-placed : goal.returns-in_err-placed
returns-in_err-placed c =
    let st = c in
    let taken = c.take_row-check in
    let placed-so = c.placed.ensures ∙ ap (λ (k : ℕ). placed k st.args.i taken.result) c.number.ensures in
    let p = err_from_is_err_and c.from_residual.result c.from_residual.ensures.1 in
    rw (p.1, p.2) (line_refused st.args.t st.args.at.now st.args.line.now st.args.i st.args.book.now _ _ c.shelve-n.ensures.1 taken.result _ placed-so st.requires.0.headed st.requires.2
    (λ h kept. taken.ensures.taken h st.args.line.now (c.read_row-read.ensures h kept ∙ ap (λ (d : Edition). read d st.args.t h st.args.line.now) c.edition_of-edition.ensures)) _ c.in_err-placed.was st.requires.1)
