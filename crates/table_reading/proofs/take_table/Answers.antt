-- `table_reading::take_table` meets its contract: what the top refuses, and the rows behind any other. Assumes nothing.
use mathlib.Core.Path.{subst}
use Rattle.std.proofs.lemmas.Result.{err_from_is_err_and}
use Rattle.book.specs.Room.{book_of}
use Rattle.header.specs.Header.{header_of}
use Rattle.table_reading.proofs.Pointing.{table_left}
use Rattle.table_reading.proofs.Taking.{few_lines, table_refused, table_rows}
use Rattle.editions.specs.declared.Edition.{Edition}
use Rattle.row_line.specs.Judging.{Guided}
use Rattle.table_reading.proofs.take_table.Goals as goal

pub edition_of-edition-requires : goal.edition_of-edition-requires
edition_of-edition-requires c = c.requires.0.long

pub read_top-top-requires : goal.read_top-top-requires
read_top-top-requires c = c.column_rules-columns.ensures

pub slice_bounds-take_rows-count : goal.slice_bounds-take_rows-count
slice_bounds-take_rows-count c = (c.read_top-top.ensures.kept c.in_ok-top.was).inside

pub slice_bounds-take_rows-start : goal.slice_bounds-take_rows-start
slice_bounds-take_rows-start c = (c.read_top-top.ensures.kept c.in_ok-top.was).inside

pub take_rows-taken-requires : goal.take_rows-taken-requires
take_rows-taken-requires c =
    let st = c in
    let top = c.read_top-top in
    let same = c.edition_of-edition.ensures in
    let accepted = c.in_ok-top.was in
    let kept = top.ensures.kept accepted in
    let by-edition : Guided c.edition_of-edition.result st.args.t c.column_rules-columns.result top.result.at =
    record { rules = c.column_rules-columns.ensures; few = kept.few; headed = (header_of c.edition_of-edition.result st.args.t st.args.bytes.now, kept.headed) }
    in (
      subst (λ (d : Edition). Guided d st.args.t c.column_rules-columns.result top.result.at) same by-edition,
      st.requires.0,
      st.requires.1,
      few_lines st.args.t st.args.bytes.now top.result st.args.book.now _ same top.ensures accepted,
    )

pub returns-in_err-top : goal.returns-in_err-top
returns-in_err-top c =
    let st = c in
    let top = c.read_top-top in
    let b = book_of st.args.book.now in
    let is = table_refused st.args.t st.args.bytes.now top.result st.args.book.now _ c.edition_of-edition.ensures top.ensures _ c.in_err-top.was in
    let p = err_from_is_err_and c.from_residual.result c.from_residual.ensures.1 in
    rw (p.1, p.2) (st.requires.0, is, table_left st.args.t st.args.bytes.now b _ is st.requires.1)

pub returns : goal.returns
returns c =
    let st = c in
    let top = c.read_top-top in
    let taken = c.take_rows-taken in
    let b = book_of st.args.book.now in
    let is = table_rows st.args.t st.args.bytes.now top.result st.args.book.now _ c.edition_of-edition.ensures top.ensures c.in_ok-top.was _ taken.result taken.ensures in
    (taken.ensures.sound, is, table_left st.args.t st.args.bytes.now b _ is st.requires.1)
