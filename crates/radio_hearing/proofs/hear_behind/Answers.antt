-- `radio_hearing::hear_behind` meets its contract: the rows that are finished, then what is left. Assumes nothing.
use mathlib.Core.Path.{sym, subst, ◌∙◌}
use mathlib.Core.List.{[]}
use Prim.Native.Nat.{◌-◌, ◌≤◌}
use native.Mathlib.Omega.{arith}
use lib.ListN.{length, take, drop}
use Rattle.editions.specs.declared.Edition.{Edition}
use Rattle.radio_lines.specs.Lines.{kept, Finished}
use Rattle.radio_lines.proofs.Bytes.{to_end}
use Rattle.radio_hearing.proofs.Bytes.{length_most}
use Rattle.radio_hearing.proofs.Lines.{edition_stays, tail_feedless, stays_stopped, goes_on, over_parted, parted_end}
use Rattle.radio_hearing.proofs.hear_behind.Goals as goal

pub edition_of-edition-requires : goal.edition_of-edition-requires
edition_of-edition-requires c = c.requires.0.sound.long

pub hear_rows-heard-requires : goal.hear_rows-heard-requires
hear_rows-heard-requires c =
    let st = c in
    let part = st.args.part.now in
    let found = c.behind_rows-end in
    let body = take (found.result - st.args.start) (drop st.args.start part) in
    let few : length body ≤ found.result - st.args.start = length_most (found.result - st.args.start) (drop st.args.start part) in
    (st.requires.0, st.requires.2, omega (arith, few, st.requires.3, st.requires.1, found.ensures.low, found.ensures.high), st.requires.4, subst (λ (x : Edition). Finished x [] body) c.edition_of-edition.ensures found.ensures.finished)

pub keep_tail-requires : goal.keep_tail-requires
keep_tail-requires c =
    let st = c in
    let part = st.args.part.now in
    let found = c.behind_rows-end in
    let rows = c.hear_rows-heard in
    let going = c.in-Ok.is in (
      rows.ensures.0.holds going,
      tail_feedless c.edition_of-edition.result _ (c.edition_of-edition.ensures ∙ sym (edition_stays st.args.t _ st.args.from rows.result st.args.book.now _ st.args.lines.now _ rows.ensures.0 going))
          st.args.lines.now (drop found.result part) _ rows.result.rest rows.ensures.1 (to_end part found.result) found.ensures.feedless,
    )

pub returns-in-Err : goal.returns-in-Err
returns-in-Err c =
    let st = c in
    let part = st.args.part.now in
    let found = c.behind_rows-end in
    let rows = c.hear_rows-heard in
    let whole = over_parted st.args.t _ _ _ (kept st.args.from st.args.book.now st.args.lines.now) (parted_end part st.args.start found.result found.ensures.low) in
    stays_stopped st.args.t _ _ _ whole rows.result _ _ rows.ensures.0 _ c.in-Err.is _ _

pub returns-in-Ok : goal.returns-in-Ok
returns-in-Ok c =
    let st = c in
    let part = st.args.part.now in
    let found = c.behind_rows-end in
    let rows = c.hear_rows-heard in
    let whole = over_parted st.args.t _ _ _ (kept st.args.from st.args.book.now st.args.lines.now) (parted_end part st.args.start found.result found.ensures.low) in
    goes_on st.args.t _ _ _ whole rows.result _ _ rows.ensures.0 c.in-Ok.is _ _ c.keep_tail.result c.keep_tail.ensures
