use mathlib.Core.Path.{◌≡◌, refl, sym, ◌∙◌}
use mathlib.Core.List.{[]}
use Prim.Native.Nat.{◌≤◌, ◌<◌}
use native.Mathlib.Omega.{arith}
use lib.ListN.{length, get_or}
use Rattle.cells.specs.Cells.{cut, cells_of}
use Rattle.header.specs.Header.{header, repeated}
use Rattle.header.specs.Heading.{header_places}
use Rattle.header.proofs.Names.{walked_none, walked_twice, walked_next, walked_noted, walked_once, header_length, name_read, name_few}
use Rattle.header.proofs.note_names.Goals as goal
use Rattle.header.proofs.note_names.Goals.{After-column_of-column}

-- the cell that is walked names its column
named : (c : After-column_of-column) → get_or (header c.args.edition c.args.t (cells_of (cut c.args.edition c.args.line.now))) c.names.i 0 ≡ c.column_of-column.result
named c =
    let a = c.args in
    name_read a.edition a.t (cells_of (cut a.edition a.line.now)) c.names.i c.cell_of.result.now c.stretch_of.result.now c.column_of-column.result (omega (arith, c.requires.counted)) c.cell_of.ensures c.stretch_of.ensures c.column_of-column.ensures

few : (c : After-column_of-column) → c.column_of-column.result < header_places
few c = name_few c.args.edition c.args.t c.stretch_of.result.now c.column_of-column.result c.column_of-column.ensures

inside : (c : After-column_of-column) → c.names.i < length (header c.args.edition c.args.t (cells_of (cut c.args.edition c.args.line.now)))
inside c = omega (arith, header_length c.args.edition c.args.t (cells_of (cut c.args.edition c.args.line.now)), c.requires.counted)

pub names-init : goal.names-init
names-init c =
    let a = c.args in
    (walked_none (header a.edition a.t (cells_of (cut a.edition a.line.now))) a.cells (sym (header_length a.edition a.t (cells_of (cut a.edition a.line.now)) ∙ c.requires.counted)), refl)

pub comes_again-requires : goal.comes_again-requires
comes_again-requires c = few (goal.at.comes_again-requires c).After-column_of-column

pub note-at-requires : goal.note-at-requires
note-at-requires c = few (goal.at.note-at-requires c).After-column_of-column

pub names-preserved : goal.names-preserved
names-preserved c =
    let a = c.args in
    let here = (goal.at.names-preserved c).After-column_of-column in
    (walked_next (header a.edition a.t (cells_of (cut a.edition a.line.now))) c.names.at c.names.i c.column_of-column.result c.names.invariant.0 (inside here) (named here) (few here) c.note-at.result (sym c.comes_again.ensures ∙ c.if-comes_again.false) c.note-at.ensures, c.names.invariant.1)

pub returns-then-comes_again : goal.returns-then-comes_again
returns-then-comes_again c =
    let a = c.args in
    let h = header a.edition a.t (cells_of (cut a.edition a.line.now)) in
    let here = (goal.at.returns-then-comes_again c).After-column_of-column in
    let p : (repeated [] h ≡ c.column_of-column.result) × (0 < c.column_of-column.result) = walked_twice h c.names.at c.names.i c.column_of-column.result c.names.invariant.0 (inside here) (named here) (few here) (sym c.comes_again.ensures ∙ c.if-comes_again.true) in
    record { twice = sym p.0; noted = λ z. absurd (omega (arith, z, p.1)) }

pub returns-after-names : goal.returns-after-names
returns-after-names c =
    let a = c.args in
    let h = header a.edition a.t (cells_of (cut a.edition a.line.now)) in
    let w = c.names.invariant.0 in
    let l : length h ≤ c.names.i = omega (arith, header_length a.edition a.t (cells_of (cut a.edition a.line.now)), c.requires.counted) in
    record {
      twice = c.names.invariant.1 ∙ sym (walked_once h c.names.at c.names.i w l);
      noted = λ z. walked_noted h c.names.at c.names.i w l;
    }
