-- `table_reading::take_rows` meets its contract: the shelf has the table's room. Assumes nothing.
use mathlib.Core.Path.{sym, ◌∙◌}
use native.Mathlib.Omega.{arith}
use borrow.Author.Rules.{rules}
use Rattle.tables.proofs.Parts.{room_most}
use Rattle.table_reading.proofs.Taking.{prefix_long}
use Rattle.table_reading.proofs.take_rows.Goals as goal

pub slice_bounds-slots-end : goal.slice_bounds-slots-end
slice_bounds-slots-end c = omega (arith, c.room-room.ensures, room_most c.args.t)

pub slice_bounds-order-end : goal.slice_bounds-order-end
slice_bounds-order-end c = omega (arith, c.room-room.ensures, room_most c.args.t)

pub slice_bounds-shelve_rows-end : goal.slice_bounds-shelve_rows-end
slice_bounds-shelve_rows-end c = prefix_long c.room-room.result 800 _ (search rules) (omega (arith, c.room-room.ensures, room_most c.args.t))

pub slice_bounds-shelve_rows-end-2 : goal.slice_bounds-shelve_rows-end-2
slice_bounds-shelve_rows-end-2 c = prefix_long c.room-room.result 800 _ (search rules) (omega (arith, c.room-room.ensures, room_most c.args.t))

pub shelve_rows-requires : goal.shelve_rows-requires
shelve_rows-requires c =
    (c.requires.0, c.requires.1, c.requires.2, c.requires.3, sym (prefix_long c.room-room.result 800 _ (search rules) (omega (arith, c.room-room.ensures, room_most c.args.t))) ∙ c.room-room.ensures, sym (prefix_long c.room-room.result 800 _ (search rules) (omega (arith, c.room-room.ensures, room_most c.args.t))) ∙ c.room-room.ensures)
