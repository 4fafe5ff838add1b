-- `table_reading::take_line` meets its contract: the shelf has the table's room. Assumes nothing.
use mathlib.Core.Path.{sym, ◌∙◌}
use native.Mathlib.Omega.{arith}
use borrow.Author.Rules.{rules}
use Rattle.tables.proofs.Parts.{room_most}
use Rattle.table_reading.proofs.Taking.{prefix_long}
use Rattle.table_reading.proofs.take_line.Goals as goal

pub slice_bounds-slots-end : goal.slice_bounds-slots-end
slice_bounds-slots-end c = omega (arith, c.room-room.ensures, room_most c.args.t)

pub slice_bounds-order-end : goal.slice_bounds-order-end
slice_bounds-order-end c = omega (arith, c.room-room.ensures, room_most c.args.t)

pub slice_bounds-shelve_line-end : goal.slice_bounds-shelve_line-end
slice_bounds-shelve_line-end c = prefix_long c.room-room.result 800 _ (search rules) (omega (arith, c.room-room.ensures, room_most c.args.t))

pub slice_bounds-shelve_line-end-2 : goal.slice_bounds-shelve_line-end-2
slice_bounds-shelve_line-end-2 c = prefix_long c.room-room.result 800 _ (search rules) (omega (arith, c.room-room.ensures, room_most c.args.t))

pub shelve_line-requires : goal.shelve_line-requires
shelve_line-requires c =
    (c.requires.0, c.requires.1, c.requires.2, sym (prefix_long c.room-room.result 800 _ (search rules) (omega (arith, c.room-room.ensures, room_most c.args.t))) ∙ c.room-room.ensures, sym (prefix_long c.room-room.result 800 _ (search rules) (omega (arith, c.room-room.ensures, room_most c.args.t))) ∙ c.room-room.ensures)
