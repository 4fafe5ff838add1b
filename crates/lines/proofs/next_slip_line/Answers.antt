-- `lines::next_slip_line` meets its contract, by whether a line feed ends the line. Assumes nothing.
use Rattle.lines.proofs.Lining.{slip_line_lem}
use Rattle.lines.proofs.next_slip_line.Goals as goal

pub returns : goal.returns
returns c = rw c.behind_feed.ensures (slip_line_lem c.args.text.now c.args.at c.line_feed-end.result c.line_feed-end.ensures)
