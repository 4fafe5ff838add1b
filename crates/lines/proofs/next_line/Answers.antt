-- `lines::next_line` meets its contract, by whether a line feed ends the line. Assumes nothing.
use Rattle.lines.proofs.Lining.{line_last, line_fed}
use Rattle.lines.proofs.next_line.Goals as goal

pub returns-then-text-feed : goal.returns-then-text-feed
returns-then-text-feed c =
    let args = c.args in
    rw c.behind_feed-next.ensures (line_last args.edition args.text.now args.at c.row_feed-feed.result c.row_feed-feed.ensures c.if-text-feed.true)

pub returns : goal.returns
returns c =
    let args = c.args in
    let feed = c.row_feed-feed in
    rw c.behind_feed-next.ensures (line_fed args.edition args.text.now args.at feed.result feed.ensures c.if-text-feed.false c.before_return.result (c.before_return.ensures args.edition feed.ensures))
