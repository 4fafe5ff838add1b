-- `lines::before_return` meets its contract, by what stands just before the line feed. Assumes nothing.
use Rattle.lines.proofs.Lining.{end_empty, end_return, end_kept}
use Rattle.lines.proofs.before_return.Goals as goal
use Rattle.lines.proofs.before_return.Goals.{else-at-feed-via-then-at-feed+else-text-feed-eq-CARRIAGE_RETURN, else-at-feed-via-else-at-feed}

pub returns-then-text-feed-eq-CARRIAGE_RETURN : goal.returns-then-text-feed-eq-CARRIAGE_RETURN
returns-then-text-feed-eq-CARRIAGE_RETURN c = λ e h. end_return e c.args.text.now c.args.at c.args.feed h c.if-at-feed.true c.requires c.if-text-feed-eq-CARRIAGE_RETURN.true

pub returns-else-at-feed : goal.returns-else-at-feed
returns-else-at-feed c = λ e h.
    elim c.else-at-feed.branch [
      | else-at-feed-via-then-at-feed+else-text-feed-eq-CARRIAGE_RETURN w ↦ end_kept e c.args.text.now c.args.at c.args.feed h w.if-at-feed.true w.if-text-feed-eq-CARRIAGE_RETURN.false
      | else-at-feed-via-else-at-feed w ↦ end_empty e c.args.text.now c.args.at c.args.feed h w.if-at-feed.false
    ]
