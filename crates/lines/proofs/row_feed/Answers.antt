-- `lines::row_feed` meets its contract, by edition. Assumes nothing.
use mathlib.Core.Path.{◌∙◌, ap}
use Prim.Native.Nat.{ℕ, ◌+◌}
use lib.ListN.{drop}
use Rattle.lines.proofs.Lining.{feed_plain}
use Rattle.lines.proofs.row_feed.Goals as goal

pub returns-in-Dino21 : goal.returns-in-Dino21
returns-in-Dino21 c = let a = c.args in rw c.in-Dino21.is (c.line_feed.ensures ∙ ap (λ (n : ℕ). a.at + n) (feed_plain a.state (drop a.at a.text.now)))
