-- `radio_hearing::quotes_of` meets its contract: by 2.1 quotes do not matter. Assumes nothing.
use mathlib.Core.Path.{ap}
use Rattle.cells.specs.declared.State.{State}
use Rattle.cells.specs.declared.State.TheVariants.{Fresh}
use Rattle.lines.specs.Lines.{quoting_behind}
use Rattle.lines.specs.Ends.{feed_from}
use Rattle.radio_hearing.proofs.Bytes.{feed_any}
use Rattle.radio_hearing.proofs.quotes_of.Goals as goal

pub returns-in-Dino21 : goal.returns-in-Dino21
returns-in-Dino21 c = rw c.in-Dino21.is (λ s. feed_any Fresh (quoting_behind Fresh c.args.came.now) s)

pub returns-in-Dino23 : goal.returns-in-Dino23
returns-in-Dino23 c = λ s. ap (λ (q : State). feed_from c.args.edition q s) c.quotes_behind.ensures
