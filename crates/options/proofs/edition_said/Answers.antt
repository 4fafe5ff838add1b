-- A word is compared with each of the two, and with `same` the outcome is the same.
use Rattle.std.proofs.Common.{◌∙◌}
use Rattle.words.specs.Words.{bytes}
use Rattle.options.proofs.Saying.{compared, said_21, said_23, said_none}
use Rattle.options.proofs.edition_said.Goals as goal

pub returns-then-eq : goal.returns-then-eq
unfolding bytes
returns-then-eq c =
    let w = c.args.word.now in
    said_21 w (compared _ w (bytes "--edition=2.1") c.eq.ensures ∙ c.if-eq.true)

pub returns-then-eq-2 : goal.returns-then-eq-2
unfolding bytes
returns-then-eq-2 c =
    let w = c.args.word.now in
    said_23 w (compared _ w (bytes "--edition=2.1") c.eq.ensures ∙ c.if-eq.false) (compared _ w (bytes "--edition=2.3") c.eq-2.ensures ∙ c.if-eq-2.true)

pub returns : goal.returns
unfolding bytes
returns c =
    let w = c.args.word.now in
    said_none w (compared _ w (bytes "--edition=2.1") c.eq.ensures ∙ c.if-eq.false) (compared _ w (bytes "--edition=2.3") c.eq-2.ensures ∙ c.if-eq-2.false)
