-- `seasons::season_answer` meets its contract: 16, 15, 23, or the season. Assumes nothing.
use mathlib.Core.Bool.{true}
use mathlib.Core.Path.{◌≡◌, sym, ap, ◌∙◌}
use Rattle.words.specs.Words.{Row}
use Rattle.refusals.specs.Verdicts.{nowhere, Check}
use Rattle.tables.specs.declared.Table.TheVariants.{VehicleType}
use Rattle.book.specs.Book.{knows}
use Rattle.book.specs.Room.{book_of}
use Rattle.keeping.specs.Keeping.{keeps_rule}
use Rattle.keeping.proofs.Keeping.{keeps_sound}
use Rattle.seasons.specs.Calls.{season_answered}
use Rattle.seasons.proofs.Answers.{season_bad, season_missing, season_dateless, season_there}
use Rattle.seasons.proofs.season_answer.Goals as goal

pub returns-then-not-keeps_rule : goal.returns-then-not-keeps_rule
returns-then-not-keeps_rule c =
    let a = c.args in
    c.no_season.ensures ∙ ap (λ (k : Check). season_answered (nowhere k) 0) c.bad_loan.ensures
    ∙ season_bad a.book.now a.version a.number a.first a.last (sym c.keeps_rule.ensures ∙ c.if-not-keeps_rule.true)

pub knowing-requires : goal.knowing-requires
knowing-requires c =
    keeps_sound c.args.book.now (sym c.keeps_rule.ensures ∙ c.if-not-keeps_rule.false)

pub returns-then-not-knowing : goal.returns-then-not-knowing
returns-then-not-knowing c =
    let kn = c in
    let a = kn.args in
    let keeps : keeps_rule a.book.now ≡ true = sym kn.keeps_rule.ensures ∙ kn.if-not-keeps_rule.false in
    let there = ap (λ (r : Row). knows VehicleType r (book_of a.book.now)) (sym kn.key.ensures) ∙ sym kn.knowing.ensures ∙ c.if-not-knowing.true in
    c.no_season-then-not-knowing.ensures ∙ ap (λ (k : Check). season_answered (nowhere k) 0) c.not_there.ensures
    ∙ season_missing a.book.now a.version a.number a.first a.last keeps there

pub returns-then-not-are_dates : goal.returns-then-not-are_dates
returns-then-not-are_dates c =
    let kn = c in
    let a = kn.args in
    let keeps : keeps_rule a.book.now ≡ true = sym kn.keeps_rule.ensures ∙ kn.if-not-keeps_rule.false in
    let there = ap (λ (r : Row). knows VehicleType r (book_of a.book.now)) (sym kn.key.ensures) ∙ sym kn.knowing.ensures ∙ c.if-not-knowing.false in
    c.no_season-then-not-are_dates.ensures ∙ ap (λ (k : Check). season_answered (nowhere k) 0) c.no_date.ensures
    ∙ season_dateless a.book.now a.version a.number a.first a.last keeps there (sym c.are_dates.ensures ∙ c.if-not-are_dates.true)

pub season_of-seconds-requires : goal.season_of-seconds-requires
season_of-seconds-requires c =
    let kn = c in
    sym kn.keeps_rule.ensures ∙ kn.if-not-keeps_rule.false

pub returns : goal.returns
returns c =
    let kn = c in
    let a = kn.args in
    let keeps : keeps_rule a.book.now ≡ true = sym kn.keeps_rule.ensures ∙ kn.if-not-keeps_rule.false in
    let there = ap (λ (r : Row). knows VehicleType r (book_of a.book.now)) (sym kn.key.ensures) ∙ sym kn.knowing.ensures ∙ c.if-not-knowing.false in
    rw c.season_of-seconds.ensures (season_there a.book.now a.version a.number a.first a.last keeps there (sym c.are_dates.ensures ∙ c.if-not-are_dates.false))
