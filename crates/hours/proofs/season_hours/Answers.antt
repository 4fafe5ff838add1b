-- `hours::season_hours` meets its contract: 16, 15, 23, or the season in hours. Assumes nothing.
use Rattle.hours.proofs.Answers.{season_fits, season_there}
use Rattle.hours.proofs.season_hours.Goals as goal

pub hours-hours-requires : goal.hours-hours-requires
hours-hours-requires c =
    let a = c.args in
    rw c.season_answer-found.ensures (season_fits a.book.now a.version a.number a.first a.last)

pub returns : goal.returns
returns c =
    let a = c.args in
    let f = c.season_answer-found in
    season_there a.book.now a.version a.number a.first a.last f.result c.hours-hours.result f.ensures c.hours-hours.ensures
