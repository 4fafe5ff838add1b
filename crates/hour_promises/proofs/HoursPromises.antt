-- Hours: the fresh ones behind slips, and kept where no slip touches them. Assumes nothing.
use mathlib.Core.Path.{◌≡◌, refl, ap, sym, ◌∙◌}
use mathlib.Core.List.{List, [], ◌∷◌}
use mathlib.Core.Bool.{Bool, true, false}
use Prim.Native.Nat.{ℕ}
use Rattle.words.specs.Words.{Row}
use Rattle.book.specs.Book.{Book}
use Rattle.book.specs.Room.{book_of, laid}
use Rattle.book.proofs.Laying.{book_laid}
use Rattle.questions.specs.Questions.{of_type, total}
use Rattle.questions.specs.Calls.{type_call}
use Rattle.questions.specs.declared.TypeAnswer.{TypeAnswer}
use Rattle.rules.specs.Rules.{seconds}
use Rattle.seasons.specs.Calls.{season_call}
use Rattle.seasons.specs.Seasons.{runs, season}
use Rattle.seasons.specs.declared.SeasonAnswer.{SeasonAnswer}
use Rattle.hour_numbers.specs.Hours.{hours_of, clerk}
use Rattle.hours.specs.Calls.{seconds_each, hours_answered, hours_call, season_hours_answered, season_hours_call}
use Rattle.hours.specs.declared.HoursAnswer.{HoursAnswer}
use Rattle.promises.specs.Promises.{run}
use Rattle.promises.proofs.RuleLaws.{standing_orderly}
use Rattle.promises.proofs.RulePromises.{left_standing}
use Rattle.promises.proofs.SlipPromises.{type_rows, rows_kept, total_kept, run_left, other_tables_kept, types_kept}
use Rattle.promises.proofs.CallPromises.{calls_read_afresh}
use Rattle.season_promises.proofs.SeasonPromises.{seasons_kept}
use Rattle.hour_promises.specs.Hours.{HoursAfresh, HoursKept}

pub hours_afresh : HoursAfresh
hours_afresh n e d b ss book work version type c r l w =
    let same = (calls_read_afresh n e d b ss book work c r l w).1 in
    (ap (λ (x : List Row). hours_call x version type) same, λ first last. ap (λ (x : List Row). season_hours_call x version type first last) same)

-- the clerk goes over the blocks of the type alone
each_rows : (v n : ℕ) (xs : List Row) → seconds_each v n (type_rows v n xs) ≡ seconds_each v n xs
unfolding seconds_each type_rows
each_rows v n [] = refl
each_rows v n (x ∷ xs) = go (of_type v n x) refl (each_rows v n xs)
  where
    go : (q : Bool) → of_type v n x ≡ q → seconds_each v n (type_rows v n xs) ≡ seconds_each v n xs → seconds_each v n (type_rows v n (x ∷ xs)) ≡ seconds_each v n (x ∷ xs)
    go true e ih = rw e (rw (e, ih))
    go false e ih = rw (e, ih)

pub hours_kept : HoursKept
hours_kept b ss version type l h = (day, span)
  where
    after : Book
    after = run ss b

    old : book_of (laid b) ≡ b
    old = book_laid b (standing_orderly b (left_standing b l))

    new : book_of (laid after) ≡ after
    new = book_laid after (standing_orderly after (left_standing after (run_left b ss l)))

    each : seconds_each version type after.blocks ≡ seconds_each version type b.blocks
    each = sym (each_rows version type after.blocks) ∙ ap (seconds_each version type) (rows_kept b ss version type h) ∙ each_rows version type b.blocks

    said : TypeAnswer → ℕ → List ℕ → HoursAnswer
    said a s ss' = hours_answered a.verdict (hours_of s) (clerk ss')

    day : hours_call (laid after) version type ≡ hours_call (laid b) version type
    day =
        ap (λ (z : Book). said (type_call (laid after) version type) (total seconds version type z.blocks) (seconds_each version type z.blocks)) new
        ∙ ap (λ (a : TypeAnswer). said a (total seconds version type after.blocks) (seconds_each version type after.blocks)) (types_kept b ss version type l h)
        ∙ ap (λ (s : ℕ). said (type_call (laid b) version type) s (seconds_each version type after.blocks)) (total_kept b ss version type h seconds)
        ∙ ap (λ (x : List ℕ). said (type_call (laid b) version type) (total seconds version type b.blocks) x) each
        ∙ sym (ap (λ (z : Book). said (type_call (laid b) version type) (total seconds version type z.blocks) (seconds_each version type z.blocks)) old)

    span : (first last : ℕ) → season_hours_call (laid after) version type first last ≡ season_hours_call (laid b) version type first last
    span first last =
        ap (λ (z : Book). season_hours_answered (season_call (laid after) version type first last).verdict (hours_of (season first last version type z.blocks z.days))) new
        ∙ ap (λ (a : SeasonAnswer). season_hours_answered a.verdict (hours_of (season first last version type after.blocks after.days))) (seasons_kept b ss version type first last l h)
        ∙ ap (λ (z : List Row). season_hours_answered (season_call (laid b) version type first last).verdict (hours_of (season first last version type after.blocks z))) (other_tables_kept b ss l).4
        ∙ ap (λ (s : ℕ). season_hours_answered (season_call (laid b) version type first last).verdict (hours_of s)) (total_kept b ss version type h (runs first last b.days))
        ∙ sym (ap (λ (z : Book). season_hours_answered (season_call (laid b) version type first last).verdict (hours_of (season first last version type z.blocks z.days))) old)
