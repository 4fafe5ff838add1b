-- Seasons: the sum of the texts' rows, the fresh one behind slips, and the sum of two halves. Assumes nothing.
use mathlib.Core.Path.{◌≡◌, refl, ap, sym, ◌∙◌}
use mathlib.Core.List.{List, [], ◌∷◌}
use mathlib.Core.Bool.{Bool, true, false, ◌&&◌, not}
use Prim.Native.Nat.{ℕ, ◌+◌, ◌*◌}
use native.Mathlib.Omega.{arith}
use Rattle.words.specs.Words.{Row, whether◌then◌else◌}
use Rattle.refusals.specs.Verdicts.{◌when◌, ◌before◌, nowhere, bad_loan, not_there, no_date}
use Rattle.dates.specs.Calendar.{is_date}
use Rattle.rows.specs.Rows.{column, stands}
use Rattle.tables.specs.declared.Table.TheVariants.{VehicleType, Block, Calendar}
use Rattle.book.specs.Book.{Book, knows}
use Rattle.book.specs.Room.{book_of, laid}
use Rattle.book.proofs.Laying.{book_laid}
use Rattle.rules.specs.Rules.{seconds}
use Rattle.keeping.specs.Keeping.{keeps_rule}
use Rattle.questions.specs.Questions.{total}
use Rattle.day_tally.specs.Days.{falls, days_of}
use Rattle.seasons.specs.Seasons.{runs, season}
use Rattle.seasons.specs.Calls.{season_answered, season_call}
use Rattle.seasons.specs.declared.SeasonAnswer.{SeasonAnswer}
use Rattle.seasons.proofs.Dated.{days_dated}
use Rattle.seasons.proofs.SeasonClaims.{split_dates}
use Rattle.promises.specs.Promises.{rows_of, run}
use Rattle.promises.proofs.TestLaws.{and_both}
use Rattle.promises.proofs.WeighLaws.{Weighs, total_weighs}
use Rattle.promises.proofs.DeliveryLaws.{Standing, left_by}
use Rattle.promises.proofs.RuleLaws.{laid_keeps, standing_orderly}
use Rattle.promises.proofs.RulePromises.{left_standing}
use Rattle.promises.proofs.RowPromises.{keys_exactly, weighed_exactly}
use Rattle.promises.proofs.SlipPromises.{run_left, other_tables_kept, total_kept}
use Rattle.promises.proofs.CallPromises.{calls_read_afresh}
use Rattle.promises.proofs.StorePromises.{shares_stored}
use Rattle.season_promises.specs.Seasons.{SeasonsExactly, SeasonsAnswered, SeasonsAfresh, SeasonsKept, SeasonsShared, SpansAdded}

-- the days of a day type are counted one by one
days_weighs : (first last version kind : ℕ) → Weighs (days_of first last version kind)
unfolding days_of
days_weighs first last version kind = record { one = λ x. whether falls first last version kind x then 1 else 0; nothing = refl; more = λ x xs. refl }

-- blocks that weigh alike one by one do so together
total_alike : (f g : Row → ℕ) (version type : ℕ) → ((x : Row) → f x ≡ g x) → (xs : List Row) → total f version type xs ≡ total g version type xs
unfolding total
total_alike f g version type h [] = refl
total_alike f g version type h (x ∷ xs) = rw (h x, total_alike f g version type h xs)

pub seasons_exactly : SeasonsExactly
seasons_exactly e d b first last version type r =
    let weight : Row → ℕ = runs first last b.days in
    weighed_exactly e d b Block (total weight version type) (total_weighs weight version type) r
    ∙ total_alike weight (runs first last (rows_of e Calendar d.days)) version type
    (λ x. ap (λ (n : ℕ). seconds x * n) (weighed_exactly e d b Calendar (days_of first last (column 1 x) (column 2 x)) (days_weighs first last (column 1 x) (column 2 x)) r)) (rows_of e Block d.blocks)

-- the question on a book that keeps the rule
season_asked_lem : (b : Book) → Standing b → (version type first last : ℕ) →
    season_call (laid b) version type first last
    ≡ season_answered (nowhere (not_there when not (stands 2 (version ∷ type ∷ []) b.types)) before nowhere (no_date when not (is_date first && is_date last))) (season first last version type b.blocks b.days)
season_asked_lem b h version type first last =
    let answer : Bool → Book → SeasonAnswer =
    λ q z. season_answered ((nowhere (bad_loan when not q) before nowhere (not_there when not (knows VehicleType (version ∷ type ∷ []) z))) before nowhere (no_date when not (is_date first && is_date last)))
    (season first last version type z.blocks z.days) in
    ap (λ (q : Bool). answer q (book_of (laid b))) (laid_keeps b h) ∙ ap (λ (z : Book). answer true z) (book_laid b (standing_orderly b h))

pub seasons_answered : SeasonsAnswered
seasons_answered e d b version type first last r =
    let key : Row = version ∷ type ∷ [] in
    let said : Bool → ℕ → SeasonAnswer = λ there s. season_answered (nowhere (not_there when not there) before nowhere (no_date when not (is_date first && is_date last))) s in
    season_asked_lem b (left_by e d b r).standing version type first last
    ∙ ap (λ (z : Bool). said z (season first last version type b.blocks b.days)) (keys_exactly e d b VehicleType key r).0
    ∙ ap (said (stands 2 key (rows_of e VehicleType d.types))) (seasons_exactly e d b first last version type r)

pub seasons_afresh : SeasonsAfresh
seasons_afresh n e d b ss book work version type first last c r l w =
    ap (λ (x : List Row). season_call x version type first last) (calls_read_afresh n e d b ss book work c r l w).1

pub seasons_kept : SeasonsKept
seasons_kept b ss version type first last l h =
    let key : Row = version ∷ type ∷ [] in
    let after : Book = run ss b in
    let others = other_tables_kept b ss l in
    let said : Bool → ℕ → SeasonAnswer = λ there s. season_answered (nowhere (not_there when not there) before nowhere (no_date when not (is_date first && is_date last))) s in
    season_asked_lem after (left_standing after (run_left b ss l)) version type first last
    ∙ ap (λ (z : List Row). said (stands 2 key z) (season first last version type after.blocks after.days)) others.0
    ∙ ap (λ (z : List Row). said (stands 2 key b.types) (season first last version type after.blocks z)) others.4
    ∙ ap (said (stands 2 key b.types)) (total_kept b ss version type h (runs first last b.days))
    ∙ sym (season_asked_lem b (left_standing b l) version type first last)

pub seasons_shared : SeasonsShared
seasons_shared first last version type days = (shares_stored (runs first last days) version type).2

pub spans_added : SpansAdded
spans_added book version type first mid next last f m n l from on to gap = by_rule (keeps_rule book) refl (knows VehicleType (version ∷ type ∷ []) (book_of book))
  where
    b : Book
    b = book_of book

    sum : ℕ → ℕ → ℕ
    sum from to = season from to version type b.blocks b.days

    said : Bool → Bool → ℕ → ℕ → ℕ
    said q there from to =
        (season_answered ((nowhere (bad_loan when not q) before nowhere (not_there when not there)) before nowhere (no_date when not (is_date from && is_date to))) (sum from to)).seconds

    dated : (from to : ℕ) → is_date from ≡ true → is_date to ≡ true → said true true from to ≡ sum from to
    dated from to p q = ap (λ (z : Bool). (season_answered (nowhere (no_date when not z)) (sum from to)).seconds) (and_both (is_date from) (is_date to) p q)

    by_rule : (q : Bool) → keeps_rule book ≡ q → (there : Bool) → said q there first last ≡ said q there first mid + said q there next last
    by_rule false e there = refl
    by_rule true e false = refl
    by_rule true e true =
        omega (
          arith,
          dated first last f l,
          dated first mid f m,
          dated next last n l,
          split_dates first mid next last version type b.blocks b.days (days_dated book e) from on to gap,
        )
