-- What request 7/13, counting by calendar, asks, as statements over the definitions. Each is a type; whoever has an element of it has a proof.
use Rattle.std.specs.Prelude.{◌≡◌, List, [], ◌∷◌, true, false, ◌&&◌, not, ℕ, suc, ◌+◌, ◌≤◌, ◌<◌, length, Some}
use Rattle.words.specs.Words.{Bytes, Row}
use Rattle.refusals.specs.Verdicts.{◌when◌, ◌before◌, nowhere, not_there, no_date}
use Rattle.editions.specs.Editions.{choice}
use Rattle.editions.specs.declared.Edition.{Edition}
use Rattle.dates.specs.Calendar.{is_date}
use Rattle.rows.specs.Rows.{stands}
use Rattle.tables.specs.Parts.{book_rows}
use Rattle.tables.specs.declared.Table.TheVariants.{VehicleType, Block, Calendar}
use Rattle.book.specs.Book.{Book}
use Rattle.book.specs.Result.{leaves}
use Rattle.book.specs.Room.{laid}
use Rattle.delivery.specs.Calls.{read_call}
use Rattle.delivery.specs.Delivery.{Delivery, reading, Left}
use Rattle.slips.specs.Calls.{work_rows}
use Rattle.seasons.specs.Seasons.{runs, season}
use Rattle.seasons.specs.Calls.{season_answered, season_call}
use Rattle.writer.specs.Writing.{written}
use Rattle.questions.specs.Questions.{total}
use Rattle.promises.specs.Promises.{rows_of, run, with_blocks, slips_called, some_slip, touches, RunStores}

-- demand 2: a season sum of an accepted delivery's book is that of its texts' rows
abbrev pub SeasonsExactly : Type 0
SeasonsExactly = (e : Edition) (d : Delivery) (b : Book) (first last version type : ℕ) → reading e d ≡ leaves b →
    season first last version type b.blocks b.days ≡ season first last version type (rows_of e Block d.blocks) (rows_of e Calendar d.days)

-- so the question on the lent book answers from the rows of the texts: 15, 23, or the sum
abbrev pub SeasonsAnswered : Type 0
SeasonsAnswered = (e : Edition) (d : Delivery) (b : Book) (version type first last : ℕ) → reading e d ≡ leaves b →
    let there = stands 2 (version ∷ type ∷ []) (rows_of e VehicleType d.types) in
    season_call (laid b) version type first last
    ≡ season_answered (nowhere (not_there when not there) before nowhere (no_date when not (is_date first && is_date last)))
    (season first last version type (rows_of e Block d.blocks) (rows_of e Calendar d.days))

-- demand 3: "After slips the season sums equal the fresh ones too." Behind a reading and any run of slip calls, some refused, the question answers
-- as behind a reading afresh of the delivery with its block rows as the accepted slips leave them
abbrev pub SeasonsAfresh : Type 0
SeasonsAfresh = (n : ℕ) (e : Edition) (d : Delivery) (b : Book) (ss : List Bytes) (book work : List Row) (version type first last : ℕ) →
    choice n ≡ Some e → reading e d ≡ leaves b → length book ≡ book_rows → length work ≡ work_rows →
    season_call (slips_called ss (read_call n d book).book work) version type first last
    ≡ season_call (read_call n (with_blocks (written (run ss b)) d) book).book version type first last

-- "What no accepted slip touches keeps its answers"
abbrev pub SeasonsKept : Type 0
SeasonsKept = (b : Book) (ss : List Bytes) (version type first last : ℕ) → Left b → some_slip (touches version type) ss b ≡ false →
    season_call (laid (run ss b)) version type first last ≡ season_call (laid b) version type first last

-- the year's fault, in a season: behind a run of slips the sum has what the accepted slips brought and not what they took away, each row as it
-- stood when it was taken
abbrev pub SeasonsShared : Type 0
SeasonsShared = (first last version type : ℕ) (days : List Row) → RunStores run (λ blocks. season first last version type blocks days)

-- a span is the sum of its two halves, of which the second begins on the date that follows the first one's last: whatever book is lent
abbrev pub SpansAdded : Type 0
SpansAdded = (book : List Row) (version type first mid next last : ℕ) → is_date first ≡ true → is_date mid ≡ true → is_date next ≡ true → is_date last ≡ true →
    first ≤ suc mid → mid < next → next ≤ suc last → ((day : ℕ) → mid < day → day < next → is_date day ≡ false) →
    (season_call book version type first last).seconds ≡ (season_call book version type first mid).seconds + (season_call book version type next last).seconds
