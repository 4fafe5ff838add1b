-- What demands 2 and 3 say of the hours of request 8/13. Each is a type; whoever has an element of it has a proof. How near the hours are to the seconds is
-- claimed in hours/specs/Claims.antt.
use Rattle.std.specs.Prelude.{◌≡◌, List, false, ℕ, length, Some}
use Rattle.words.specs.Words.{Bytes, Row}
use Rattle.editions.specs.Editions.{choice}
use Rattle.editions.specs.declared.Edition.{Edition}
use Rattle.tables.specs.Parts.{book_rows}
use Rattle.book.specs.Book.{Book}
use Rattle.book.specs.Result.{leaves}
use Rattle.book.specs.Room.{laid}
use Rattle.delivery.specs.Calls.{read_call}
use Rattle.delivery.specs.Delivery.{Delivery, reading, Left}
use Rattle.slips.specs.Calls.{work_rows}
use Rattle.hours.specs.Calls.{hours_call, season_hours_call}
use Rattle.writer.specs.Writing.{written}
use Rattle.promises.specs.Promises.{run, with_blocks, slips_called, some_slip, touches}

-- demand 3: behind a reading and any run of slip calls, some refused, the hours are those behind a reading afresh of the delivery with its block rows
-- as the accepted slips leave them
abbrev pub HoursAfresh : Type 0
HoursAfresh = (n : ℕ) (e : Edition) (d : Delivery) (b : Book) (ss : List Bytes) (book work : List Row) (version type : ℕ) →
    choice n ≡ Some e → reading e d ≡ leaves b → length book ≡ book_rows → length work ≡ work_rows →
    (hours_call (slips_called ss (read_call n d book).book work) version type ≡ hours_call (read_call n (with_blocks (written (run ss b)) d) book).book version type)
    × ((first last : ℕ) →
    season_hours_call (slips_called ss (read_call n d book).book work) version type first last
    ≡ season_hours_call (read_call n (with_blocks (written (run ss b)) d) book).book version type first last)

-- "What no accepted slip touches keeps its answers", to the last bit of the clerk's sum
abbrev pub HoursKept : Type 0
HoursKept = (b : Book) (ss : List Bytes) (version type : ℕ) → Left b → some_slip (touches version type) ss b ≡ false →
    (hours_call (laid (run ss b)) version type ≡ hours_call (laid b) version type)
    × ((first last : ℕ) → season_hours_call (laid (run ss b)) version type first last ≡ season_hours_call (laid b) version type first last)
