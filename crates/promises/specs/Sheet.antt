-- What `daysheet` prints.
use Rattle.words.specs.Words.{Bytes}
use Rattle.editions.specs.declared.Edition.{Edition}
use Rattle.book.specs.Result.{Result, refused, leaves, ◌▹◌}
use Rattle.delivery.specs.Delivery.{Delivery, reading}
use Rattle.slips.specs.Slips.{posting}
use Rattle.sheet.specs.Sheet.{sheet_text, refusal_text}

-- the sheet of the book, "or only `X` with number, table, line, column"
abbrev pub printed : Result → Bytes
printed (leaves b) = sheet_text b
printed (refused p) = refusal_text p

-- the delivery read, the slip posted. A file "that cannot be opened counts as empty". "`daysheet` stays with 2.1"
unfoldable pub sheet : Edition → Delivery → Bytes → Bytes
sheet e d slip = printed (reading e d ▹ posting slip)
