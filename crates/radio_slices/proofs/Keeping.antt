-- What slices that keep the rule have. Assumes nothing.
use mathlib.Core.Path.{◌≡◌, sym, ◌∙◌}
use mathlib.Core.List.{List}
use mathlib.Core.Bool.{true}
use Prim.Native.Nat.{ℕ, ◌≤◌}
use lib.ListN.{length}
use Rattle.words.specs.Words.{Bytes, Row}
use Rattle.tables.specs.Parts.{book_rows}
use Rattle.book.specs.Room.{book_of}
use Rattle.radio.specs.Room.{fits, keeps_radio, radio_numbers, radio_bytes, flag_of}
use Rattle.radio.proofs.Laying.{handed}
use Rattle.radio_rule.specs.Lent.{slices}
use Rattle.radio_rule.specs.Testing.{numbers_keep, lines_keep, book_keeps}
use Rattle.radio_rule.proofs.Faults.{flag_small}
use Rattle.radio_rule.proofs.Numbers.{Numbers, numbers, and_three}
use Rattle.radio_rule.proofs.Rule.{book_fits, numbers_fit, lines_fit, rule_tested}

module _ (b : List Row) (k : List ℕ) (l : Bytes) (keeps : keeps_radio (slices b k l) ≡ true) where
  pub fit : fits (slices b k l) ≡ true
  fit = (handed (slices b k l) keeps).fit

  pub book_long : length b ≡ book_rows
  book_long = book_fits b k l fit

  pub numbers_long : length k ≡ radio_numbers
  numbers_long = numbers_fit b k l fit

  pub lines_long : length l ≡ radio_bytes
  lines_long = lines_fit b k l fit

  pub numbers_kept : Numbers k
  numbers_kept = numbers k (and_three (numbers_keep k) (lines_keep (book_of b).edition k l) (book_keeps k b) (sym (rule_tested (slices b k l) fit) ∙ keeps)).0

  -- whether there is a fault is 0 or 1
  pub fault_flag : flag_of k ≤ 1
  fault_flag = flag_small k numbers_kept.faults
