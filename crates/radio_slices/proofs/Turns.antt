-- What the slices keep, by the turn. Assumes nothing.
use mathlib.Core.Path.{◌≡◌, ap, sym, ◌∙◌}
use mathlib.Core.Bool.{true}
use Prim.Native.Nat.{◌-◌, ◌<◌, ◌≤◌}
use native.Mathlib.Omega.{arith}
use borrow.Author.Tests.{lt-ltb, le-ltb, eq-eqb, ne_eqb}
use Rattle.radio.specs.Radio.{awaits, hears, over}
use Rattle.radio.specs.Rule.{lawful_radio}
use Rattle.radio.specs.Room.{Slices, table_at, result_in, course_in, radio_in, keeps_radio, first_heard, all_closed, turn_of, announced_of, come_of}
use Rattle.radio.proofs.Laying.{handed}
use Rattle.radio.proofs.Lawful.{Heard, heard_of}
use Rattle.radio_slices.specs.Hearing.{table_of}

module _ (s : Slices) where
  pub is_awaited : turn_of s.numbers < all_closed → radio_in s ≡ awaits (table_at (turn_of s.numbers)) (result_in s)
  unfolding radio_in
  is_awaited h = rw (lt-ltb (turn_of s.numbers) all_closed h)

  pub is_over : turn_of s.numbers ≡ all_closed → radio_in s ≡ over (result_in s)
  unfolding radio_in
  is_over e = rw (le-ltb (turn_of s.numbers) all_closed (omega arith), eq-eqb (turn_of s.numbers) all_closed e)

  pub is_heard : first_heard ≤ turn_of s.numbers → radio_in s ≡ hears (table_at (turn_of s.numbers - first_heard)) (announced_of s.numbers) (come_of s.numbers) (course_in s)
  unfolding radio_in
  is_heard h = let n : turn_of s.numbers ≡ all_closed → ⊥ = λ e. omega arith in rw (le-ltb (turn_of s.numbers) all_closed (omega arith), ne_eqb (turn_of s.numbers) all_closed n)

module _ (s : Slices) (keeps : keeps_radio s ≡ true) (h : first_heard ≤ turn_of s.numbers) where
  -- the counts and what is kept of the table keep the rule
  pub heard_keeps_lem : Heard (table_of s.numbers) (announced_of s.numbers) (come_of s.numbers) (course_in s)
  heard_keeps_lem = heard_of (table_of s.numbers) (announced_of s.numbers) (come_of s.numbers) (course_in s) (ap lawful_radio (sym (is_heard s h)) ∙ (handed s keeps).lawful)
