-- The next turn. Assumes nothing.
use mathlib.Core.Path.{◌≡◌, refl, ap, sym, ◌∙◌}
use mathlib.Core.List.{List, [], ◌∷◌}
use Prim.Native.Nat.{ℕ, zero, suc, ◌-◌, ◌<◌, ◌≤◌}
use native.Mathlib.Omega.{arith}
use Rattle.words.specs.Words.{Bytes, Row}
use Rattle.refusals.specs.declared.Place.{Place}
use Rattle.std.specs.Prelude.{Ok, Err}
use Rattle.refusals.specs.Verdicts.{Verdict}
use Rattle.book.specs.Room.{laid, book_of}
use Rattle.book.specs.Holding.{result_of}
use Rattle.book.specs.Result.{Result, refused, leaves}
use Rattle.book.proofs.Laying.{laid_book_lem}
use Rattle.radio.specs.Radio.{next}
use Rattle.radio.specs.Room.{Slices, laid_book, laid_fault, two_lines, laid_out, table_at, first_heard, last_heard, all_closed, turn_of}
use Rattle.radio_rule.specs.Lent.{slices}
use Rattle.radio_slices.specs.Numbers.{stopped_slices}
use Rattle.radio_slices.specs.Hearing.{table_of}
use Rattle.radio_slices.proofs.Slices.{slices_are}
use Rattle.radio_slices.specs.Settling.{Settling}

abbrev settled_numbers : ℕ → Result → List ℕ
settled_numbers turn r = turn ∷ 0 ∷ 0 ∷ 0 ∷ 0 ∷ 0 ∷ laid_fault r

settled : (i : ℕ) → i < all_closed → (r : Result) → slices (laid_book r) (settled_numbers (suc i) r) (two_lines [] []) ≡ laid_out (next (table_at i) r)
unfolding laid_out
settled zero h r = refl
settled (suc zero) h r = refl
settled (suc (suc zero)) h r = refl
settled (suc (suc (suc zero))) h r = refl
settled (suc (suc (suc (suc zero)))) h r = refl
settled (suc (suc (suc (suc (suc zero))))) h r = refl
settled (suc (suc (suc (suc (suc (suc i)))))) h r = absurd (omega arith)

module _ (turn : ℕ) (heard : first_heard ≤ turn) (last : turn ≤ last_heard) where
  settled_turn : (r : Result) → slices (laid_book r) (settled_numbers (turn - all_closed) r) (two_lines [] []) ≡ laid_out (next (table_at (turn - first_heard)) r)
  settled_turn r =
      let e : turn - all_closed ≡ suc (turn - first_heard) = omega arith in
      ap (λ (n : ℕ). slices (laid_book r) (settled_numbers n r) (two_lines [] [])) e ∙ settled (turn - first_heard) (omega arith) r

  pub settled_fault : (v : Verdict) (book : List Row) (p : Place) → v ≡ Err p → (s : Slices) → s ≡ stopped_slices (turn - all_closed) 0 0 p
      → s ≡ laid_out (next (table_at (turn - first_heard)) (result_of v book))
  settled_fault v book p e s f = f ∙ settled_turn (refused p) ∙ ap (λ (w : Verdict). laid_out (next (table_at (turn - first_heard)) (result_of w book))) (sym e)

module _ (v : Verdict) (b : List Row) (k : List ℕ) (l : Bytes) (s : Settling v b k l) where
  pub settled_book : v ≡ Ok tt → (m : List ℕ) (n : Bytes) → m ≡ settled_numbers (turn_of k - all_closed) (leaves (book_of b)) → n ≡ two_lines [] []
      → slices b m n ≡ laid_out (next (table_of k) (result_of v b))
  settled_book e m n p q =
      slices_are b (laid (book_of b)) m (settled_numbers (turn_of k - all_closed) (leaves (book_of b))) n (two_lines [] []) (sym (laid_book_lem b (s.sound e))) p q
      ∙ settled_turn (turn_of k) s.heard s.last (leaves (book_of b))
      ∙ ap (λ (w : Verdict). laid_out (next (table_of k) (result_of w b))) (sym e)
