-- Lines written cell by cell and row by row. Assumes nothing.
use mathlib.Core.Path.{◌≡◌, refl, ap, sym}
use mathlib.Core.List.{List, [], ◌∷◌, ◌++◌, map}
use Prim.Native.Nat.{ℕ, ◌+◌, ◌≤◌, ◌<◌}
use native.Mathlib.Omega.{arith}
use lib.ListN.{length, take, get_or}
use lib.Seq.{take_all}
use Rattle.words.specs.Words.{Bytes}
use Rattle.words.proofs.Lists.{ended}
use Rattle.cells.proofs.Joining.{ended_room}
use Rattle.writer.specs.Writing.{lines_written}

-- lines are cells with a line feed behind each
pub lines_ended : (ls : List Bytes) → lines_written ls ≡ ended 10 ls
unfolding lines_written ended
lines_ended [] = refl
lines_ended (l ∷ ls) = ap (λ (r : Bytes). l ++ (10 ∷ r)) (lines_ended ls)

-- the lines of all rows, behind the last one
pub all_lines : {A : Type 0} (cell : A → Bytes) (xs : List A) (i : ℕ) → length xs ≤ i → ended 10 (map cell (take i xs)) ≡ lines_written (map cell xs)
all_lines cell xs i h =
    let e = take_all i xs h in
    rw e (sym (lines_ended (map cell xs)))

-- where all lines have room there is room for the next
pub next_fits : {A : Type 0} (cell : A → Bytes) (d : A) (xs : List A) (i at room : ℕ) → i < length xs → at ≡ length (ended 10 (map cell (take i xs)))
    → length (lines_written (map cell xs)) ≤ room → at + (length (cell (get_or xs i d)) + 1) ≤ room
next_fits cell d xs i at room h e f =
    omega (arith, ended_room cell d 10 xs i (length xs) h (omega arith), ap length (all_lines cell xs (length xs) (omega arith)), e, f)
