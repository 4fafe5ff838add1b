-- Lines written cell by cell and row by row. Assumes nothing.
use mathlib.Core.Path.{◌≡◌, ap}
use mathlib.Core.List.{List, [], ◌∷◌, ◌++◌, map}
use Prim.Native.Nat.{ℕ, ◌+◌, ◌<◌, ◌≤◌}
use native.Mathlib.Omega.{arith}
use lib.ListN.{length, take, get_or, length-append}
use lib.Seq.{take_all, take-append_seam, get_or-append_seam}
use Rattle.words.specs.Words.{Bytes}
use Rattle.words.proofs.Lists.{ended}
use Rattle.cells.specs.Cells.{parted}
use Rattle.cells.proofs.Joining.{ended_more, ended_room, parted_closed}
use Rattle.numbers.specs.Numbers.{decimal}
use Rattle.numbers.specs.Putting.{put}
use Rattle.numbers.proofs.Putting.{rest, back, lent}

-- a cell with the byte behind it, put at the head of the rest that is lent: of a row's numbers, of rows, of columns
pub lent_more : {A : Type 0} (cell : A → Bytes) (d : A) (sep : ℕ) (xs : List A) (i : ℕ) → i < length xs → (o p ys : Bytes) (a : ℕ) → a ≡ length (ended sep (map cell (take i xs)))
    → p ≡ put (ended sep (map cell (take i xs))) o → ys ≡ put (cell (get_or xs i d) ++ (sep ∷ [])) (rest p a) → back p a ys ≡ put (ended sep (map cell (take (i + 1) xs))) o
lent_more cell d sep xs i h o p ys a ea ep ey =
    rw (ended_more cell d sep xs i h) (lent (ended sep (map cell (take i xs))) (cell (get_or xs i d) ++ (sep ∷ [])) o p ys a ea ep ey)

-- numbers of which one is the last: all others with the separator behind them, and the last with another byte, are the parted ones and that byte
pub last_closed : (sep end : ℕ) (xs others : List ℕ) (last : ℕ) → xs ≡ others ++ (last ∷ []) → ended sep (map decimal others) ++ (decimal last ++ (end ∷ [])) ≡ parted sep (map decimal xs) ++ (end ∷ [])
last_closed sep end xs others last e =
    let n : length (others ++ (last ∷ [])) ≡ length others + 1 = length-append others (last ∷ []) in
    rw e (simp (take-append_seam, get_or-append_seam) at (parted_closed decimal 0 sep end (others ++ (last ∷ [])) (length others) n))

pub last_room : (sep : ℕ) (xs others : List ℕ) (last : ℕ) → xs ≡ others ++ (last ∷ []) → length (ended sep (map decimal others)) + (length (decimal last) + 1) ≡ length (parted sep (map decimal xs)) + 1
last_room sep xs others last e = simp length-append at (ap length (last_closed sep 0 xs others last e))

-- the number at a place of the others has room
pub cell_room : (sep : ℕ) (xs others : List ℕ) (last i : ℕ) → xs ≡ others ++ (last ∷ []) → i < length others → length (ended sep (map decimal (take i others))) + (length (decimal (get_or others i 0)) + 1) ≤ length (parted sep (map decimal xs)) + 1
cell_room sep xs others last i e h =
    let all : take (length others) others ≡ others = take_all (length others) others (omega arith) in
    omega (arith, last_room sep xs others last e, rw all at (ended_room decimal 0 sep others i (length others) h (omega arith)))
