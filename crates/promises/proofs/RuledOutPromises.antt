-- Wrong definitions break a promise, each on one slip line. Assumes nothing.
use Prim.Native.Nat.{ℕ}
use native.Mathlib.Omega.{arith}
use mathlib.Core.Path.{◌≡◌, refl}
use mathlib.Core.List.{[], ◌∷◌}
use Rattle.words.specs.Words.{Bytes, bytes}
use Rattle.rows.specs.Rows.{wide}
use Rattle.slip_line.specs.SlipLine.{row_in}
use Rattle.editions.specs.declared.Edition.TheVariants.{Dino21}
use Rattle.book.specs.Book.{Book}
use Rattle.promises.specs.Run.{computed}
use Rattle.promises.specs.Promises.{copies, honoured, all_taken, all_brought}
use Rattle.promises.specs.RuledOut.{StoringNothing, HonouringTheFirst}

-- a book without blocks, and a line that adds one
few : Book
few =
    record {
      types = wide (1 ∷ 4 ∷ []) ∷ [];
      depots = wide (1 ∷ 3 ∷ []) ∷ [];
      stops = wide (1 ∷ 20 ∷ []) ∷ [];
      points = wide (1 ∷ 20 ∷ 1 ∷ []) ∷ [];
      blocks = [];
      days = [];
      edition = Dino21;
    }

line : Bytes
line = bytes "A\t1\t7\t3\t101\t4\t20\t1\t18000\t20\t1\t46800"

pub storing_nothing : StoringNothing
unfolding computed copies few line
storing_nothing h = let z : ◌≡◌ {A = ℕ} 0 1 = h (row_in line) few line refl in omega arith

pub honouring_the_first : HonouringTheFirst
unfolding computed copies honoured all_taken all_brought few line
honouring_the_first h = let z : ◌≡◌ {A = ℕ} 0 1 = h (row_in line) few ([] ∷ line ∷ []) in omega arith
