-- Rows, and the order of their keys. A row's key is its first k numbers.
use Rattle.std.specs.Prelude.{List, ◌++◌, [], ◌∷◌, Bool, true, false, ◌||◌, ◌&&◌, ℕ, ◌-◌, zero, suc, length, replicate, get_or, ltb}
use Rattle.words.specs.Words.{Row, whether◌then◌else◌}
use Rattle.std.specs.declared.cmp.Ordering.{Ordering}
use Rattle.std.specs.declared.cmp.Ordering.TheVariants.{Less, Equal, Greater}

-- "the 11 numbers of each block": as many has every row of the book
abbrev pub row_numbers : ℕ
row_numbers = 11

-- the numbers that are kept of a row, and zeros behind them
abbrev pub wide : List ℕ → Row
wide ns = ns ++ replicate (row_numbers - length ns) 0

-- the number in column k, counted from 1
abbrev pub column : ℕ → Row → ℕ
column k row = get_or row (k - 1) 0

abbrev pub by_order {ℓ} : {A : Type ℓ} → Ordering → A → A → A → A
by_order Less a b c = a
by_order Equal a b c = b
by_order Greater a b c = c

-- "by rising key (number by number)": the order of n numbers from place i on
unfoldable pub order_from : ℕ → ℕ → Row → Row → Ordering
order_from zero i x y = Equal
order_from (suc n) i x y =
    whether ltb (get_or x i 0) (get_or y i 0) then Less
    else whether ltb (get_or y i 0) (get_or x i 0) then Greater
    else order_from n (suc i) x y

abbrev pub key_order : ℕ → Row → Row → Ordering
key_order k x y = order_from k 0 x y

abbrev pub same_key : ℕ → Row → Row → Bool
same_key k x y = by_order (key_order k x y) false true false

-- whether the key of a row stands among rows
unfoldable pub stands : ℕ → Row → List Row → Bool
stands k row [] = false
stands k row (x ∷ xs) = same_key k row x || stands k row xs

-- the row of that key, or no numbers
unfoldable pub found : ℕ → Row → List Row → Row
found k row [] = []
found k row (x ∷ xs) = whether same_key k row x then x else found k row xs

-- the rows with one more, before the first of a larger key; where the key stands they stay
unfoldable pub inserted : ℕ → Row → List Row → List Row
inserted k row [] = row ∷ []
inserted k row (x ∷ xs) = by_order (key_order k row x) (row ∷ (x ∷ xs)) (x ∷ xs) (x ∷ inserted k row xs)

-- the rows with the one of that key replaced
unfoldable pub replaced : ℕ → Row → List Row → List Row
replaced k row [] = []
replaced k row (x ∷ xs) = whether same_key k row x then row ∷ xs else x ∷ replaced k row xs

-- the rows without the one of that key
unfoldable pub removed : ℕ → Row → List Row → List Row
removed k row [] = []
removed k row (x ∷ xs) = whether same_key k row x then xs else x ∷ removed k row xs

-- each key is below the next one
unfoldable pub rising : ℕ → List Row → Bool
rising k [] = true
rising k (x ∷ []) = true
rising k (x ∷ (y ∷ ys)) = by_order (key_order k x y) true false false && rising k (y ∷ ys)
