-- The cells of a line.
use Rattle.std.specs.Prelude.{◌||◌, ◌&&◌, Bool, false, true, List, [], ◌∷◌, ◌++◌, ℕ, suc, ◌-◌, eqb, ltb, length, take, drop}
use Rattle.words.specs.Words.{whether◌then◌else◌, Bytes}
use Rattle.editions.specs.declared.Edition.{Edition}
use Rattle.editions.specs.declared.Edition.TheVariants.{Dino21, Dino23}
use Rattle.cells.specs.declared.Kind.{Kind}
use Rattle.cells.specs.declared.Kind.TheVariants.{Quote, Semicolon, Control, Other, End}
use Rattle.cells.specs.declared.State.{State}
use Rattle.cells.specs.declared.State.TheVariants.{Fresh, Plain, Inside, Closed, Over, Fault}

-- 34 is the double quote, 59 the semicolon. "So are bytes 0 to 31 and 127 in any cell" (a fault)
abbrev pub kind : ℕ → Kind
kind b =
    whether eqb b 34 then Quote
    else whether eqb b 59 then Semicolon
    else whether ltb b 32 || eqb b 127 then Control
    else Other

-- "Cells are parted by semicolons outside quotes. A cell that begins with a double quote runs to the next one that is not doubled, and
-- then its semicolon or line end must follow. A double quote inside any other cell is a fault."
abbrev pub next : State → Kind → State
next Fresh Quote = Inside
next Fresh Semicolon = Over
next Fresh Control = Fault
next Fresh Other = Plain
next Fresh End = Over
next Plain Quote = Fault
next Plain Semicolon = Over
next Plain Control = Fault
next Plain Other = Plain
next Plain End = Over
next Inside Quote = Closed
next Inside Semicolon = Inside
next Inside Control = Fault
next Inside Other = Inside
next Inside End = Fault
next Closed Quote = Inside
next Closed Semicolon = Over
next Closed Control = Fault
next Closed Other = Fault
next Closed End = Over
next Over k = Fault
next Fault k = Fault

-- line breaks ------------------------------------------------------------------------------------------------------------------

-- 2.3: "line breaks may stand inside double quotes"; 2.1: "A line feed always ends the line, quotes or no."
abbrev pub breaks_stand : Edition → Bool
breaks_stand Dino21 = false
breaks_stand Dino23 = true

abbrev pub inside : State → Bool
inside Fresh = false
inside Plain = false
inside Inside = true
inside Closed = false
inside Over = false
inside Fault = false

-- whether a break may stand in a cell that is read so far
abbrev pub breakable : Edition → State → Bool
breakable e s = inside s && breaks_stand e

-- whether a line feed comes next
abbrev pub feed_next : Bytes → Bool
feed_next [] = false
feed_next (b ∷ bs) = eqb b 10

-- "A break is a line feed, with or without a carriage return before it": a byte of one, by the bytes behind it
abbrev pub is_break : ℕ → Bytes → Bool
is_break b bs = eqb b 10 || eqb b 13 && feed_next bs

-- "and counts as content": where it may stand, its bytes are as any other
abbrev pub kind_in : Edition → State → ℕ → Bytes → Kind
kind_in e s b bs = whether breakable e s && is_break b bs then Other else kind b

-- the cells ---------------------------------------------------------------------------------------------------------------------

-- a line's cells as they stand, quotes and all; or the number of its first faulty cell, from 1
pub data Cut : Type 0 where
  faulty : ℕ → Cut
  cells : List Bytes → Cut

-- a byte at the head of the first cell
abbrev pub grown : ℕ → Cut → Cut
grown b (faulty n) = faulty n
grown b (cells []) = cells []
grown b (cells (c ∷ cs)) = cells ((b ∷ c) ∷ cs)

-- an empty cell before the others
abbrev pub after : Cut → Cut
after (faulty n) = faulty (suc n)
after (cells cs) = cells ([] ∷ cs)

-- by the state that is reached: the cell is over, or faulty, or goes on
abbrev pub reached : State → Cut → (State → Cut) → Cut
reached Over over on = over
reached Fault over on = faulty 1
reached Fresh over on = on Fresh
reached Plain over on = on Plain
reached Inside over on = on Inside
reached Closed over on = on Closed

-- the cells of the rest of a line, from a state on
unfoldable pub cut_from : Edition → State → Bytes → Cut
cut_from e s [] = reached (next s End) (cells ([] ∷ [])) (λ t. faulty 1)
cut_from e s (b ∷ bs) = reached (next s (kind_in e s b bs)) (after (cut_from e Fresh bs)) (λ t. grown b (cut_from e t bs))

abbrev pub cut : Edition → Bytes → Cut
cut e line = cut_from e Fresh line

-- the number of the faulty cell, 0 where there is none
abbrev pub faulty_cell : Cut → ℕ
faulty_cell (faulty n) = n
faulty_cell (cells cs) = 0

abbrev pub cells_of : Cut → List Bytes
cells_of (faulty n) = []
cells_of (cells cs) = cs

abbrev pub quoted : Bytes → Bool
quoted [] = false
quoted (b ∷ bs) = eqb b 34

-- "The stretch is the caller's own bytes between the quotes, or the whole cell where unquoted, doubled quotes still doubled."
abbrev pub stretch : Bytes → Bytes
stretch cell = whether quoted cell then take (length cell - 2) (drop 1 cell) else cell

-- "doubled ones counted once"; the flag says that a quote came just before, whose double is left out
unfoldable pub once : Bool → Bytes → Bytes
once q [] = []
once true (b ∷ bs) = once false bs
once false (b ∷ bs) = b ∷ once (eqb b 34) bs

-- "Content is what stands between the quotes, doubled ones counted once."
abbrev pub content : Bytes → Bytes
content cell = whether quoted cell then once false (stretch cell) else cell

-- cells, or fields, parted by a byte
unfoldable pub parted : ℕ → List Bytes → Bytes
parted sep [] = []
parted sep (c ∷ []) = c
parted sep (c ∷ (e ∷ es)) = c ++ (sep ∷ parted sep (e ∷ es))
