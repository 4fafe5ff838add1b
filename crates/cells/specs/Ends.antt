-- Where a cell ends, by the states and kinds of Cells, as the code goes from one cell to the next.
-- Inner: no promise and no contract of a public function speaks of it.
use Rattle.std.specs.Prelude.{Option, Some, None, Bool, false, ◌&&◌, [], ◌∷◌, ℕ, ◌+◌, eqb}
use Rattle.words.specs.Words.{Bytes}
use Rattle.cells.specs.declared.State.{State}
use Rattle.cells.specs.declared.State.TheVariants.{Fresh, Plain, Inside, Closed, Over, Fault}
use Rattle.editions.specs.declared.Edition.{Edition}
use Rattle.cells.specs.Cells.{next, kind, kind_in, breaks_stand, is_break}
use Rattle.cells.specs.declared.Kind.{Kind}
use Rattle.cells.specs.declared.Kind.TheVariants.{End}

-- the states by number, to tell them apart
abbrev pub rank : State → ℕ
rank Fresh = 0
rank Plain = 1
rank Inside = 2
rank Closed = 3
rank Over = 4
rank Fault = 5

-- whether a byte of this kind leaves a cell in the state that it is in
abbrev pub stays : State → Kind → Bool
stays s k = eqb (rank (next s k)) (rank s)

-- by the state that is reached at a place: the cell ends there, or is faulty, or goes on
abbrev pub ended : State → ℕ → (State → Option ℕ) → Option ℕ
ended Over i on = Some i
ended Fault i on = None
ended Fresh i on = on Fresh
ended Plain i on = on Plain
ended Inside i on = on Inside
ended Closed i on = on Closed

-- where a cell ends that is read up to place i, by its state there and the rest of the line
unfoldable pub end_from : Edition → State → ℕ → Bytes → Option ℕ
end_from e s i [] = ended (next s End) i (λ t. None)
end_from e s i (b ∷ bs) = ended (next s (kind_in e s b bs)) i (λ t. end_from e t (i + 1) bs)

-- the same of a closed cell that no quote opens again
abbrev pub stop_at : ℕ → Bytes → Option ℕ
stop_at i [] = ended (next Closed End) i (λ t. None)
stop_at i (b ∷ bs) = ended (next Closed (kind b)) i (λ t. None)

-- whether a break that may stand inside quotes begins these bytes, or goes on there
abbrev pub break_next : Edition → Bytes → Bool
break_next e [] = false
break_next e (b ∷ bs) = breaks_stand e && is_break b bs
