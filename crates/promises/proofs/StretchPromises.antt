-- Demand 2: the stretch that a question for a cell hands back is the cell's own. Assumes nothing.
use mathlib.Core.Path.{◌≡◌, refl, ap, sym, ◌∙◌}
use mathlib.Core.Bool.{false, Bool, true}
use mathlib.Core.List.{[], ◌∷◌}
use Prim.Native.Nat.{◌-◌, ◌+◌, ℕ}
use native.Mathlib.Omega.{arith}
use lib.ListN.{length, take, drop}
use lib.Dec.{eqb}
use borrow.Author.Tests.{eqb-true}
use Rattle.words.specs.Words.{Bytes, whether◌then◌else◌}
use Rattle.refusals.specs.declared.Cell.TheVariants.{Empty}
use Rattle.refusals.specs.declared.Cell.TheVariants as cell-is
use Rattle.std.specs.Prelude.{Ok, Err}
use Rattle.refusals.specs.Verdicts.{Verdict}
use Rattle.refusals.specs.declared.Cell.{Cell}
use Rattle.cells.specs.Cells.{once, quoted, stretch, content}
use Rattle.editions.specs.declared.Edition.{Edition}
use Rattle.tables.specs.declared.Sort.TheVariants.{Text}
use Rattle.tables.specs.Columns.{column_at}
use Rattle.tables.specs.declared.Sort.{Sort}
use Rattle.cell_question.specs.CellQuestion.{said, cell_said, is_equip, meant, stretch_of, cell_at, cell_start, answered, cell_verdict, table_cell}
use Rattle.cell_question.specs.declared.CellAnswer.{CellAnswer}
use Rattle.promises.specs.Promises.{StretchesAgree}
use Rattle.promises.proofs.StretchLaws.{Begins, plain_stretch, quoted_stretch, cell_stands}
use Rattle.promises.proofs.CellPromises.{asked_of_lem}

-- where the content is empty, so is the stretch
once_empty : (s : Bytes) → length (once false s) ≡ 0 → s ≡ []
unfolding once
once_empty [] h = refl
once_empty (b ∷ bs) h = absurd (omega arith)

empty_bytes : (s : Bytes) → length s ≡ 0 → s ≡ []
empty_bytes [] h = refl
empty_bytes (b ∷ bs) h = absurd (omega arith)

empty_stretch : (cell : Bytes) → length (content cell) ≡ 0 → stretch cell ≡ []
empty_stretch cell = go (quoted cell) refl
  where
    go : (q : Bool) → quoted cell ≡ q → length (content cell) ≡ 0 → stretch cell ≡ []
    go true q h = rw q (once_empty (take (length cell - 2) (drop 1 cell)) (rw q at h))
    go false q h = rw q (empty_bytes cell (rw q at h))

-- a text that begins with the cell there
said_stretch : (s cell : Bytes) (at : ℕ) → Begins (drop at s) cell → stretch_of s (cell_said Text at cell) ≡ stretch cell
said_stretch s cell at b = go (eqb (length (content cell)) 0) refl (quoted cell) refl
  where
    go : (e : Bool) → eqb (length (content cell)) 0 ≡ e → (q : Bool) → quoted cell ≡ q → stretch_of s (cell_said Text at cell) ≡ stretch cell
    go true e q f = ap (λ (z : Bool). stretch_of s (whether z then Empty else said Text at cell)) e ∙ sym (empty_stretch cell (eqb-true (length (content cell)) 0 e))
    go false e true f = ap (λ (z : Bool). stretch_of s (whether z then Empty else said Text at cell)) e ∙ rw f (quoted_stretch s cell at f b)
    go false e false f = ap (λ (z : Bool). stretch_of s (whether z then Empty else said Text at cell)) e ∙ rw f (plain_stretch s cell at b)

-- a text names no edition
text_meant : (e : Edition) (equip : Bool) (at : ℕ) (cell : Bytes) → meant e equip (cell_said Text at cell) ≡ cell_said Text at cell
text_meant e false at cell = refl
text_meant e true at cell = go (eqb (length (content cell)) 0) (quoted cell)
  where
    go : (none q : Bool) → let c : Cell = whether none then Empty else whether q then cell-is.Text (at + 1) (length cell - 2) else cell-is.Text at (length cell) in meant e true c ≡ c
    go true q = refl
    go false true = refl
    go false false = refl

answered_cell : (v : Verdict) (c : Cell) → (answered v c).verdict ≡ Ok tt → (answered v c).cell ≡ c
answered_cell (Ok _) c h = refl
answered_cell (Err p) c h = let z : ◌≡◌ {A = ℕ} 0 1 = cc in let y : ⊥ = omega arith in absurd y

pub stretches_agree : StretchesAgree
unfolding table_cell
stretches_agree n e t s line k chosen sort h =
    let asked = asked_of_lem n e t s line k chosen in
    let v : Verdict = cell_verdict e t s line k in
    let c : Cell = meant e (is_equip t k) (cell_said (column_at e t (k - 1)).rules.sort (cell_start e t s line k) (cell_at e t s line k)) in
    let f : (answered v c).verdict ≡ (Ok tt) = sym (ap (λ (z : CellAnswer). z.verdict) asked) ∙ h in
    ap (λ (z : CellAnswer). stretch_of s z.cell) asked
    ∙ ap (λ (z : Cell). stretch_of s z) (answered_cell v c f)
    ∙ ap (λ (z : Sort). stretch_of s (meant e (is_equip t k) (cell_said z (cell_start e t s line k) (cell_at e t s line k)))) sort
    ∙ ap (λ (z : Cell). stretch_of s z) (text_meant e (is_equip t k) (cell_start e t s line k) (cell_at e t s line k))
    ∙ said_stretch s (cell_at e t s line k) (cell_start e t s line k) (cell_stands e t s line k)
