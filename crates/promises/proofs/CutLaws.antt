-- What was joined by semicolons is cut as it was. Assumes nothing.
use mathlib.Core.Path.{◌≡◌, refl, ◌∙◌}
use mathlib.Core.List.{[], ◌∷◌, List, ◌++◌, append-nil}
use Rattle.words.specs.Words.{Bytes}
use Rattle.editions.specs.declared.Edition.{Edition}
use Rattle.cells.specs.Cells.{kind, Cut, grown, cells, after, cut_from, cut, parted}
use Rattle.cells.specs.declared.Kind.TheVariants.{Other}
use Rattle.cells.specs.declared.State.TheVariants.{Fresh, Plain}

unfoldable pub AllPlain : Bytes → Type 0
AllPlain [] = Unit {0}
AllPlain (b ∷ bs) = (kind b ≡ Other) × AllPlain bs

unfoldable pub EachPlain : List Bytes → Type 0
EachPlain [] = Unit {0}
EachPlain (c ∷ cs) = AllPlain c × EachPlain cs

unfoldable pub grown_by : Bytes → Cut → Cut
grown_by [] u = u
grown_by (b ∷ bs) u = grown b (grown_by bs u)

pub grown_by_cells : (c : Bytes) (cs : List Bytes) (e : Bytes) → grown_by c (cells (e ∷ cs)) ≡ cells ((c ++ e) ∷ cs)
unfolding grown_by
grown_by_cells [] cs e = refl
grown_by_cells (b ∷ bs) cs e = rw (grown_by_cells bs cs e)

plain_semi : (ed : Edition) (c : Bytes) (rest : Bytes) → AllPlain c → cut_from ed Plain (c ++ (59 ∷ rest)) ≡ grown_by c (after (cut_from ed Fresh rest))
unfolding cut_from grown_by AllPlain
plain_semi ed [] rest h = refl
plain_semi ed (b ∷ bs) rest h = rw (h.0, plain_semi ed bs rest h.1)

plain_end : (ed : Edition) (c : Bytes) → AllPlain c → cut_from ed Plain c ≡ grown_by c (cells ([] ∷ []))
unfolding cut_from grown_by AllPlain
plain_end ed [] h = refl
plain_end ed (b ∷ bs) h = rw (h.0, plain_end ed bs h.1)

fresh_semi : (ed : Edition) (c : Bytes) (rest : Bytes) → AllPlain c → cut_from ed Fresh (c ++ (59 ∷ rest)) ≡ grown_by c (after (cut_from ed Fresh rest))
unfolding cut_from grown_by AllPlain
fresh_semi ed [] rest h = refl
fresh_semi ed (b ∷ bs) rest h = rw (h.0, plain_semi ed bs rest h.1)

fresh_end : (ed : Edition) (c : Bytes) → AllPlain c → cut_from ed Fresh c ≡ grown_by c (cells ([] ∷ []))
unfolding cut_from grown_by AllPlain
fresh_end ed [] h = refl
fresh_end ed (b ∷ bs) h = rw (h.0, plain_end ed bs h.1)

pub cut_parted : (ed : Edition) (c : Bytes) (cs : List Bytes) → EachPlain (c ∷ cs) → cut ed (parted 59 (c ∷ cs)) ≡ cells (c ∷ cs)
unfolding parted EachPlain
cut_parted ed c [] h = fresh_end ed c h.0 ∙ grown_by_cells c [] [] ∙ rw append-nil
cut_parted ed c (e ∷ es) h =
    fresh_semi ed c (parted 59 (e ∷ es)) h.0 ∙ rw (cut_parted ed e es h.1) (grown_by_cells c (e ∷ es) [] ∙ rw append-nil)
