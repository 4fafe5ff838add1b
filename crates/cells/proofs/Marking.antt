-- Where cells stand on a line: how marks are noted one by one, and what they say of its bytes. Assumes nothing.
use mathlib.Core.List.{List, [], ◌∷◌, ◌++◌, append_assoc, append-nil}
use mathlib.Core.Path.{◌≡◌, refl, ap, sym, ◌∙◌}
use Prim.Native.Nat.{ℕ, ◌+◌, suc, ◌<◌, ◌-◌, ◌≤◌, zero}
use native.Mathlib.Omega.{arith}
use lib.ListN.{length, take, set, length-append, length-set, drop, get_or}
use lib.Seq.{take-suc-set, take-append_seam, drop-append_seam, get_or-take}
use Rattle.words.specs.Words.{Bytes}
use Rattle.cells.specs.Marks.{bounds_from, BoundsOf, answer_of}
use Rattle.editions.specs.declared.Edition.{Edition}
use Rattle.cells.specs.Cells.{Cut, faulty, cells, grown, after, parted, cut, cells_of}
use Rattle.std.specs.Prelude.{Result, Ok, Err}
use Rattle.cells.proofs.Cutting.{ahead, grown_by, ahead_more, ahead_faulty, ahead_none, grown_by_nil, grown_by_one, grown_by_more, grown_by_after, cells_parted}

-- marks of one cell more ----------------------------------------------------------------------------------------------------

-- where the next cell begins
abbrev pub behind : ℕ → List Bytes → ℕ
behind i [] = i
behind i (c ∷ cs) = behind (i + length c + 1) cs

behind_more : (i : ℕ) (cs : List Bytes) (c : Bytes) → behind i (cs ++ (c ∷ [])) ≡ behind i cs + length c + 1
behind_more i [] c = refl
behind_more i (d ∷ cs) c = behind_more (i + length d + 1) cs c

bounds_more : (i : ℕ) (cs : List Bytes) (c : Bytes) → bounds_from i (cs ++ (c ∷ [])) ≡ bounds_from i cs ++ ((behind i cs + length c + 1) ∷ [])
unfolding bounds_from
bounds_more i [] c = refl
bounds_more i (d ∷ cs) c = ap (λ (l : List ℕ). i ∷ l) (bounds_more (i + length d + 1) cs c)

-- how far a pass over a line has come: the cells found, the bytes of the one that is being read, and what the rest is cut into
pub record Sofar (room : ℕ) (whole : Cut) (bounds : List ℕ) (n i : ℕ) (rest : Cut) : Type 0 where
  pub found : List Bytes
  pub part : Bytes
  pub counted : length found ≡ n
  pub reaches : behind 0 found + length part ≡ i
  pub made_up : whole ≡ ahead found (grown_by part rest)
  pub long : length bounds ≡ room
  pub kept : n < room → take (suc n) bounds ≡ bounds_from 0 found

module _ (room : ℕ) (whole : Cut) (bounds : List ℕ) where
  -- the first bound is noted
  pub nothing_yet : length bounds ≡ room → (0 < room → take 1 bounds ≡ 0 ∷ []) → Sofar room whole bounds 0 0 whole
  unfolding bounds_from
  nothing_yet l k = record { found = []; part = []; counted = refl; reaches = refl; made_up = sym (grown_by_nil whole); long = l; kept = k }

  module _ (n i : ℕ) (rest : Cut) where
    -- some bytes more
    pub bytes_more : (q : Bytes) → Sofar room whole bounds n i (grown_by q rest) → Sofar room whole bounds n (i + length q) rest
    bytes_more q s =
        record {
          found = s.found;
          part = s.part ++ q;
          counted = s.counted;
          reaches = rw length-append (omega arith);
          made_up = s.made_up ∙ ap (ahead s.found) (sym (grown_by_more s.part q rest));
          long = s.long;
          kept = s.kept;
        }

    pub byte_more : (b : ℕ) → Sofar room whole bounds n i (grown b rest) → Sofar room whole bounds n (i + 1) rest
    byte_more b s = bytes_more (b ∷ []) (rw (grown_by_one b rest) s)

    -- one cell more
    pub cell_more : (bounds' : List ℕ) → Sofar room whole bounds n i (after rest) → bounds' ≡ set bounds (n + 1) (i + 1) → Sofar room whole bounds' (n + 1) (i + 1) rest
    cell_more bounds' s e =
        let b : behind 0 s.found + length s.part + 1 ≡ i + 1 = omega (arith, s.reaches) in
        let m : n + 1 ≡ suc n = omega arith in
        record {
          found = s.found ++ (s.part ∷ []);
          part = [];
          counted = rw length-append (omega arith);
          reaches = rw (behind_more 0 s.found s.part) (omega arith);
          made_up = s.made_up ∙ ap (ahead s.found) (grown_by_after s.part rest) ∙ sym (ahead_more s.found s.part rest) ∙ ap (ahead (s.found ++ (s.part ∷ []))) (sym (grown_by_nil rest));
          long = ap length e ∙ length-set bounds (n + 1) (i + 1) ∙ s.long;
          kept = λ h.
              ap (take (suc (n + 1))) e ∙ take-suc-set bounds (n + 1) (i + 1) (omega (arith, s.long))
              ∙ ap (λ (l : List ℕ). l ++ ((i + 1) ∷ [])) (ap (λ (k : ℕ). take k bounds) m ∙ s.kept (omega arith)) ∙ ap (λ (k : ℕ). bounds_from 0 s.found ++ (k ∷ [])) (sym b)
              ∙ sym (bounds_more 0 s.found s.part);
        }

    pub room_long : Sofar room whole bounds n i rest → room ≡ length bounds
    room_long s = sym s.long

  -- the line is over, or faulty
  module _ (n i : ℕ) where
    all_found : (s : Sofar room whole bounds n i (cells [])) → whole ≡ cells s.found
    all_found s = s.made_up ∙ ahead_none s.found

    fault_found : Sofar room whole bounds n i (faulty 1) → whole ≡ faulty (n + 1)
    fault_found s = s.made_up ∙ ahead_faulty s.found ∙ rw s.counted

    -- what is known then
    pub cells_counted : (cs : List Bytes) → whole ≡ cells cs → Sofar room whole bounds n i (cells []) → n ≡ length cs
    cells_counted cs w s = let e : cs ≡ s.found = cc (all_found s) in rw e (sym s.counted)

    pub cells_bounded : (cs : List Bytes) → whole ≡ cells cs → Sofar room whole bounds n i (cells []) → BoundsOf cs room bounds
    cells_bounded cs w s = let e : cs ≡ s.found = cc (all_found s) in rw (e, s.counted) s.kept

    pub good_answer : Sofar room whole bounds n i (cells []) → Ok n ≡ answer_of whole
    good_answer s = rw (all_found s) (ap (λ (k : ℕ). Ok k) (sym s.counted))

    pub bad_answer : Sofar room whole bounds n i (faulty 1) → Err (n + 1) ≡ answer_of whole
    bad_answer s = ap answer_of (sym (fault_found s))

    pub no_cells : (cs : List Bytes) → whole ≡ cells cs → Sofar room whole bounds n i (faulty 1) → ⊥
    no_cells cs w s = let z : ◌≡◌ {A = ℕ} 0 1 = cc (fault_found s) in omega arith

-- what marks say ------------------------------------------------------------------------------------------------------------

-- a cell stands on a line from a on; behind it, and a byte that parts them, a next one would begin at b
pub record Stands (line : Bytes) (a b : ℕ) (cell : Bytes) : Type 0 where
  pub ordered : a < b
  pub inside : b ≤ length line + 1
  pub there : take (b - 1 - a) (drop a line) ≡ cell

stands_behind : (p c r : Bytes) → Stands (p ++ (c ++ r)) (length p) (length p + length c + 1) c
stands_behind p c r =
    let a : length p + length c + 1 - 1 - length p ≡ length c = omega arith in
    record {
      ordered = omega arith;
      inside = simp length-append (omega arith);
      there = rw (a, drop-append_seam p (c ++ r), take-append_seam c r);
    }

-- each bound stands in its place
pub bound_at : (cs : List Bytes) (room : ℕ) (bounds : List ℕ) (k : ℕ) → BoundsOf cs room bounds → length cs < room → k ≤ length cs → get_or bounds k 0 ≡ get_or (bounds_from 0 cs) k 0
bound_at cs room bounds k b l h = sym (get_or-take (suc (length cs)) bounds k 0 (omega arith)) ∙ ap (λ (xs : List ℕ). get_or xs k 0) (b l)

first_bound : (i : ℕ) (cs : List Bytes) → get_or (bounds_from i cs) 0 0 ≡ i
unfolding bounds_from
first_bound i [] = refl
first_bound i (c ∷ cs) = refl

module _ (sep : ℕ) where
  -- what follows a cell
  abbrev further : List Bytes → Bytes
  further [] = []
  further (c ∷ cs) = sep ∷ parted sep (c ∷ cs)

  parted_first : (c : Bytes) (cs : List Bytes) → parted sep (c ∷ cs) ≡ c ++ further cs
  unfolding parted
  parted_first c [] = sym (append-nil c)
  parted_first c (d ∷ ds) = refl

  stands_from : (p : Bytes) (i : ℕ) (cs : List Bytes) (k : ℕ) → length p ≡ i → k < length cs →
      Stands (p ++ parted sep cs) (get_or (bounds_from i cs) k 0) (get_or (bounds_from i cs) (suc k) 0) (get_or cs k [])
  unfolding bounds_from parted
  stands_from p i [] k e h = absurd (let z : ⊥ = omega arith in z)
  stands_from p i (c ∷ cs) zero e h = rw (parted_first c cs, first_bound (i + length c + 1) cs, ← e) (stands_behind p c (further cs))
  stands_from p i (c ∷ []) (suc k) e h = absurd (let z : ⊥ = omega arith in z)
  stands_from p i (c ∷ (d ∷ ds)) (suc k) e h =
      let q : p ++ (c ++ (sep ∷ parted sep (d ∷ ds))) ≡ (p ++ (c ++ (sep ∷ []))) ++ parted sep (d ∷ ds) = simp append_assoc in
      rw q (stands_from (p ++ (c ++ (sep ∷ []))) (i + length c + 1) (d ∷ ds) k (simp length-append (omega arith)) (omega arith))

  -- each cell of a line whose bounds are kept stands between them
  pub stands_on : (line : Bytes) (cs : List Bytes) (room : ℕ) (bounds : List ℕ) (k : ℕ) → parted sep cs ≡ line → BoundsOf cs room bounds → length cs < room → k < length cs →
      Stands line (get_or bounds k 0) (get_or bounds (suc k) 0) (get_or cs k [])
  stands_on line cs room bounds k e b l h =
      rw (← e, bound_at cs room bounds k b l (omega arith), bound_at cs room bounds (suc k) b l h) (stands_from [] 0 cs k refl h)

pub cell_stands : (e : Edition) (line : Bytes) (cs : List Bytes) (room : ℕ) (bounds : List ℕ) (k : ℕ) → cut e line ≡ cells cs → BoundsOf cs room bounds → length cs < room → k < length cs →
    Stands line (get_or bounds k 0) (get_or bounds (suc k) 0) (get_or cs k [])
cell_stands e line cs room bounds k q = stands_on 59 line cs room bounds k (cells_parted e line cs q)

-- what an answer says of the line that was cut
pub good_cells : (u : Cut) (r : Result ℕ ℕ) (m : ℕ) → r ≡ answer_of u → r ≡ Ok m → u ≡ cells (cells_of u)
good_cells (faulty n) r m e g = cc
good_cells (cells cs) r m e g = refl

pub good_count : (u : Cut) (r : Result ℕ ℕ) (m : ℕ) → r ≡ answer_of u → r ≡ Ok m → length (cells_of u) ≡ m
good_count (faulty n) r m e g = cc
good_count (cells cs) r m e g = cc

pub bad_cell_lem : (u : Cut) (r : Result ℕ ℕ) (m : ℕ) → r ≡ answer_of u → r ≡ Err m → u ≡ faulty m
bad_cell_lem (faulty n) r m e g = cc
bad_cell_lem (cells cs) r m e g = cc
