-- The lines of a text, as its bytes come: of the first line some have come already. Assumes nothing.
use mathlib.Core.Path.{◌≡◌, refl, ap, sym, ◌∙◌}
use mathlib.Core.List.{List, [], ◌∷◌, ◌++◌, append-nil}
use mathlib.Core.Bool.{Bool, true, false, ◌&&◌, not}
use Prim.Native.Nat.{ℕ, suc, ◌≤◌, ◌<◌}
use native.Mathlib.Omega.{arith}
use lib.Dec.{eqb}
use lib.ListN.{length, length-append}
use lib.Seq.{append_snoc}
use borrow.Author.Tests.{eqb-true}
use Rattle.words.specs.Words.{Bytes, whether◌then◌else◌}
use Rattle.words.proofs.Lists.{and_left}
use Rattle.editions.specs.declared.Edition.{Edition}
use Rattle.cells.specs.Cells.{breakable}
use Rattle.cells.specs.declared.State.{State}
use Rattle.cells.specs.declared.State.TheVariants.{Fresh}
use Rattle.lines.specs.Lines.{lines, lines_from, onto, from, quoting, quoting_behind, ends_row, most_line}
use Rattle.lines.proofs.Lining.{from_on, return_ends}
use Rattle.radio.specs.Radio.{ended, ends_line, kept_line}

abbrev pub last_line : Bytes → List Bytes
last_line [] = []
last_line (x ∷ xs) = (x ∷ xs) ∷ []

unfoldable pub lines_behind : Edition → Bytes → Bytes → List Bytes
lines_behind e rest [] = last_line rest
lines_behind e rest (x ∷ s) = whether ends_line e rest x then ended rest ∷ lines_behind e [] s else lines_behind e (rest ++ (x ∷ [])) s

-- how the quotes of a row stand behind more of its bytes
pub behind_more : (q : State) (xs ys : Bytes) → quoting_behind q (xs ++ ys) ≡ quoting_behind (quoting_behind q xs) ys
unfolding quoting_behind
behind_more q [] ys = refl
behind_more q (x ∷ xs) ys = behind_more (quoting q x) xs ys

pub behind_one : (q : State) (xs : Bytes) (x : ℕ) → quoting_behind q (xs ++ (x ∷ [])) ≡ quoting (quoting_behind q xs) x
unfolding quoting_behind
behind_one q xs x = behind_more q xs (x ∷ [])

-- a byte that ends a row is a line feed
pub feed_is : (e : Edition) (q : State) (x : ℕ) → ends_row e q x ≡ true → x ≡ 10
feed_is e q x h = eqb-true x 10 (and_left (eqb x 10) (not (breakable e q)) h)

-- none of these bytes ends a row whose quotes stand so
unfoldable pub Unfed : Edition → State → Bytes → Type 0
Unfed e q [] = Unit {0}
Unfed e q (x ∷ xs) = (ends_row e q x ≡ false) × Unfed e (quoting q x) xs

onto_last : (x : ℕ) (xs : Bytes) → onto x (last_line xs) ≡ (x ∷ xs) ∷ []
onto_last x [] = refl
onto_last x (y ∷ ys) = refl

module _ (e : Edition) where
  unfed_more : (q : State) (rest : Bytes) (x : ℕ) → Unfed e q rest → ends_row e (quoting_behind q rest) x ≡ false → Unfed e q (rest ++ (x ∷ []))
  unfolding Unfed quoting_behind
  unfed_more q [] x h k = (k, tt)
  unfed_more q (y ∷ ys) x h k = (h.0, unfed_more (quoting q y) ys x h.1 k)

  -- a carriage return before a byte that does not end the row is one of its bytes
  return_kept : (q : State) (b c : ℕ) → ends_row e (quoting q b) c ≡ false → (eqb b 13 && ends_row e q c) ≡ false
  return_kept q b c h = go (eqb b 13) refl
    where
      go : (u : Bool) → eqb b 13 ≡ u → (u && ends_row e q c) ≡ false
      go true r = sym (return_ends e q b c r) ∙ h
      go false r = refl

  lines_on : (q : State) (b c : ℕ) (s : Bytes) → ends_row e q b ≡ false → ends_row e (quoting q b) c ≡ false → lines_from e q (b ∷ (c ∷ s)) ≡ onto b (lines_from e (quoting q b) (c ∷ s))
  unfolding lines_from
  lines_on q b c s h k = rw (h, return_kept q b c k) (from_on (quoting q b) (λ t. onto b (lines_from e t (c ∷ s))))

  lines_last : (q : State) (rest : Bytes) → Unfed e q rest → lines_from e q rest ≡ last_line rest
  unfolding Unfed lines_from
  lines_last q [] h = refl
  lines_last q (b ∷ []) h = rw h.0 (go (eqb b 13))
    where
      go : (u : Bool) → (whether u && false then [] else from (quoting q b) (λ t. (b ∷ []) ∷ [])) ≡ (b ∷ []) ∷ []
      go true = from_on (quoting q b) (λ t. (b ∷ []) ∷ [])
      go false = from_on (quoting q b) (λ t. (b ∷ []) ∷ [])
  lines_last q (b ∷ (c ∷ cs)) h = lines_on q b c cs h.0 h.1.0 ∙ ap (onto b) (lines_last (quoting q b) (c ∷ cs) h.1)

  -- a line that a line feed ends
  pub lines_fed : (q : State) (rest : Bytes) (x : ℕ) (s : Bytes) → Unfed e q rest → ends_row e (quoting_behind q rest) x ≡ true → lines_from e q (rest ++ (x ∷ s)) ≡ ended rest ∷ lines_from e Fresh s
  unfolding Unfed lines_from ended quoting_behind
  lines_fed q [] x s h k = rw k
  lines_fed q (b ∷ []) x s h k = rw h.0 (go (eqb b 13) refl)
    where
      go : (u : Bool) → eqb b 13 ≡ u → (whether u && ends_row e q x then lines_from e q (x ∷ s) else from (quoting q b) (λ t. onto b (lines_from e t (x ∷ s)))) ≡ (whether u then [] else b ∷ []) ∷ lines_from e Fresh s
      go true r = let z : ends_row e q x ≡ true = sym (return_ends e q b x r) ∙ k in rw z
      go false r = from_on (quoting q b) (λ t. onto b (lines_from e t (x ∷ s))) ∙ rw k
  lines_fed q (b ∷ (c ∷ cs)) x s h k = lines_on q b c (cs ++ (x ∷ s)) h.0 h.1.0 ∙ ap (onto b) (lines_fed (quoting q b) (c ∷ cs) x s h.1 k)

  lines_from_lem : (rest s : Bytes) → Unfed e Fresh rest → lines_behind e rest s ≡ lines e (rest ++ s)
  unfolding lines_behind Unfed ends_line
  lines_from_lem rest [] h = sym (ap (lines e) (append-nil rest) ∙ lines_last Fresh rest h)
  lines_from_lem rest (x ∷ s) h = go (ends_row e (quoting_behind Fresh rest) x) refl (lines_from_lem [] s tt) (lines_from_lem (rest ++ (x ∷ [])) s)
    where
      go : (t : Bool) → ends_row e (quoting_behind Fresh rest) x ≡ t → lines_behind e [] s ≡ lines e s → (Unfed e Fresh (rest ++ (x ∷ [])) → lines_behind e (rest ++ (x ∷ [])) s ≡ lines e ((rest ++ (x ∷ [])) ++ s))
          → (whether t then ended rest ∷ lines_behind e [] s else lines_behind e (rest ++ (x ∷ [])) s) ≡ lines e (rest ++ (x ∷ s))
      go true k f g = ap (λ (l : List Bytes). ended rest ∷ l) f ∙ sym (lines_fed Fresh rest x s h k)
      go false k f g = g (unfed_more Fresh rest x h k) ∙ ap (lines e) (append_snoc rest x s)

pub lines_all : (e : Edition) (s : Bytes) → lines_behind e [] s ≡ lines e s
unfolding Unfed
lines_all e s = lines_from_lem e [] s tt

-- a line that is too long whatever follows ------------------------------------------------------------------------------------

ended_long : (rest : Bytes) → length rest ≤ suc (length (ended rest))
unfolding ended
ended_long [] = omega arith
ended_long (x ∷ []) = go (eqb x 13)
  where
    go : (q : Bool) → 1 ≤ suc (length (whether q then [] else x ∷ []))
    go true = omega arith
    go false = omega arith
ended_long (x ∷ (y ∷ ys)) = omega (arith, ended_long (y ∷ ys))

pub ended_short : (rest : Bytes) → length (ended rest) ≤ length rest
unfolding ended
ended_short [] = omega arith
ended_short (x ∷ []) = go (eqb x 13)
  where
    go : (q : Bool) → length (whether q then [] else x ∷ []) ≤ 1
    go true = omega arith
    go false = omega arith
ended_short (x ∷ (y ∷ ys)) = omega (arith, ended_short (y ∷ ys))

pub record FirstLong (ls : List Bytes) : Type 0 where
  pub line : Bytes
  pub behind : List Bytes
  pub is : ls ≡ line ∷ behind
  pub long : most_line < length line

pub first_long : (e : Edition) (rest s : Bytes) → (suc kept_line) ≤ length rest → FirstLong (lines_behind e rest s)
unfolding lines_behind
first_long e [] [] h = absurd (omega arith)
first_long e (y ∷ ys) [] h = record { line = y ∷ ys; behind = []; is = refl; long = omega arith }
first_long e rest (x ∷ s) h = go (ends_line e rest x) (first_long e (rest ++ (x ∷ [])) s (rw length-append (omega arith)))
  where
    go : (q : Bool) → FirstLong (lines_behind e (rest ++ (x ∷ [])) s) → FirstLong (whether q then ended rest ∷ lines_behind e [] s else lines_behind e (rest ++ (x ∷ [])) s)
    go true f = record { line = ended rest; behind = lines_behind e [] s; is = refl; long = omega (arith, ended_long rest) }
    go false f = f
