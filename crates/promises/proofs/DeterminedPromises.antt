-- Demand 1: two outcomes that a contract permits are the same. Assumes nothing.
use mathlib.Core.Path.{◌≡◌, ◌∙◌, ap, sym}
use mathlib.Core.List.{List}
use Prim.Native.Nat.{ℕ}
use Rattle.promises.specs.Promises.{Determined, DeterminedForC}

pub determined : Determined
determined = (
  λ n d book one other e f. e ∙ sym f,
  λ n s table line k one other e f. e ∙ sym f,
  λ n s table line k one other e f. e ∙ sym f,
  λ s book work one other e f. e ∙ sym f,
  λ n d s book work one other e f. e ∙ sym f,
  λ book version type one other e f. e ∙ sym f,
  λ book version day depot block one other e f. e ∙ sym f,
  λ book version type first last one other e f. e ∙ sym f,
  λ book version type one other e f. e ∙ sym f,
  λ book version type first last one other e f. e ∙ sym f,
  λ book out one other e f. e ∙ sym f,
  λ v book out one other e f. e ∙ sym f,
  λ edition s p one other e f. e ∙ sym f,
  λ n line one other e f. e ∙ sym f,
  λ n s one other e f. e ∙ sym f,
  λ c s one other e f. e ∙ sym f,
)

-- for C: a number and a place are told, with one thing lent besides, or with two
told : (A : Type 0) (n : ℕ) (p : List ℕ) (call : A) (one other : ℕ × List ℕ × A) →
    (one.0 ≡ n) × (one.1 ≡ p) → one.2 ≡ call → (other.0 ≡ n) × (other.1 ≡ p) → other.2 ≡ call → one ≡ other
told A n p call one other t e u f = is one t e ∙ sym (is other u f)
  where
    is : (o : ℕ × List ℕ × A) → (o.0 ≡ n) × (o.1 ≡ p) → o.2 ≡ call → o ≡ (n, p, call)
    is o t e = ap (λ (x : ℕ). (x, o.1, o.2)) t.0 ∙ ap (λ (x : List ℕ). (n, x, o.2)) t.1 ∙ ap (λ (x : A). (n, p, x)) e

told_two : (A B : Type 0) (n : ℕ) (p : List ℕ) (call : A) (rest : B) (one other : ℕ × List ℕ × A × B) →
    (one.0 ≡ n) × (one.1 ≡ p) → one.2 ≡ call → one.3 ≡ rest → (other.0 ≡ n) × (other.1 ≡ p) → other.2 ≡ call → other.3 ≡ rest → one ≡ other
told_two A B n p call rest one other t e d u f g = is one t e d ∙ sym (is other u f g)
  where
    is : (o : ℕ × List ℕ × A × B) → (o.0 ≡ n) × (o.1 ≡ p) → o.2 ≡ call → o.3 ≡ rest → o ≡ (n, p, call, rest)
    is o t e d =
        ap (λ (x : ℕ). (x, o.1, o.2, o.3)) t.0
        ∙ ap (λ (x : List ℕ). (n, x, o.2, o.3)) t.1
        ∙ ap (λ (x : A). (n, p, x, o.3)) e
        ∙ ap (λ (x : B). (n, p, call, x)) d

pub determined_for_c : DeterminedForC
determined_for_c = (
  λ n d book one other e f. told _ _ _ _ one other e.0 e.1 f.0 f.1,
  λ s book work one other e f. told_two _ _ _ _ _ _ one other e.0 e.1 e.2 f.0 f.1 f.2,
  λ n s table line k one other e f. told _ _ _ _ one other e.0 e.1 f.0 f.1,
  λ book version type one other e f. told _ _ _ _ one other e.0 e.1 f.0 f.1,
  λ book version day depot block one other e f. told _ _ _ _ one other e.0 e.1 f.0 f.1,
  λ book version type first last one other e f. told _ _ _ _ one other e.0 e.1 f.0 f.1,
  λ book version type one other e f. told _ _ _ _ one other e.0 e.1 f.0 f.1,
  λ book version type first last one other e f. told _ _ _ _ one other e.0 e.1 f.0 f.1,
  λ book out one other e f. told_two _ _ _ _ _ _ one other e.0 e.1 e.2 f.0 f.1 f.2,
  λ call one other e f. told _ _ _ _ one other e.0 e.1 f.0 f.1,
)
