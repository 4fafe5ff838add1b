-- Zeros written behind the two lines that are kept, in rooms of h and r bytes. Assumes nothing.
use mathlib.Core.Path.{◌≡◌, ap, sym, ◌∙◌}
use mathlib.Core.List.{[], ◌++◌, append_assoc, append-nil}
use Prim.Native.Nat.{ℕ, ◌+◌, ◌-◌, ◌≤◌}
use native.Mathlib.Omega.{arith}
use lib.ListN.{length, take, drop, replicate, length-append, length-drop, length-replicate, drop_of_length-le}
use lib.Seq.{length-take-le, take-append-add, drop-append-add, drop-drop}
use Rattle.words.specs.Words.{Bytes}
use Rattle.words.proofs.Lists.{part_length}
use Rattle.radio.specs.Room.{padded}

-- a stretch of a slice lent on, and what came back
abbrev back : ℕ → ℕ → Bytes → Bytes → Bytes
back a n l y = take a l ++ (y ++ drop n (drop a l))

abbrev blank : ℕ → ℕ → Bytes → Bytes
blank a n l = replicate (length (take n (drop a l))) 0

module _ (h r a b : ℕ) (l : Bytes) (long : length l ≡ h + r) (inHead : a ≤ h) (inRest : b ≤ r) where
  abbrev head : Bytes
  head = padded h (take a l)

  abbrev rest : Bytes
  rest = drop h l

  pub a_long : length (take a l) ≡ a
  a_long = length-take-le a l (omega arith)

  pub b_long : length (take b (drop h l)) ≡ b
  b_long = length-take-le b (drop h l) (omega (arith, length-drop h l))

  head_long : length head ≡ h
  head_long = length-append (take a l) (replicate (h - length (take a l)) 0) ∙ omega (arith, a_long, length-replicate {A = ℕ} (h - length (take a l)) 0)

  first : (y : Bytes) → y ≡ blank a (h - a) l → back a (h - a) l y ≡ head ++ rest
  first y e =
      let n : a + (h - a) ≡ h = omega arith in
      ap (λ (x : Bytes). take a l ++ (x ++ drop (h - a) (drop a l))) (e ∙ ap (λ (k : ℕ). replicate k 0) (part_length l a h (omega arith) ∙ ap (λ (k : ℕ). h - k) (sym a_long)))
      ∙ ap (λ (x : Bytes). take a l ++ (replicate (h - length (take a l)) 0 ++ x)) (drop-drop (h - a) a l ∙ ap (λ (k : ℕ). drop k l) n)
      ∙ sym (append_assoc (take a l) (replicate (h - length (take a l)) 0) rest)

  second : (y : Bytes) → y ≡ blank (h + b) ((h + r) - (h + b)) (head ++ rest) → back (h + b) ((h + r) - (h + b)) (head ++ rest) y ≡ head ++ padded r (take b rest)
  second y e =
      let n : (h + r) - (h + b) ≡ r - b = omega arith in
      let t : take (h + b) (head ++ rest) ≡ head ++ take b rest = ap (λ (k : ℕ). take (k + b) (head ++ rest)) (sym head_long) ∙ take-append-add head rest b in
      let d : drop (h + b) (head ++ rest) ≡ drop b rest = ap (λ (k : ℕ). drop (k + b) (head ++ rest)) (sym head_long) ∙ drop-append-add head rest b in
      let m : h + r ≤ length (head ++ rest) = omega (arith, length-append head rest, head_long, length-drop h l) in
      let z : y ≡ replicate (r - length (take b rest)) 0 =
      e ∙ ap (λ (k : ℕ). replicate k 0) (part_length (head ++ rest) (h + b) (h + r) m ∙ n ∙ ap (λ (k : ℕ). r - k) (sym b_long)) in
      let o : drop ((h + r) - (h + b)) (drop (h + b) (head ++ rest)) ≡ [] =
      ap (drop ((h + r) - (h + b))) d ∙ drop_of_length-le (drop b rest) {i = (h + r) - (h + b)} (omega (arith, length-drop b rest, length-drop h l)) in
      ap (λ (x : Bytes). x ++ (y ++ drop ((h + r) - (h + b)) (drop (h + b) (head ++ rest)))) t
      ∙ ap (λ (x : Bytes). (head ++ take b rest) ++ (y ++ x)) o
      ∙ ap (λ (x : Bytes). (head ++ take b rest) ++ x) (append-nil y ∙ z)
      ∙ append_assoc head (take b rest) (replicate (r - length (take b rest)) 0)

  pub zeros_behind : (x y m : Bytes) → x ≡ blank a (h - a) l → m ≡ back a (h - a) l x → y ≡ blank (h + b) ((h + r) - (h + b)) m
      → back (h + b) ((h + r) - (h + b)) m y ≡ padded h (take a l) ++ padded r (take b (drop h l))
  zeros_behind x y m e f g =
      let k : m ≡ head ++ rest = f ∙ first x e in
      ap (λ (u : Bytes). back (h + b) ((h + r) - (h + b)) u y) k ∙ second y (g ∙ ap (blank (h + b) ((h + r) - (h + b))) k)
