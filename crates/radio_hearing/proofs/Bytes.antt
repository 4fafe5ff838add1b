-- Bytes of a line put behind others, and the line that they end. Assumes nothing.
use mathlib.Core.Path.{◌≡◌, refl, ap, sym, subst, ◌∙◌}
use mathlib.Core.Bool.{Bool, true, false}
use mathlib.Core.List.{[], ◌∷◌, ◌++◌, append_assoc}
use Prim.Native.Nat.{ℕ, zero, suc, ◌+◌, ◌-◌, ◌≤◌, ◌<◌}
use native.Mathlib.Omega.{arith}
use lib.ListN.{length, get_or, take, drop, length-append, length-drop, take-append-drop}
use lib.Seq.{take-append-le, take-take, take-add, take_at, drop_at, drop-drop, length-take-le, get_or-take}
use borrow.Author.Tests.{eq-eqb, ne_eqb}
use Rattle.words.specs.Words.{Bytes, whether◌then◌else◌}
use Rattle.numbers.specs.Putting.{put}
use Rattle.numbers.proofs.Putting.{rest, back, lent}
use Rattle.editions.specs.declared.Edition.{Edition}
use Rattle.editions.specs.declared.Edition.TheVariants.{Dino21}
use Rattle.cells.specs.declared.State.{State}
use Rattle.cells.specs.declared.State.TheVariants.{Fresh}
use Rattle.lines.specs.Lines.{quoting, quoting_behind, ends_row}
use Rattle.lines.specs.Ends.{feed_from}
use Rattle.lines.proofs.Lining.{feed_plain}
use Rattle.radio.specs.Radio.{ended, ends_line}
use Rattle.radio.proofs.Parting.{behind_one}
use Rattle.radio_lines.specs.Lines.{Finished}
use Rattle.radio_hearing.specs.Hearing.{Feedless}

-- bytes put behind r bytes that stand at place m --------------------------------------------------------------------------------------

put_behind : (l tail l' ys : Bytes) (a : ℕ) → a ≤ length l → ys ≡ put tail (rest l a) → l' ≡ back l a ys → l' ≡ put (take a l ++ tail) l
put_behind l tail l' ys a h ey e =
    let n : a ≡ length (take a l) = sym (length-take-le a l h) in
    let p : l ≡ put (take a l) l = sym (ap (λ (k : ℕ). take a l ++ drop k l) (sym n) ∙ take-append-drop a l) in
    e ∙ lent (take a l) tail l l ys a n p ey

module _ (l tail l' r' : Bytes) (m r : ℕ) (h : m + r ≤ length l) (e : l' ≡ (take (m + r) l ++ tail) ++ r') where
  pub front_stays : (n : ℕ) → n ≤ m → take n l' ≡ take n l
  front_stays n k =
      let long : length (take (m + r) l) ≡ m + r = length-take-le (m + r) l h in
      ap (take n) (e ∙ append_assoc (take (m + r) l) tail r')
      ∙ take-append-le n (take (m + r) l) (tail ++ r') (omega arith)
      ∙ take-take n (m + r) l (omega arith)

  pub rest_grows : take (r + length tail) (drop m l') ≡ take r (drop m l) ++ tail
  rest_grows =
      let t : Bytes = take r (drop m l) in
      let long : length (take m l) ≡ m = length-take-le m l (omega arith) in
      let short : length t ≡ r = length-take-le r (drop m l) (rw length-drop (omega arith)) in
      let all : length (t ++ tail) ≡ r + length tail = length-append t tail ∙ ap (λ (k : ℕ). k + length tail) short in
      let is : l' ≡ take m l ++ ((t ++ tail) ++ r') =
      e ∙ ap (λ (z : Bytes). (z ++ tail) ++ r') (take-add m r l) ∙ ap (λ (z : Bytes). z ++ r') (append_assoc (take m l) t tail) ∙ append_assoc (take m l) (t ++ tail) r' in
      ap (λ (z : Bytes). take (r + length tail) z) (ap (drop m) is ∙ drop_at (take m l) ((t ++ tail) ++ r') m long)
      ∙ take_at (t ++ tail) r' (r + length tail) all

pub behind_kept : (l tail ys : Bytes) (m r : ℕ) → m + r ≤ length l → ys ≡ put tail (rest l (m + r)) →
    ((n : ℕ) → n ≤ m → take n (back l (m + r) ys) ≡ take n l) × (take (r + length tail) (drop m (back l (m + r) ys)) ≡ take r (drop m l) ++ tail)
behind_kept l tail ys m r h ey =
    let e : back l (m + r) ys ≡ put (take (m + r) l ++ tail) l = put_behind l tail (back l (m + r) ys) ys (m + r) h ey refl in
    (front_stays l tail (back l (m + r) ys) _ m r h e, rest_grows l tail (back l (m + r) ys) _ m r h e)

-- one carriage return at the end ----------------------------------------------------------------------------------------------------

ended_return : (s : Bytes) (n : ℕ) → length s ≡ suc n → get_or s n 0 ≡ 13 → ended s ≡ take n s
unfolding ended
ended_return [] n l e = absurd (omega arith)
ended_return (x ∷ []) zero l e = rw (eq-eqb x 13 e)
ended_return (x ∷ []) (suc n) l e = absurd (omega arith)
ended_return (x ∷ (y ∷ ys)) zero l e = absurd (omega arith)
ended_return (x ∷ (y ∷ ys)) (suc n) l e = ap (λ (z : Bytes). x ∷ z) (ended_return (y ∷ ys) n (omega arith) e)

ended_other : (s : Bytes) (n : ℕ) → length s ≡ suc n → (get_or s n 0 ≡ 13 → ⊥) → ended s ≡ s
unfolding ended
ended_other [] n l e = refl
ended_other (x ∷ []) zero l e = rw (ne_eqb x 13 e)
ended_other (x ∷ []) (suc n) l e = absurd (omega arith)
ended_other (x ∷ (y ∷ ys)) zero l e = absurd (omega arith)
ended_other (x ∷ (y ∷ ys)) (suc n) l e = ap (λ (z : Bytes). x ∷ z) (ended_other (y ∷ ys) n (omega arith) e)

get_d_front : (s r : Bytes) (i : ℕ) → i < length s → get_or (s ++ r) i 0 ≡ get_or s i 0
get_d_front [] r i h = absurd (omega arith)
get_d_front (x ∷ s) r zero h = refl
get_d_front (x ∷ s) r (suc i) h = get_d_front s r i (omega arith)

ended_none : (s : Bytes) → length s ≡ 0 → ◌≡◌ {A = Bytes} [] (ended s)
unfolding ended
ended_none [] k = refl
ended_none (x ∷ xs) k = absurd (omega arith)

-- of a line put at the head of a room so many bytes are the line as it ends
abbrev pub EndsAt : Bytes → Bytes → ℕ → Type 0
EndsAt s room n = (n ≤ length room) × (take n room ≡ ended s)

module _ (s room r : Bytes) (n : ℕ) (e : room ≡ s ++ r) (l : n ≡ length s) where
  room_long : length room ≡ n + length r
  room_long = ap length e ∙ length-append s r ∙ ap (λ (k : ℕ). k + length r) (sym l)

  put_long : length (take n room) ≡ n
  put_long = length-take-le n room (omega (arith, room_long))

  last_put : 0 < n → get_or s (n - 1) 0 ≡ get_or (take n room) (length (take n room) - 1) 0
  last_put p = rw put_long (sym (get_d_front s r (n - 1) (omega arith)) ∙ ap (λ (z : Bytes). get_or z (n - 1) 0) (sym e) ∙ sym (get_or-take n room (n - 1) 0 (omega arith)))

  pub together_none : length (take n room) < 1 → EndsAt s room n
  together_none z =
      let none : n ≡ 0 = omega (arith, put_long) in
      (omega (arith, room_long), ap (λ (k : ℕ). take k room) none ∙ ended_none s (omega arith))

  pub together_return : 1 ≤ length (take n room) → get_or (take n room) (length (take n room) - 1) 0 ≡ 13 → EndsAt s room (n - 1)
  together_return p b =
      let k : n - 1 ≤ length s = omega arith in
      let byte : get_or s (n - 1) 0 ≡ 13 = last_put (omega (arith, put_long)) ∙ b in
      (omega (arith, room_long), ap (take (n - 1)) e ∙ take-append-le (n - 1) s r k ∙ sym (ended_return s (n - 1) (omega (arith, put_long)) byte))

  pub together_other : 1 ≤ length (take n room) → (get_or (take n room) (length (take n room) - 1) 0 ≡ 13 → ⊥) → EndsAt s room n
  together_other p b =
      let some : 0 < n = omega (arith, put_long) in
      (omega (arith, room_long), ap (take n) e ∙ take_at s r n (sym l) ∙ sym (ended_other s (n - 1) (omega arith) (λ q. b (sym (last_put some) ∙ q))))

-- rows that are finished ------------------------------------------------------------------------------------------------------------

module _ (e : Edition) where
  -- a row up to the line feed that ends it, of which some came before
  finished_row : (rest s : Bytes) → feed_from e (quoting_behind Fresh rest) s < length s → Finished e rest (take (suc (feed_from e (quoting_behind Fresh rest) s)) s)
  unfolding Finished feed_from ends_line
  finished_row rest [] h = absurd (omega arith)
  finished_row rest (x ∷ s) h = go (ends_row e (quoting_behind Fresh rest) x) refl h (finished_row (rest ++ (x ∷ [])) s)
    where
      q : State
      q = quoting_behind Fresh rest

      go : (t : Bool) → ends_row e q x ≡ t → (whether t then 0 else suc (feed_from e (quoting q x) s)) < suc (length s) →
          (feed_from e (quoting_behind Fresh (rest ++ (x ∷ []))) s < length s → Finished e (rest ++ (x ∷ [])) (take (suc (feed_from e (quoting_behind Fresh (rest ++ (x ∷ []))) s)) s)) →
          Finished e (whether t then [] else rest ++ (x ∷ [])) (take (whether t then 0 else suc (feed_from e (quoting q x) s)) s)
      go true k l ih = refl
      go false k l ih = (rw (behind_one Fresh rest x) at ih) (omega arith)

  finished_join : (rest xs ys : Bytes) → Finished e rest xs → Finished e [] ys → Finished e rest (xs ++ ys)
  unfolding Finished
  finished_join rest [] ys h k = subst (λ (z : Bytes). Finished e z ys) (sym h) k
  finished_join rest (x ∷ xs) ys h k = finished_join (whether ends_line e rest x then [] else rest ++ (x ∷ [])) xs ys h k

  -- from a place of a part
  module _ (s : Bytes) (from : ℕ) where
    pub finished_none : (at : ℕ) → at ≡ from → Finished e [] (take (at - from) (drop from s))
    unfolding Finished
    finished_none at h = let z : at - from ≡ 0 = omega arith in rw z refl

    pub finished_on : (at feed : ℕ) → from ≤ at → at ≤ length s → feed ≡ at + feed_from e Fresh (drop at s) → feed < length s
        → Finished e [] (take (at - from) (drop from s)) → Finished e [] (take (feed + 1 - from) (drop from s))
    unfolding quoting_behind
    finished_on at feed l w f h k =
        let n : ℕ = feed_from e Fresh (drop at s) in
        let long : length (drop at s) ≡ length s - at = length-drop at s in
        let one : feed + 1 - from ≡ (at - from) + suc n = omega arith in
        let same : from + (at - from) ≡ at = omega arith in
        let row : Finished e [] (take (suc n) (drop at s)) = finished_row [] (drop at s) (omega arith) in
        let both : Finished e [] (take (at - from) (drop from s) ++ take (suc n) (drop at s)) = finished_join [] (take (at - from) (drop from s)) (take (suc n) (drop at s)) k row in
        let parts : take (feed + 1 - from) (drop from s) ≡ take (at - from) (drop from s) ++ take (suc n) (drop at s) =
        ap (λ (m : ℕ). take m (drop from s)) one ∙ take-add (at - from) (suc n) (drop from s)
        ∙ ap (λ (z : Bytes). take (at - from) (drop from s) ++ take (suc n) z) (drop-drop (at - from) from s ∙ ap (λ (m : ℕ). drop m s) same) in
        subst (Finished e []) (sym parts) both

  pub feedless_end : (s : Bytes) (i : ℕ) → length s ≤ i → Feedless e Fresh (drop i s)
  feedless_end s i h = rw length-drop (omega arith)

  pub feedless_here : (s : Bytes) (at feed : ℕ) → feed ≡ at + feed_from e Fresh (drop at s) → length s ≤ feed → Feedless e Fresh (drop at s)
  feedless_here s at feed f h = rw length-drop (omega arith)

-- by 2.1 quotes do not matter
pub feed_any : (q p : State) (s : Bytes) → feed_from Dino21 q s ≡ feed_from Dino21 p s
feed_any q p s = sym (feed_plain q s) ∙ feed_plain p s

-- nothing came before
pub none_came : (l : Bytes) (n : ℕ) → n ≡ 0 → quoting_behind Fresh (take n l) ≡ Fresh
unfolding quoting_behind
none_came l n h = rw h

pub length_most : (n : ℕ) (s : Bytes) → length (take n s) ≤ n
length_most zero s = omega arith
length_most (suc n) [] = omega arith
length_most (suc n) (x ∷ s) = omega (arith, length_most n s)
