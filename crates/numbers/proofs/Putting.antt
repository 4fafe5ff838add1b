-- A text put at the head of a buffer, a byte behind it, and the rest of the buffer lent on. Assumes nothing.
use mathlib.Core.Path.{◌≡◌}
use mathlib.Core.List.{◌++◌, append_assoc, [], ◌∷◌, append-nil}
use Prim.Native.Nat.{ℕ, ◌<◌, ◌+◌, ◌-◌}
use native.Mathlib.Numerals.{add-one}
use native.Mathlib.Omega.{arith}
use lib.ListN.{length, take, drop, length-append, set, get_or, length-drop, drop_of_length-le}
use lib.Seq.{take-append_seam, drop-append_seam, drop-drop, drop-cons, set-append_seam, length-take-le, take-suc, take_all}
use borrow.Rule.Slice.PartMut.{same_len_mid}
use Rattle.words.specs.Words.{Bytes}
use Rattle.numbers.specs.Putting.{put}

-- a text behind a text
put_more : (t u o : Bytes) → take (length t) (put t o) ++ put u (drop (length t) (put t o)) ≡ put (t ++ u) o
put_more t u o = rw (take-append_seam, drop-append_seam, drop-drop, length-append, append_assoc)

-- a byte stored behind a text
put_set : (t o : Bytes) (b : ℕ) → length t < length o → set (put t o) (length t) b ≡ put (t ++ (b ∷ [])) o
put_set t o b h = rw (drop-cons o (length t) 0 h, set-append_seam, length-append, add-one, append_assoc)

pub put_byte : (t o p : Bytes) (a b : ℕ) → a ≡ length t → p ≡ put t o → a < length o → set p a b ≡ put (t ++ (b ∷ [])) o
put_byte t o p a b ea ep h = rw (ep, ea) (put_set t o b (omega arith))

-- the first bytes of a text, and the next one
pub put_next : (s o p : Bytes) (i : ℕ) → i < length s → i < length o → p ≡ put (take i s) o → set p i (get_or s i 0) ≡ put (take (i + 1) s) o
put_next s o p i h l e =
    let k : i ≡ length (take i s) = rw (length-take-le i s (omega arith)) in
    rw (add-one, take-suc s i 0 h) (put_byte (take i s) o p i (get_or s i 0) k e l)

-- the rest from a place on is lent to a call that puts a text at its head: `p[a..]` is `rest p a`, and with what comes back the whole is `back p a ys`
abbrev pub rest : Bytes → ℕ → Bytes
rest p a = take (length p - a) (drop a p)

abbrev pub back : Bytes → ℕ → Bytes → Bytes
back p a ys = take a p ++ (ys ++ drop (length p - a) (drop a p))

rest_is : (p : Bytes) (a : ℕ) → rest p a ≡ drop a p
rest_is p a = take_all (length p - a) (drop a p) (simp length-drop (omega arith))

pub length_rest : (p : Bytes) (a : ℕ) → length (rest p a) ≡ length p - a
length_rest p a = rw (rest_is p a, length-drop)

pub length_back : (p ys : Bytes) (a : ℕ) → length ys ≡ length (rest p a) → length (back p a ys) ≡ length p
length_back p ys a h = same_len_mid a (length p - a) p ys h

pub lent : (t u o p ys : Bytes) (a : ℕ) → a ≡ length t → p ≡ put t o → ys ≡ put u (rest p a) → back p a ys ≡ put (t ++ u) o
lent t u o p ys a ea ep ey =
    let none : drop (length p - a) (drop a p) ≡ [] = drop_of_length-le (drop a p) {i = length p - a} (simp length-drop (omega arith)) in
    rw (none, append-nil, ey, rest_is p a, ep, ea) (put_more t u o)
