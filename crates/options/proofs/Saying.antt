-- What a word asks for, by how it compares. Assumes nothing.
use mathlib.Core.Path.{◌≡◌, refl}
use mathlib.Core.List.{List}
use mathlib.Core.Bool.{Bool, true, false}
use Prim.Native.Nat.{ℕ}
use Rattle.std.specs.Prelude.{Some, None, nat_eq}
use Rattle.std.specs.Option.{unwrap_or}
use Rattle.std.specs.Cmp.Lexicographic.{pointwise, same_text, other_text}
use Rattle.words.specs.Words.{Bytes, whether◌then◌else◌, same, bytes}
use Rattle.words.proofs.Lists.{same_refl, same_true}
use Rattle.numbers.specs.Numbers.{is_decimal, value}
use Rattle.numbers.specs.Decimals.{decimal_of}
use Rattle.options.specs.Options.{edition_said, day_said}

-- what a test of two texts says is what `same` says
pub compared : (b : Bool) (xs ys : List ℕ) → b ≡ pointwise nat_eq xs ys → same xs ys ≡ b
compared true xs ys h = rw (same_text xs ys h) (same_refl ys)
compared false xs ys h = go (same xs ys) refl
  where
    go : (t : Bool) → same xs ys ≡ t → t ≡ false
    go true e = absurd (other_text xs ys h (same_true xs ys e))
    go false e = refl

module _ (word : Bytes) where
  pub said_21 : same word (bytes "--edition=2.1") ≡ true → 21 ≡ edition_said word
  said_21 e = rw e

  pub said_23 : same word (bytes "--edition=2.1") ≡ false → same word (bytes "--edition=2.3") ≡ true → 23 ≡ edition_said word
  said_23 e f = rw (e, f)

  pub said_none : same word (bytes "--edition=2.1") ≡ false → same word (bytes "--edition=2.3") ≡ false → 0 ≡ edition_said word
  said_none e f = rw (e, f)

  -- a day is what the word is read as, or 0
  pub day_or_none : unwrap_or (decimal_of 8 word) 0 ≡ day_said word
  unfolding decimal_of
  day_or_none = go (is_decimal 8 word)
    where
      go : (t : Bool) → unwrap_or (whether t then Some (value word) else None) 0 ≡ (whether t then value word else 0)
      go true = refl
      go false = refl
