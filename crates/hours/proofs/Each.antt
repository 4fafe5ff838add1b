-- A type's blocks one by one: their seconds together are its seconds, and they are as many as its count. Assumes nothing.
use mathlib.Core.Path.{◌≡◌, refl, sym, ap, ◌∙◌}
use mathlib.Core.List.{List, [], ◌∷◌}
use mathlib.Core.Bool.{Bool, true, false}
use Prim.Native.Nat.{ℕ, suc, ◌+◌, ◌*◌, ◌^◌, ◌≤◌, ◌<◌}
use native.Mathlib.Omega.{arith}
use native.Mathlib.Nat.{mul-suc, mul-le-mul}
use lib.ListN.{length, drop, get_or, drop_of_length-le}
use lib.Ieee.{Float, binary64, add}
use Rattle.words.specs.Words.{Row, whether◌then◌else◌}
use Rattle.words.proofs.Lists.{drop_step}
use Rattle.tables.specs.declared.Table.TheVariants.{Block, Calendar}
use Rattle.book.specs.Room.{book_of}
use Rattle.book.proofs.Laying.{orderly_book}
use Rattle.rules.specs.Rules.{seconds}
use Rattle.keeping.specs.Keeping.{keeps_rule}
use Rattle.keeping.proofs.Keeping.{keeps_sound}
use Rattle.questions.specs.Questions.{of_type, total, seconds_of, count_of}
use Rattle.questions.proofs.Sums.{block_seconds}
use Rattle.seasons.specs.Seasons.{season}
use Rattle.seasons.proofs.SeasonClaims.{at_most}
use Rattle.hour_numbers.specs.Hours.{hours_of, none, clerk_from, clerk, together, Near}
use Rattle.hour_numbers.proofs.Clerk.{sum_near, clerk_none}
use Rattle.hours.specs.Calls.{seconds_each}

module _ (version type : ℕ) where
  together_each : (xs : List Row) → together (seconds_each version type xs) ≡ seconds_of version type xs
  unfolding seconds_each together total
  together_each [] = refl
  together_each (x ∷ xs) = go (of_type version type x) (together_each xs)
    where
      go : (here : Bool) → together (seconds_each version type xs) ≡ seconds_of version type xs
          → together (whether here then seconds x ∷ seconds_each version type xs else seconds_each version type xs) ≡ (whether here then seconds x else 0) + seconds_of version type xs
      go true e = ap (λ (n : ℕ). seconds x + n) e
      go false e = omega (arith, e)

  length_each : (xs : List Row) → length (seconds_each version type xs) ≡ count_of version type xs
  unfolding seconds_each total
  length_each [] = refl
  length_each (x ∷ xs) = go (of_type version type x) (length_each xs)
    where
      go : (here : Bool) → length (seconds_each version type xs) ≡ count_of version type xs
          → length (whether here then seconds x ∷ seconds_each version type xs else seconds_each version type xs) ≡ (whether here then 1 else 0) + count_of version type xs
      go true e = omega (arith, e)
      go false e = omega (arith, e)

  -- no block weighs more than `most`
  total_most : (weight : Row → ℕ) (most : ℕ) (xs : List Row) → ((i : ℕ) → i < length xs → weight (get_or xs i []) ≤ most) → total weight version type xs ≤ most * length xs
  unfolding total
  total_most weight most [] h = omega arith
  total_most weight most (x ∷ xs) h =
      let a = total_most weight most xs (λ i l. h (suc i) (omega arith)) in
      let b = go (of_type version type x) (h 0 (omega arith)) in
      let c = mul-suc most (length xs) in
      omega (arith, a, b, c)
    where
      go : (here : Bool) → weight x ≤ most → (whether here then weight x else 0) ≤ most
      go true l = l
      go false l = omega arith

  -- where there is no block there are no seconds, and nothing is summed
  pub none_counted : (xs : List Row) → count_of version type xs ≡ 0 → (seconds_of version type xs ≡ 0) × (clerk (seconds_each version type xs) ≡ none)
  none_counted xs e =
      let nothing : seconds_each version type xs ≡ [] = empty (seconds_each version type xs) (length_each xs ∙ e) in
      (sym (together_each xs) ∙ ap together nothing ∙ zero, ap clerk nothing ∙ clerk_none)
    where
      empty : (ss : List ℕ) → length ss ≡ 0 → ss ≡ []
      empty [] h = refl
      empty (s ∷ ss) h = absurd (omega (arith, h))

      zero : together [] ≡ 0
      zero = unfold together in refl

  -- along the loop -------------------------------------------------------------------------------------------------------------------------

  -- a block of the type adds its hours
  pub each_more : (xs : List Row) (sum : Float) (i : ℕ) → i < length xs → of_type version type (get_or xs i []) ≡ true
      → clerk_from sum (seconds_each version type (drop i xs)) ≡ clerk_from (add binary64 sum (hours_of (seconds (get_or xs i [])))) (seconds_each version type (drop (i + 1) xs))
  unfolding seconds_each clerk_from
  each_more xs sum i l here = rw (drop_step [] xs i l, here)

  -- another adds nothing
  pub each_same : (xs : List Row) (sum : Float) (i : ℕ) → i < length xs → of_type version type (get_or xs i []) ≡ false
      → clerk_from sum (seconds_each version type (drop i xs)) ≡ clerk_from sum (seconds_each version type (drop (i + 1) xs))
  unfolding seconds_each
  each_same xs sum i l here = rw (drop_step [] xs i l, here)

  pub each_end : (xs : List Row) (sum : Float) (i : ℕ) → length xs ≤ i → clerk_from sum (seconds_each version type (drop i xs)) ≡ sum
  unfolding seconds_each clerk_from
  each_end xs sum i h = rw (drop_of_length-le xs h)

  -- in a book that keeps the rule ----------------------------------------------------------------------------------------------------------

  module _ (xs : List Row) (k : keeps_rule xs ≡ true) where
    abbrev blocks : List Row
    blocks = (book_of xs).blocks

    few : length blocks ≤ 512
    few = (orderly_book xs (keeps_sound xs k)).few Block

    seconds_most : seconds_of version type blocks ≤ 999999 * 512
    seconds_most =
        let h = total_most seconds 999999 blocks (λ i l. block_seconds xs k i (get_or blocks i []) l refl) in
        omega (arith, h, few)

    pub seconds_few : seconds_of version type blocks < 2 ^ 53
    seconds_few = omega (arith, seconds_most)

    -- on 800 days at most
    pub season_few : (first last : ℕ) → season first last version type blocks (book_of xs).days < 2 ^ 53
    season_few first last =
        let days = (book_of xs).days in
        let h : seconds_of version type blocks * length days ≤ 999999 * 512 * 800 = mul-le-mul seconds_most ((orderly_book xs (keeps_sound xs k)).few Calendar) in
        omega (arith, at_most first last version type blocks days, h)

    count_few : count_of version type blocks ≤ 2 ^ 52
    count_few =
        let h = total_most (λ x. 1) 1 blocks (λ i l. omega arith) in
        omega (arith, h, few)

    pub each_near : Near 52 (count_of version type blocks) (seconds_of version type blocks) (clerk (seconds_each version type blocks))
    each_near =
        let ss = seconds_each version type blocks in
        let t = together_each blocks in
        let n = length_each blocks in
        rw (← t, ← n) (sum_near ss (rw n count_few) (rw t seconds_few))
