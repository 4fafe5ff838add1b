-- Some hours closed by computation: quotients from one second to the most there can be, and sums that are not the quotient. Assumes nothing.
use mathlib.Core.Path.{◌≡◌, refl, sym, ap, ◌∙◌}
use mathlib.Core.List.{[], ◌∷◌}
use mathlib.Core.Bool.{Bool, true, false}
use Prim.Native.Nat.{ℕ, ◌*◌, ◌^◌}
use native.Mathlib.Omega.{arith}
use lib.IntN.{pos, negsuc}
use lib.Dec.{leb}
use lib.Ieee.{Float, nan, inf, fin, up, down, of_int, add, div}
use borrow.Author.Tests.{le-leb}
use Rattle.hour_numbers.specs.Hours.{hours_of, none, clerk_from, clerk, apart, Near}

-- quotients ----------------------------------------------------------------------------------------------------------------------------

one_second : hours_of 1 ≡ fin false 5124095576030431 (negsuc 63)
unfolding of_int div
one_second = refl

three_seconds : hours_of 3 ≡ fin false 7686143364045647 (negsuc 62)
unfolding of_int div
three_seconds = refl

second_short_of_an_hour : hours_of 3599 ≡ fin false 1125587156868501 (negsuc 49)
unfolding of_int div
second_short_of_an_hour = refl

one_hour : hours_of 3600 ≡ fin false 1 (pos 0)
unfolding of_int div
one_hour = refl

second_past_an_hour : hours_of 3601 ≡ fin false 1126212656816747 (negsuc 49)
unfolding of_int div
second_past_an_hour = refl

one_and_a_half : hours_of 5400 ≡ fin false 3 (negsuc 0)
unfolding of_int div
one_and_a_half = refl

longest_block : hours_of 999999 ≡ fin false 4886713458952765 (negsuc 43)
unfolding of_int div
longest_block = refl

longest_type : hours_of (512 * 999999) ≡ fin false 4886713458952765 (negsuc 34)
unfolding of_int div
longest_type = refl

longest_season : hours_of (800 * (512 * 999999)) ≡ fin false 111111 (pos 10)
unfolding of_int div
longest_season = refl

-- the last whole number below 2 to the 53rd
last_without_loss : hours_of 9007199254740991 ≡ fin false 2562047788015215 (negsuc 9)
unfolding of_int div
last_without_loss = refl

-- sums ---------------------------------------------------------------------------------------------------------------------------------

blocks_of_no_time : clerk (0 ∷ 0 ∷ []) ≡ none
unfolding clerk_from of_int add div
blocks_of_no_time = refl

one_block : clerk (3 ∷ []) ≡ fin false 7686143364045647 (negsuc 62)
unfolding clerk_from of_int add div
one_block = refl

whole_hours : clerk (3600 ∷ 7200 ∷ 10800 ∷ []) ≡ fin false 3 (pos 1)
unfolding clerk_from of_int add div
whole_hours = refl

-- 1 + 1 + 1 seconds are less than 3 where each block's hours are rounded
each_rounded : clerk (1 ∷ 1 ∷ 1 ∷ []) ≡ fin false 3843071682022823 (negsuc 61)
unfolding clerk_from of_int add div
each_rounded = refl

-- the order counts
shortest_first : clerk (1 ∷ 1 ∷ 4 ∷ []) ≡ fin false 3843071682022823 (negsuc 60)
unfolding clerk_from of_int add div
shortest_first = refl

longest_first : clerk (4 ∷ 1 ∷ 1 ∷ []) ≡ fin false 7686143364045647 (negsuc 61)
unfolding clerk_from of_int add div
longest_first = refl

-- no nearer ----------------------------------------------------------------------------------------------------------------------------

-- the bound as a test
abbrev within : ℕ → ℕ → ℕ → Float → Bool
within p n S nan = false
within p n S (inf s) = false
within p n S (fin s m e) = leb (2 ^ p * apart (3600 * (m * up e)) (S * down e)) (n * (S * down e))

tested : (p n S : ℕ) (x : Float) → Near p n S x → within p n S x ≡ true
tested p n S x v = ap (within p n S) v.is ∙ le-leb (2 ^ p * apart (3600 * (v.m * up v.e)) (S * down v.e)) (n * (S * down v.e)) v.near

-- 2 to the 54th is too much to ask of 3 seconds
no_nearer : Near 54 1 3 (hours_of 3) → ⊥
no_nearer v =
    let e : ◌≡◌ {A = Bool} true false = sym (tested 54 1 3 (hours_of 3) v) ∙ ap (within 54 1 3) three_seconds in
    let z : ◌≡◌ {A = ℕ} 0 1 = cc in
    absurd (omega arith)
