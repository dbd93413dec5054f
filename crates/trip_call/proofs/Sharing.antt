-- Two lists compared entry by entry, and one copied into another. Assumes nothing.
use mathlib.Core.Path.{◌≡◌, refl, ap₂}
use mathlib.Core.Bool.{Bool, true, ◌&&◌}
use mathlib.Core.List.{List, [], ◌∷◌}
use native.Mathlib.Omega.{arith}
use lib.IntN.{ℤ, pos, negsuc}
use borrow.Author.Tests.{le-leb}
use lib.Pointwise.{pointwise}
use Rattle.std.proofs.lemmas.Int.{ints}
use Rattle.std.specs.Ordering.{int_eq}
use Rattle.rate.specs.Allocations.{ReadAllocation, WrittenAllocation}
use Rattle.trip_call.specs.Same.{alike, same_int, same_ints, same_numbers}

-- ---- what is equal compares as the same

-- a number is the same as itself
pub int_same : (z : ℤ) → same_int z z ≡ true
int_same (pos n) = rw (le-leb n n (omega arith))
int_same (negsuc n) = rw (le-leb n n (omega arith))

-- a list is like itself
pub alike_self : {A : Type 0} (same : A → A → Bool) → ((x : A) → same x x ≡ true) → (l : List A) → alike same l l ≡ true
unfolding alike
alike_self same h [] = refl
alike_self same h (x ∷ l) = rw (h x) (alike_self same h l)

-- so a list of numbers is
pub ints_same : (l : List ℤ) → same_ints l l ≡ true
ints_same l = alike_self same_int int_same l

-- equal numbers compare as the same
pub numbers-same : (y : WrittenAllocation) (x : ReadAllocation) → x.coded ≡ y.coded → x.balance ≡ y.balance → x.intensity ≡ y.intensity
    → x.dual ≡ y.dual
    → same_numbers y x ≡ true
numbers-same y x p q r s = rw (p, q, r, s, int_same y.coded, int_same y.balance, int_same y.intensity, int_same y.dual)

-- ---- the library's equality

-- one test of equal numbers is the other
int-eq : (x y : ℤ) → int_eq x y ≡ same_int x y
int-eq x y = grind (arith, ints)

-- so is that of lists
pub ints-eq : (x y : List ℤ) → pointwise int_eq x y ≡ same_ints x y
unfolding alike
ints-eq [] [] = refl
ints-eq [] (b ∷ y) = refl
ints-eq (a ∷ x) [] = refl
ints-eq (a ∷ x) (b ∷ y) = ap₂ ◌&&◌ (int-eq a b) (ints-eq x y)
