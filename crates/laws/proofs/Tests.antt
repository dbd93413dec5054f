-- Cases by a test or by the order of two numbers, and what many tests as one tell. Assumes nothing.
use Prim.Native.Nat.{ℕ, ◌≤◌, ◌<◌}
use mathlib.Core.Path.{◌≡◌, refl}
use mathlib.Core.Bool.{Bool, true, false, cond, ◌&&◌, ◌||◌, and-eq-true_iff}
use mathlib.Core.List.{List, [], ◌∷◌}
use mathlib.Core.Logic.{◌⊎◌, inl, inr}
use lib.Dec.{leb}
use borrow.Author.Tests.{leb-true, leb-false}
use Rattle.laws.specs.Tests.{all_true}

-- ---- by a test

-- by a test and what it says
pub split_on : {P : Type 0} (b : Bool) → (b ≡ true → P) → (b ≡ false → P) → P
split_on true f g = f refl
split_on false f g = g refl

-- a property of a choice, by the test
pub cond-by : {A : Type 0} (P : A → Type 0) (b : Bool) {x y : A} → (b ≡ true → P x) → (b ≡ false → P y) → P (cond b x y)
cond-by P true f g = f refl
cond-by P false f g = g refl

-- a bound on a choice of numbers
pub cond-le : (b : Bool) {x y m : ℕ} → (b ≡ true → x ≤ m) → (b ≡ false → y ≤ m) → cond b x y ≤ m
cond-le true f g = f refl
cond-le false f g = g refl

-- a choice is one of the two
pub cond-is : {A : Type 0} (b : Bool) (x y : A) → (cond b x y ≡ x) ⊎ (cond b x y ≡ y)
cond-is true x y = inl refl
cond-is false x y = inr refl

-- ---- by the order of two numbers

-- one of the two orders
pub le_or_lt : (m n : ℕ) → (m ≤ n) ⊎ (n < m)
le_or_lt m n = split_on (leb m n) (λ e. inl (leb-true m n e)) (λ e. inr (leb-false m n e))

-- by the order of two numbers
pub by_le : {P : Type 0} (m n : ℕ) → (m ≤ n → P) → (n < m → P) → P
by_le m n f g = split_on (leb m n) (λ e. f (leb-true m n e)) (λ e. g (leb-false m n e))

-- ---- many tests

-- a test of both ends, as facts
pub between : (a x b : ℕ) → (leb a x && leb x b) ≡ true → (a ≤ x) × (x ≤ b)
between a x b h =
    let t = (and-eq-true_iff (leb a x) (leb x b)).0 h in
    (leb-true a x t.0, leb-true x b t.1)

-- one of two tests passed
pub or_parts : (a b : Bool) → (a || b) ≡ true → (a ≡ true) ⊎ (b ≡ true)
or_parts true b e = inl refl
or_parts false b e = inr e

-- each of the tests by itself, in their order: `(each_of _ e).0`, `.1 .0`, `.1 .1 .0`
abbrev pub Each : List Bool → Type 0
Each [] = Unit {0}
Each (b ∷ bs) = (b ≡ true) × Each bs

-- many tests as one, taken apart
pub each_of : (bs : List Bool) → all_true bs ≡ true → Each bs
unfolding all_true
each_of [] e = tt
each_of (b ∷ bs) e = let p = (and-eq-true_iff b (all_true bs)).0 e in (p.0, each_of bs p.1)
