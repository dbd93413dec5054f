-- Whole numbers: scaling by fours, the whole part of a square root, and the whole number nearest to it. Assumes nothing.
use Prim.Native.Nat.{ℕ, zero, suc, ◌+◌, ◌-◌, ◌*◌, ◌/◌, ◌%◌, ◌^◌, ◌<◌, ◌≤◌}
use mathlib.Core.Path.{◌≡◌, refl, sym, ap, ◌∙◌, subst}
use mathlib.Core.Bool.{cond}
use native.Mathlib.Nat.{mul-le-mul, mul-le-mul_right, mul-lt-mul_of_pos_right, pow-suc, pow-succ', div-lt_iff_lt-mul}
use native.Mathlib.Omega.{arith}
use lib.Dec.{leb, lit<}
use lib.Pow.{pow_pos, pow-add, pow_mono, shl_exact}
use lib.Ieee.{size}
use lib.Ieee.Digits.{size-lt, size_reaches, size-le}
use borrow.Author.Tests.{leb-true, leb-false}
use Rattle.laws.proofs.Tests.{split_on, by_le}
use Rattle.vq.specs.Root.{sq, whole_root, closer, scale_of, Scaling, Floor, Near}

-- squares rise
pub sq-le : {a b : ℕ} → a ≤ b → a * a ≤ b * b
sq-le h = mul-le-mul h h

-- ---- scaling by fours

-- 4^j as a power of two
pub four : (j : ℕ) → 4 ^ j ≡ 2 ^ (2 * j)
four zero = refl
four (suc j) =
    let e : 2 * j + 2 ≡ 2 * suc j = omega arith in
    pow-suc 4 j ∙ ap (λ (x : ℕ). x * 4) (four j) ∙ sym (pow-add 2 (2 * j) 2) ∙ ap (λ (x : ℕ). 2 ^ x) e

-- and as a square
pub four_square : (j : ℕ) → 4 ^ j ≡ 2 ^ j * 2 ^ j
four_square j = let e : 2 * j ≡ j + j = omega arith in four j ∙ ap (λ (x : ℕ). 2 ^ x) e ∙ pow-add 2 j j

-- a number above 0 has a digit
size-some : (n : ℕ) → 0 < n → 0 < size n
size-some n p =
    by_le 1 (size n) (λ g. g)
    (λ g.
    let e : size n ≡ 0 = omega arith in
    absurd (omega (arith, rw e at (size-lt n))))

-- by the number of digits
pub by_digits : (n b : ℕ) → 1 ≤ b → b ≤ 48 → 2 ^ (b - 1) ≤ n → n < 2 ^ b → Scaling n (n * 4 ^ ((48 - b) / 2)) ((48 - b) / 2)
by_digits n b some top from to =
    let j = (48 - b) / 2 in
    let e : n * 4 ^ j ≡ n * 2 ^ (2 * j) = ap (λ (x : ℕ). n * x) (four j) in
    let low : 2 ^ (b - 1) * 2 ^ (2 * j) ≤ n * 2 ^ (2 * j) = mul-le-mul_right (2 ^ (2 * j)) from in
    let high : n * 2 ^ (2 * j) < 2 ^ b * 2 ^ (2 * j) = mul-lt-mul_of_pos_right to (pow_pos (2 * j)) in
    let l : 2 ^ 46 ≤ 2 ^ (b - 1 + 2 * j) = pow_mono {i = 46} (omega arith) in
    let m : 2 ^ (b + 2 * j) ≤ 2 ^ 48 = pow_mono {j = 48} (omega arith) in
    record {
      is = refl;
      least = omega (arith, pow-add 2 (b - 1) (2 * j));
      most = omega (arith, pow-add 2 b (2 * j));
      small = omega arith;
    }

-- the definition's own
pub scaling : (n : ℕ) → 0 < n → n < 2 ^ 48 → Scaling n (n * 4 ^ scale_of n) (scale_of n)
scaling n p h =
    let some = size-some n p in
    by_digits n (size n) some (size-le n 48 h) (size_reaches n (size n - 1) (omega arith)) (size-lt n)

-- the code's, by a shift
pub shifted : (n b : ℕ) → 1 ≤ b → b ≤ 32 → 2 ^ (b - 1) ≤ n → n < 2 ^ b
    → Scaling n (n * 2 ^ (2 * ((48 - b) / 2)) % 2 ^ 64) ((48 - b) / 2)
shifted n b some top from to =
    let j = (48 - b) / 2 in
    let e : n * 4 ^ j ≡ n * 2 ^ (2 * j) % 2 ^ 64 =
    ap (λ (x : ℕ). n * x) (four j) ∙ sym (shl_exact b (2 * j) 64 to (omega arith))
    in
    subst (λ (v : ℕ). Scaling n v j) e (by_digits n b some (omega arith) from to)

-- ---- the whole part

-- the whole part of a root of 24 digits
pub floor_of : (v s : ℕ) → 2 ^ 46 ≤ v → v < 2 ^ 48 → s * s ≤ v → v < (s + 1) * (s + 1) → Floor v s
floor_of v s l h a b =
    record {
      below = a;
      above = b;
      least = by_le 8388608 s (λ g. g) (λ g. let q : (s + 1) * (s + 1) ≤ 8388608 * 8388608 = sq-le {a = s + 1} {b = 8388608} (omega arith) in absurd
          (omega arith));
      most = by_le 16777216 s (λ g. let q : 16777216 * 16777216 ≤ s * s = sq-le g in absurd (omega arith)) (λ g. g);
    }

-- a product is at most the square of the mean
mean : (a d : ℕ) → 4 * (a * (a + d)) ≤ (a + (a + d)) * (a + (a + d))
mean a d = omega arith

-- s is above the root of v: the mean of s and v / s is not below its whole part, and below s
pub record Closer (v s t : ℕ) : Type 0 where
  pub falls : t < s
  pub least : 8388608 ≤ t
  pub above : v < (t + 1) * (t + 1)

-- one step of the code's search
pub nearer : (v s : ℕ) → 2 ^ 46 ≤ v → 8388608 ≤ s → v < s * s → Closer v s ((s + v / s) / 2)
nearer v s l h g =
    let q = v / s in
    let t = (s + q) / 2 in
    let p : 0 < s = omega arith in
    let under : q < s = (div-lt_iff_lt-mul p).1 g in
    let over : v < (q + 1) * s = (div-lt_iff_lt-mul p).0 (omega arith) in
    let e : q + 1 + (s - (q + 1)) ≡ s = omega arith in
    let m : 4 * ((q + 1) * s) ≤ (q + 1 + s) * (q + 1 + s) =
    subst (λ (x : ℕ). 4 * ((q + 1) * x) ≤ (q + 1 + x) * (q + 1 + x)) e (mean (q + 1) (s - (q + 1)))
    in
    let w : (q + 1 + s) * (q + 1 + s) ≤ 2 * (t + 1) * (2 * (t + 1)) = sq-le (omega arith) in
    let r : v < (t + 1) * (t + 1) = omega (arith, over, m, w) in
    record {
      falls = omega arith;
      least =
          by_le 8388608 t (λ g. g)
          (λ g. let k : (t + 1) * (t + 1) ≤ 8388608 * 8388608 = sq-le {a = t + 1} {b = 8388608} (omega arith) in absurd (omega arith));
      above = r;
    }

-- t is the whole part of the root of v / 4
digit : (v t : ℕ) → t * t ≤ v / 4 → v / 4 < (t + 1) * (t + 1)
    → let s = cond (leb (sq (2 * t + 1)) v) (2 * t + 1) (2 * t) in (s * s ≤ v) × (v < (s + 1) * (s + 1))
digit v t a b =
    split_on (leb (sq (2 * t + 1)) v) (λ e. let l = leb-true (sq (2 * t + 1)) v e in rw e (l, omega arith))
    (λ e. let l = leb-false (sq (2 * t + 1)) v e in rw e (omega arith, l))

-- a binary digit at a time
pub whole_root_lem : (k v : ℕ) → v < 4 ^ k → (whole_root k v * whole_root k v ≤ v) × (v < (whole_root k v + 1) * (whole_root k v + 1))
unfolding whole_root
whole_root_lem zero v h = (omega arith, omega arith)
whole_root_lem (suc k) v h =
    let e = pow-succ' 4 k in
    let i = whole_root_lem k (v / 4) ((div-lt_iff_lt-mul (lit< tt)).1 (omega arith)) in
    digit v (whole_root k (v / 4)) i.0 i.1

-- ---- the nearest whole number

-- the root is in the lower half
pub near_down : (v s : ℕ) → Floor v s → v ≤ s * s + s → Near v s
near_down v s f h = record { below = omega arith; above = h; least = f.least; most = omega arith; exact = λ x. f.below }

-- the root is in the upper half
pub near_up : (v s : ℕ) → Floor v s → s * s + s < v → Near v (s + 1)
near_up v s f h = record { below = omega arith; above = omega arith; least = omega arith; most = omega arith; exact = λ x. omega arith }

-- by which half it is in
pub near_of : (v s : ℕ) → Floor v s → Near v (closer v s)
near_of v s f =
    split_on (leb v (s * s + s)) (λ e. rw e (near_down v s f (leb-true v (s * s + s) e))) (λ e. rw e (near_up v s f (leb-false v (s * s + s) e)))
