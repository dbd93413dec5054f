-- A finite f32 and at most 1/4 make a finite f32: the largest f32 and 1/4 round to the largest f32, and antt computes that. Assumes nothing.
use Prim.Native.Nat.{ℕ, zero, suc, ◌+◌, ◌-◌, ◌*◌, ◌^◌, ◌%◌, ◌<◌, ◌≤◌, zero-le}
use mathlib.Core.Path.{◌≡◌, refl, sym, ap, ◌∙◌, subst}
use mathlib.Core.Bool.{Bool, true, false, cond, ◌&&◌, beq}
use native.Mathlib.Nat.{le_trans, le_of_eq, le_of_lt, mul-one, mul_assoc, mul-le-mul, mul-le-mul_right, mul-pos, zero-mul, lt_of_mul-lt-mul_right}
use native.Mathlib.Omega.{arith}
use lib.Dec.{T, eqb, ltb, leb, ltb→lt, lit<, lit≤}
use lib.IntN.{pos, negsuc}
use lib.Pow.{pow_pos, pow-add, pow_mono}
use lib.Ieee.{Float, nan, inf, fin, binary32, up, down, fits, round, sum, add}
use lib.Ieee.Exact.{HasValue}
use lib.Ieee.Order.{round_mono}
use lib.Ieee.Fits.{down_pos, and_l, and_r}
use lib.Ieee.Scale.{finite}
use Rattle.laws.proofs.Tests.{by_le}
use Rattle.laws.proofs.Within.{Within, within-finite, within-neg, le-within, round-signed, round-neg}

-- (2^24 - 1) * 2^104
abbrev largest : ℕ
largest = 16777215 * 2 ^ 104

-- (4 * largest + 1) / 4 rounds to largest
top : HasValue (round binary32 false (4 * largest + 1) 4) false largest 1
unfolding round
top = (refl, refl)

-- what is at most a quarter above the largest rounds to at most the largest
round-top : (s : Bool) (n d : ℕ) → 0 < d → n * 4 ≤ (4 * largest + 1) * d → Within (round binary32 s n d) largest 1
round-top s n d D h = go s
  where
    plain : Within (round binary32 false n d) largest 1
    plain =
        le-within (round binary32 false n d) (round binary32 false (4 * largest + 1) 4) largest (round-signed binary32 n d) top
        (round_mono binary32 n d (4 * largest + 1) 4 D (lit< tt) h)

    go : (s : Bool) → Within (round binary32 s n d) largest 1
    go true = subst (λ (z : Float). Within z largest 1) (sym (round-neg binary32 n d)) (within-neg (round binary32 false n d) largest 1 plain)
    go false = plain

-- ---- every finite f32 is at most the largest

-- as omega would have it, over a variable
below_top : {a : ℕ} → a < 16777216 → a ≤ 16777215
below_top h = omega arith

-- m * 2^k below 2^128, in units of 2^104
up-most : (m k : ℕ) → m < 16777216 → m * 2 ^ k < 2 ^ 128 → m * 2 ^ k ≤ largest
up-most m k h l =
    by_le k 104 (λ a. mul-le-mul (below_top h) (pow_mono a))
    (λ a.
    let j : k ≡ (k - 104) + 104 = omega arith in
    let e : m * 2 ^ k ≡ m * 2 ^ (k - 104) * 2 ^ 104
    = ap (λ (z : ℕ). m * 2 ^ z) j ∙ ap (λ (z : ℕ). m * z) (pow-add 2 (k - 104) 104) ∙ sym (mul_assoc m (2 ^ (k - 104)) (2 ^ 104)) in
    let b : m * 2 ^ (k - 104) < 16777216 = lt_of_mul-lt-mul_right (2 ^ 104) (subst (λ (z : ℕ). z < 2 ^ 128) e l) in
    le_trans (le_of_eq e) (mul-le-mul_right (2 ^ 104) (below_top b)))

-- by the exponent's sign
f32-most : (x : Float) → T (fits binary32 x) → T (finite x) → Within x largest 1
unfolding fits
f32-most nan f t = t
f32-most (inf s) f t = t
f32-most (fin s zero e) f t = le_trans (le_of_eq (mul-one (zero * up e))) (subst (λ (z : ℕ). z ≤ largest * down e) (sym (zero-mul (up e))) zero-le)
f32-most (fin s (suc m) (pos k)) f t =
    let a = and_l (eqb (suc m % 2) 1 && ltb (suc m) 16777216 && leb 1 (2 ^ 149)) (ltb (suc m * 2 ^ k) (2 ^ 128 * 1)) f in
    let b = and_l (eqb (suc m % 2) 1 && ltb (suc m) 16777216) (leb 1 (2 ^ 149)) a in
    le_trans (le_of_eq (mul-one (suc m * 2 ^ k)))
    (le_trans
    (up-most (suc m) k (ltb→lt (suc m) 16777216 (and_r (eqb (suc m % 2) 1) (ltb (suc m) 16777216) b))
    (ltb→lt (suc m * 2 ^ k) (2 ^ 128 * 1) (and_r (eqb (suc m % 2) 1 && ltb (suc m) 16777216 && leb 1 (2 ^ 149)) (ltb (suc m * 2 ^ k) (2 ^ 128 * 1)) f)))
    (le_of_eq (sym (mul-one largest))))
f32-most (fin s (suc m) (negsuc k)) f t =
    let a = and_l (eqb (suc m % 2) 1 && ltb (suc m) 16777216 && leb (2 ^ suc k) (2 ^ 149)) (ltb (suc m * 1) (2 ^ 128 * 2 ^ suc k)) f in
    let b = and_l (eqb (suc m % 2) 1 && ltb (suc m) 16777216) (leb (2 ^ suc k) (2 ^ 149)) a in
    let l : suc m < 16777216 = ltb→lt (suc m) 16777216 (and_r (eqb (suc m % 2) 1) (ltb (suc m) 16777216) b) in
    le_trans (le_of_eq (mul-one (suc m * 1) ∙ mul-one (suc m)))
    (le_trans (le_of_lt l) (le_trans (le_of_eq (sym (mul-one 16777216))) (mul-le-mul {n₁ = 16777216} {n₂ = largest} (lit≤ tt) (pow_pos (suc k)))))

-- ---- the sum

-- of either sign, the sum or the difference
sum_top : (s t : Bool) (A B C : ℕ) → 0 < C → (A + B) * 4 ≤ (4 * largest + 1) * C → Within (sum binary32 s A t B C) largest 1
unfolding sum
sum_top s t A B C c h = go (beq s t) (ltb A B)
  where
    scaled-le : (x y : ℕ) → x ≤ y → y * 4 ≤ (4 * largest + 1) * C → x * 4 ≤ (4 * largest + 1) * C
    scaled-le x y l h = le_trans (mul-le-mul_right 4 l) h

    ba : B - A ≤ A + B
    ba = omega arith

    ab : A - B ≤ A + B
    ab = omega arith

    go : (p q : Bool) → Within (cond p (round binary32 s (A + B) C) (cond q (round binary32 t (B - A) C) (round binary32 (s && ltb B A) (A - B) C))) largest 1
    go true q = round-top s (A + B) C c h
    go false true = round-top t (B - A) C c (scaled-le (B - A) (A + B) ba h)
    go false false = round-top (s && ltb B A) (A - B) C c (scaled-le (A - B) (A + B) ab h)

-- over a common denominator
lift : (L p q P Q : ℕ) → p * 1 ≤ L * P → q * 4 ≤ 1 * Q → (p * Q + q * P) * 4 ≤ (4 * L + 1) * (P * Q)
lift L p q P Q h k =
    let a : p * 1 * Q ≤ L * P * Q = mul-le-mul_right Q h in
    let b : q * 4 * P ≤ 1 * Q * P = mul-le-mul_right P k in
    let c : L * P * Q ≡ L * (P * Q) = mul_assoc L P Q in
    omega arith

-- the largest and a quarter at most
sum-most : (x y : Float) → Within x largest 1 → Within y 1 4 → Within (add binary32 x y) largest 1
unfolding add
sum-most nan y h k = elim h [ ]
sum-most (inf _) y h k = elim h [ ]
sum-most (fin s m e) nan h k = elim k [ ]
sum-most (fin s m e) (inf _) h k = elim k [ ]
sum-most (fin s m e) (fin u n d) h k =
    sum_top s u (m * up e * down d) (n * up d * down e) (down e * down d) (mul-pos (down_pos e) (down_pos d))
    (lift largest (m * up e) (n * up d) (down e) (down d) h k)

-- so the sum is finite
pub quarter_finite : (x y : Float) → T (fits binary32 x) → T (finite x) → Within y 1 4 → T (finite (add binary32 x y))
quarter_finite x y f t w = within-finite (add binary32 x y) largest 1 (sum-most x y (f32-most x f t) w)
