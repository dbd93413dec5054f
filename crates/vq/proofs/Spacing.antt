-- f32 near m / 2^j, for an m of 24 digits: none lies between m / 2^j and (m + 1) / 2^j, nor, unless m is the least such number, between
-- (m - 1) / 2^j and m / 2^j. Assumes nothing.
use Prim.Native.Nat.{ℕ, zero, suc, ◌+◌, ◌-◌, ◌*◌, ◌^◌, ◌%◌, ◌<◌, ◌≤◌}
use mathlib.Core.Path.{◌≡◌, sym, ap, ◌∙◌, subst}
use mathlib.Core.Logic.{◌⊎◌, inl, inr}
use mathlib.Core.Bool.{Bool, false, ◌&&◌}
use native.Mathlib.Nat.{le_trans, le_of_eq, le_of_lt, lt_of_lt_of_le, lt_of_le_of_lt, lt_irrefl, mul_assoc, mul-one, mul-lt-mul_of_pos_right, mul-le-mul_right}
use native.Mathlib.Nat.{lt_of_mul-lt-mul_right}
use native.Mathlib.Omega.{arith}
use lib.Dec.{T, eqb, ltb, leb, ltb→lt}
use lib.IntN.{ℤ, pos, negsuc}
use lib.Pow.{pow_pos, pow-add, pow_mono}
use lib.Ieee.{Float, fin, binary32, up, down, fits, low, emax}
use lib.Ieee.Fits.{and_l, and_r}
use lib.Ieee.Positive.{num, den, positive}
use Rattle.laws.proofs.Tests.{le_or_lt}

-- a value's number has 24 digits at most
digits : (s : Bool) (p : ℕ) (e : ℤ) → T (fits binary32 (fin s (suc p) e)) → suc p < 16777216
unfolding fits
digits s p e t =
    ltb→lt (suc p) 16777216
    (and_r (eqb (suc p % 2) 1) (ltb (suc p) 16777216)
    (and_l (eqb (suc p % 2) 1 && ltb (suc p) 16777216) (leb (down e) (2 ^ low binary32))
    (and_l (eqb (suc p % 2) 1 && ltb (suc p) 16777216 && leb (down e) (2 ^ low binary32)) (ltb (suc p * up e) (2 ^ suc (emax binary32) * down e)) t)))

-- either y * 2^j is a whole number, or it is below 2^23
abbrev Spaced : ℕ → ℕ → ℕ → Type 0
Spaced j a d = ((k : ℕ) × (a * 2 ^ j ≡ k * d)) ⊎ (a * 2 ^ j < 8388608 * d)

-- by the exponent
spaced : (j : ℕ) (y : Float) → T (fits binary32 y) → T (positive y) → Spaced j (num y) (den y)
spaced j lib.Ieee.nan t p = elim p [ ]
spaced j (lib.Ieee.inf _) t p = elim p [ ]
spaced j (fin mathlib.Core.Bool.true _ e) t p = elim p [ ]
spaced j (fin false zero e) t p = absurd (lt_irrefl 0 (ltb→lt 0 0 p))
spaced j (fin false (suc p) (pos k)) t q = inl (suc p * 2 ^ k * 2 ^ j, sym (mul-one (suc p * 2 ^ k * 2 ^ j)))
spaced j (fin false (suc p) (negsuc k)) t q = go (le_or_lt (suc k) j)
  where
    go : (suc k ≤ j) ⊎ (j < suc k) → Spaced j (suc p * 1) (2 ^ suc k)
    go (inl l) =
        let e : 2 ^ j ≡ 2 ^ (j - suc k) * 2 ^ suc k = ap (λ (x : ℕ). 2 ^ x) (omega arith) ∙ pow-add 2 (j - suc k) (suc k) in
        inl (suc p * 1 * 2 ^ (j - suc k), ap (λ (x : ℕ). suc p * 1 * x) e ∙ sym (mul_assoc (suc p * 1) (2 ^ (j - suc k)) (2 ^ suc k)))
    go (inr l) =
        let a : suc p * 1 * 2 ^ j < 16777216 * 2 ^ j =
        mul-lt-mul_of_pos_right (lt_of_le_of_lt (le_of_eq (mul-one (suc p))) (digits false p (negsuc k) t)) (pow_pos j)
        in
        let b : 2 ^ (j + 1) ≤ 2 ^ suc k = pow_mono (omega arith) in
        inr (omega (arith, pow-add 2 j 1))

-- the next f32 above m / 2^j is no nearer than (m + 1) / 2^j
pub above : (m j : ℕ) (y : Float) → T (fits binary32 y) → T (positive y) → 8388608 ≤ m → m * den y < num y * 2 ^ j → (m + 1) * den y ≤ num y * 2 ^ j
above m j y t p h l = go (spaced j y t p)
  where
    go : Spaced j (num y) (den y) → (m + 1) * den y ≤ num y * 2 ^ j
    go (inl w) =
        let g : m < w.0 = lt_of_mul-lt-mul_right (den y) (subst (λ (x : ℕ). m * den y < x) w.1 l) in
        le_trans (mul-le-mul_right (den y) (omega arith)) (le_of_eq (sym w.1))
    go (inr w) = absurd (lt_irrefl (m * den y) (lt_of_lt_of_le (lt_of_lt_of_le l (le_of_lt w)) (mul-le-mul_right (den y) h)))

-- and the next below no nearer than (m - 1) / 2^j
pub below : (m j : ℕ) (y : Float) → T (fits binary32 y) → T (positive y) → 8388608 < m → num y * 2 ^ j < m * den y → num y * 2 ^ j + den y ≤ m * den y
below m j y t p h l = go (spaced j y t p)
  where
    go : Spaced j (num y) (den y) → num y * 2 ^ j + den y ≤ m * den y
    go (inl w) =
        let g : w.0 < m = lt_of_mul-lt-mul_right (den y) (subst (λ (x : ℕ). x < m * den y) w.1 l) in
        let a : (w.0 + 1) * den y ≤ m * den y = mul-le-mul_right (den y) (omega arith) in
        let e = w.1 in
        omega arith
    go (inr w) =
        let a : (8388608 + 1) * den y ≤ m * den y = mul-le-mul_right (den y) (omega arith) in
        omega arith
