-- Powers: one more factor, a 1 shifted, and shares of 2^k. Assumes nothing.
use Prim.Native.Nat.{ℕ, zero, suc, ◌+◌, ◌-◌, ◌*◌, ◌/◌, ◌%◌, ◌^◌, ◌≤◌, ◌<◌}
use mathlib.Core.Path.{◌≡◌, ap, sym, ◌∙◌}
use native.Mathlib.Nat.{le_trans, one-mul, mul_assoc, pow-succ', div-lt_self}
use native.Mathlib.Omega.{arith}
use lib.Dec.{lit<}
use lib.Pow.{pow_pos, pow_mono, pow-add, shl_exact}
use Rattle.laws.proofs.Division.{div-some}

-- ---- one factor

-- the next factor goes to the front
pub mul_pow_suc : (b x k : ℕ) → x * b ^ suc k ≡ x * b * b ^ k
mul_pow_suc b x k = ap (λ (n : ℕ). x * n) (pow-succ' b k) ∙ sym (mul_assoc x b (b ^ k))

-- halving what is left of a search
pub pow_half : (n : ℕ) → 0 < n → 2 ^ n ≡ 2 * 2 ^ (n - 1)
pow_half n h = let e : n ≡ 1 + (n - 1) = omega arith in ap (λ (k : ℕ). 2 ^ k) e ∙ pow-add 2 1 (n - 1)

-- a power of 2 that is no 1 has an exponent
pub pow_some : (n : ℕ) → 2 ≤ 2 ^ n → 0 < n
pow_some zero h = absurd (omega arith)
pow_some (suc n) h = omega arith

-- ---- shifts in w bits

-- a 1 shifted by less than the width
pub shl_one : (w n : ℕ) → n < w → 1 * 2 ^ n % 2 ^ w ≡ 2 ^ n
shl_one w n h = shl_exact {a = 1} 1 n w (lit< tt) (omega arith) ∙ one-mul (2 ^ n)

-- a share of r is not empty, and not all of it
pub shr_some : (r k m : ℕ) → k ≤ m → 2 ^ m ≤ r → 0 < r / 2 ^ k
shr_some r k m h l = div-some (pow_pos k) (le_trans (pow_mono h) l)

-- a half or less is less than all
pub shr_part : (r k : ℕ) → 0 < r → 1 ≤ k → r / 2 ^ k < r
shr_part r k p h = div-lt_self p (pow_mono h)
