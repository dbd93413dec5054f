-- Shares of a number, and rounding up to a multiple. Assumes nothing.
use Prim.Native.Nat.{ℕ, zero, suc, ◌+◌, ◌-◌, ◌*◌, ◌/◌, ◌%◌, ◌≤◌, ◌<◌}
use native.Mathlib.Nat.{le_trans, mul-zero, mul-le-mul_left, div-mul-le_self, div-add-mod', le-div_iff_mul-le, lt-div-mul-add}
use native.Mathlib.Omega.{arith}

-- a number that holds n has a share
pub div-some : {r n : ℕ} → 0 < n → n ≤ r → 0 < r / n
div-some p h = (le-div_iff_mul-le p).1 (omega arith)

-- m of n equal shares
pub share-le : (r n m : ℕ) → m ≤ n → r / n * m ≤ r
share-le r n m h = le_trans (mul-le-mul_left (r / n) h) (div-mul-le_self r n)

-- n - d of n equal shares, with the part of the remainder above d
pub share-rest-le : (r n d : ℕ) → r / n * (n - d) + (r % n - d) ≤ r
share-rest-le r n d = omega (arith, div-add-mod' r n, mul-le-mul_left {m = n - d} {n = n} (r / n) (omega arith))

-- what a product bounds from above has a second factor
pub factor_pos : (v q x : ℕ) → v < q * x → 0 < x
factor_pos v q zero h = absurd (omega (arith, mul-zero q))
factor_pos v q (suc x) h = omega arith

-- rounding up to a multiple of m goes up
pub le-round-up : (x : ℕ) {m : ℕ} → 0 < m → x ≤ (x + (m - 1)) / m * m
le-round-up x {m} p = let h = lt-div-mul-add {a = x + (m - 1)} {b = m} p in omega arith
