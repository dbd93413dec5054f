-- Laws of the counts: they are symmetric, rise along a row and down a column, and V is the sum of two neighbours of U. Assumes nothing.
use Prim.Native.Nat.{ℕ, zero, suc, ◌+◌, ◌-◌, ◌≤◌, ◌<◌}
use mathlib.Core.Path.{◌≡◌, refl, sym, ap, ◌∙◌, subst}
use native.Mathlib.Nat.{le_trans, add-zero, add-suc, not-suc-le-zero}
use native.Mathlib.Numerals.{add-one}
use native.Mathlib.Omega.{arith}
use borrow.Author.Tests.{lt-ltb, le-ltb}
use Rattle.laws.proofs.Tests.{by_le}
use Rattle.cwrs_counts.specs.Count.{U, Vn, count32}

-- ---- the recurrence

-- the corner
pub U_00 : U zero zero ≡ 1
unfolding U
U_00 = refl

-- one edge
pub U_0s : (k : ℕ) → U zero (suc k) ≡ 0
unfolding U
U_0s k = refl

-- the other edge
pub U_s0 : (n : ℕ) → U (suc n) zero ≡ 0
unfolding U
U_s0 n = refl

-- inside: the sum of three neighbours
pub U_ss : (n k : ℕ) → U (suc n) (suc k) ≡ U n (suc k) + U (suc n) k + U n k
unfolding U
U_ss n k = refl

-- rows and columns may change places, so that the table holds half
pub U_sym : (n k : ℕ) → U n k ≡ U k n
U_sym zero zero = refl
U_sym zero (suc k) = U_0s k ∙ sym (U_s0 k)
U_sym (suc n) zero = U_s0 n ∙ sym (U_0s n)
U_sym (suc n) (suc k) = omega (arith, U_ss n k, U_ss k n, U_sym n (suc k), U_sym (suc n) k, U_sym n k)

-- ---- a row rises

-- from one place to the next
pub up1 : (n k : ℕ) → U (suc n) k ≤ U (suc n) (suc k)
up1 n k = omega (arith, U_ss n k)

-- by j places
up : (n k j : ℕ) → U (suc n) k ≤ U (suc n) (k + j)
up n k zero = omega (arith, ap (U (suc n)) (add-zero k))
up n k (suc j) = omega (arith, up n k j, up1 n (k + j), ap (U (suc n)) (add-suc k j))

-- from any place to any later one
pub up_le : (n : ℕ) {k l : ℕ} → k ≤ l → U (suc n) k ≤ U (suc n) l
up_le n {k} {l} h = subst (λ (m : ℕ). U (suc n) k ≤ U (suc n) m) (omega arith) (up n k (l - k))

-- and so does a column
pub over-le : (k : ℕ) {n m : ℕ} → n ≤ m → U n (suc k) ≤ U m (suc k)
over-le k {n} {m} h = omega (arith, U_sym n (suc k), U_sym m (suc k), up_le k h)

-- so a count rises with the row and the place
pub both-le : {n m k l : ℕ} → n ≤ m → k ≤ l → U (suc n) (suc k) ≤ U (suc m) (suc l)
both-le {n} {m} {k} {l} h g = le_trans (up_le n (omega arith)) (over-le l (omega arith))

-- ---- V(N,K) = U(N,K) + U(N,K+1)

-- the second column
pub U_s1 : (n : ℕ) → U (suc n) 1 ≡ 1
U_s1 zero = omega (arith, U_ss 0 0, U_s0 0, U_00, U_0s 0)
U_s1 (suc n) = omega (arith, U_ss (suc n) 0, U_s0 (suc n), U_s0 n, U_s1 n)

-- the sum of two neighbours of a row
pub V_is : (n k : ℕ) → Vn n k ≡ U n k + U n (suc k)
unfolding Vn
V_is zero zero = omega (arith, U_00, U_0s 0)
V_is zero (suc k) = omega (arith, U_0s k, U_0s (suc k))
V_is (suc n) zero = omega (arith, U_s0 n, U_s1 n)
V_is (suc n) (suc k) = omega (arith, U_ss n k, U_ss n (suc k), V_is n (suc k), V_is (suc n) k, V_is n k)

-- one place has a vector, and two have four where there is a pulse
pub V_some : (n k : ℕ) → 1 ≤ n → 1 ≤ Vn n k
V_some zero k h = absurd (not-suc-le-zero h)
V_some (suc n) k h = omega (arith, V_is (suc n) k, both-le {n = n} {m = n} {k = 0} {l = k} (omega arith) (omega arith), U_s1 n)

-- so a uniform number below the count can be read
pub V_four : (n k : ℕ) → 2 ≤ n → 1 ≤ k → 4 ≤ Vn n k
V_four zero k h g = absurd (not-suc-le-zero h)
V_four (suc n) zero h g = absurd (not-suc-le-zero g)
V_four (suc n) (suc k) h g =
    omega (
      arith,
      V_is (suc n) (suc k),
      both-le {n = 1} {m = n} {k = 0} {l = k} (omega arith) (omega arith),
      U_s1 1,
      both-le {n = 1} {m = n} {k = 1} {l = suc k} (omega arith) (omega arith),
      U_ss 1 1,
      U_s1 0,
      U_s1 1,
      U_sym 1 2,
    )

-- ---- where 32 bits hold it

module _ (n k : ℕ) {r : ℕ} (is : r ≡ count32 n k) where
  -- what fits is the count
  pub count-is : Vn n k < 4294967296 → r ≡ Vn n k
  unfolding count32
  count-is h = rw (lt-ltb (Vn n k) 4294967296 h) at is

  -- 0 says that it does not fit
  pub count-zero : 1 ≤ n → r ≡ 0 → 4294967296 ≤ Vn n k
  count-zero g e = by_le 4294967296 (Vn n k) (λ h. h) (λ h. absurd (omega (arith, count-is h, V_some n k g)))

  -- and any other that it does
  pub count-some : (r ≡ 0 → ⊥) → Vn n k < 4294967296
  unfolding count32
  count-some g =
      by_le 4294967296 (Vn n k) (λ h. absurd (g (rw (le-ltb (Vn n k) 4294967296 h) at is))) (λ h. h)

-- ---- the same at the code's k + 1, for n from 1 on

-- as up1
pub up1' : (n k : ℕ) → 1 ≤ n → U n k ≤ U n (k + 1)
up1' zero k h = absurd (not-suc-le-zero h)
up1' (suc n) k h = omega (arith, up1 n k, ap (U (suc n)) (add-one k))

-- as V_is
pub V_is' : (n k : ℕ) → Vn n k ≡ U n k + U n (k + 1)
V_is' n k = omega (arith, V_is n k, ap (U n) (add-one k))

-- as up_le
pub up-le' : (n : ℕ) → 1 ≤ n → (k l : ℕ) → k ≤ l → U n k ≤ U n l
up-le' zero g k l h = absurd (not-suc-le-zero g)
up-le' (suc n) g k l h = up_le n h

-- one place fewer: the vectors of n places with fewer than k + 1 pulses, without those with fewer than k
pub V_one_fewer : (n k : ℕ) → 1 ≤ n → Vn (n - 1) k ≡ U n (k + 1) - U n k
V_one_fewer zero k h = absurd (not-suc-le-zero h)
V_one_fewer (suc n) k h =
    let e : suc n - 1 ≡ n = omega arith in
    rw e (omega (arith, V_is n k, U_ss n k, ap (U (suc n)) (add-one k)))
