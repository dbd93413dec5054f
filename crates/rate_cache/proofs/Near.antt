-- What is the greatest index below, and what the least above. Assumes nothing.
use Prim.Native.Nat.{ℕ, zero, suc, ◌+◌, ◌≤◌, ◌<◌}
use mathlib.Core.Path.{◌≡◌, sym}
use mathlib.Core.Bool.{true, false}
use mathlib.Core.Logic.{◌⊎◌, inl, inr, ⊎_elim}
use native.Mathlib.Nat.{eq-or-lt_of_le}
use native.Mathlib.Omega.{arith}
use lib.IntN.{ℤ}
use lib.Signed.{lt_z, le_z}
use Rattle.rate_cache.specs.Nearest.{low, high}

module _ (entry : ℕ → ℤ) (b : ℤ) where
  -- lo is 0 or its entry is below b, and no entry above lo is
  pub low-is : (n lo : ℕ) → lo ≤ n → (lo ≡ 0) ⊎ (lt_z (entry lo) b ≡ true) → ((i : ℕ) → lo < i → i ≤ n → lt_z (entry i) b ≡ false) → low entry b n ≡ lo
  unfolding low
  low-is zero lo h z above = omega arith
  low-is (suc n) lo h z above =
      ⊎_elim top (λ g. rw (above (suc n) g (omega arith)) (low-is n lo (omega arith) z (λ i p q. above i p (omega arith)))) (eq-or-lt_of_le h)
    where
      hit : (lo ≡ suc n) → (lo ≡ 0) ⊎ (lt_z (entry lo) b ≡ true) → lt_z (entry (suc n)) b ≡ true
      hit e (inl o) = absurd (omega arith)
      hit e (inr o) = rw e at o

      top : (lo ≡ suc n) → low entry b (suc n) ≡ lo
      top e = rw (hit e z) (sym e)

  -- hi is the last or its entry is at least b, and no entry from i up to it is
  pub high_is : (n i hi : ℕ) → i ≤ hi → hi ≤ i + n → (hi ≡ i + n) ⊎ (le_z b (entry hi) ≡ true) → ((x : ℕ) → i ≤ x → x < hi → le_z b (entry x) ≡ false)
      → high entry b i n ≡ hi
  unfolding high
  high_is zero i hi h g z under = omega arith
  high_is (suc n) i hi h g z under =
      ⊎_elim here
      (λ e. rw (under i (omega arith) e) (high_is n (suc i) hi (omega arith) (omega arith) (further z) (λ x p q. under x (omega arith) q)))
      (eq-or-lt_of_le h)
    where
      hit : (i ≡ hi) → (hi ≡ i + suc n) ⊎ (le_z b (entry hi) ≡ true) → le_z b (entry i) ≡ true
      hit e (inl o) = absurd (omega arith)
      hit e (inr o) = rw (← e) at o

      here : (i ≡ hi) → high entry b i (suc n) ≡ hi
      here e = rw (hit e z) e

      further : (hi ≡ i + suc n) ⊎ (le_z b (entry hi) ≡ true) → (hi ≡ suc i + n) ⊎ (le_z b (entry hi) ≡ true)
      further (inl o) = inl (omega arith)
      further (inr o) = inr o
