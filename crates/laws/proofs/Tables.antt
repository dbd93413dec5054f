-- A table's rule at every place, from a test over all of them that antt computes: `refl` proves the test, and a lemma here gives the rule.
-- Assumes nothing.
use Prim.Native.Nat.{ℕ, zero, suc, ◌+◌, ◌-◌, ◌≤◌, ◌<◌}
use mathlib.Core.Path.{◌≡◌}
use mathlib.Core.Bool.{Bool, true, ◌&&◌, and-eq-true_iff}
use native.Mathlib.Nat.{add-zero, le_refl, le_trans}
use native.Mathlib.Omega.{arith}
use lib.Dec.{leb, ltb}
use borrow.Author.Tests.{leb-true, ltb-true}

-- ---- numbers in a row

-- the test f at the n numbers from a on
abbrev pub run : (ℕ → Bool) → ℕ → ℕ → Bool
run f a zero = true
run f a (suc n) = f a && run f (suc a) n

-- at the j-th of them
run-plus : (f : ℕ → Bool) (a n : ℕ) → run f a n ≡ true → (j : ℕ) → j < n → f (a + j) ≡ true
run-plus f a zero t j h = absurd (omega arith)
run-plus f a (suc n) t zero h = rw add-zero ((and-eq-true_iff (f a) (run f (suc a) n)).0 t).0
run-plus f a (suc n) t (suc j) h =
    let e : a + suc j ≡ suc a + j = omega arith in
    rw e (run-plus f (suc a) n ((and-eq-true_iff (f a) (run f (suc a) n)).0 t).1 j (omega arith))

-- at each of them
pub run_at : (f : ℕ → Bool) (a n : ℕ) → run f a n ≡ true → (i : ℕ) → a ≤ i → i < a + n → f i ≡ true
run_at f a n t i l h =
    let e : a + (i - a) ≡ i = omega arith in
    rw e at (run-plus f a n t (i - a) (omega arith))

-- at each number below n
pub below_at : (f : ℕ → Bool) (n : ℕ) → run f 0 n ≡ true → (i : ℕ) → i < n → f i ≡ true
below_at f n t i h = run_at f 0 n t i (omega arith) (omega arith)

infixr 20 ◌&◌
-- a fact at each of the n numbers from a on, where no test decides it: `refl & refl & refl & end` for three
pub data Few (P : ℕ → Type 0) : ℕ → ℕ → Type 0 where
  end : {a : ℕ} → Few P a zero
  ◌&◌ : {a n : ℕ} → P a → Few P (suc a) n → Few P a (suc n)

-- at the j-th of them
few-plus : (P : ℕ → Type 0) (a n : ℕ) → Few P a n → (j : ℕ) → j < n → P (a + j)
few-plus P a zero end j h = absurd (omega arith)
few-plus P a (suc n) (p & t) zero h = rw add-zero p
few-plus P a (suc n) (p & t) (suc j) h =
    let e : a + suc j ≡ suc a + j = omega arith in
    rw e (few-plus P (suc a) n t j (omega arith))

-- at each number below n
pub few-at : (P : ℕ → Type 0) (n : ℕ) → Few P 0 n → (i : ℕ) → i < n → P i
few-at P n t i h =
    let e : 0 + i ≡ i = omega arith in
    rw e at (few-plus P 0 n t i h)

-- ---- neighbours

module _ (f : ℕ → ℕ) (n : ℕ) where
  -- k steps from i
  steps : ((i : ℕ) → i < n → f i ≤ f (suc i)) → (k i : ℕ) → i + k ≤ n → f i ≤ f (i + k)
  steps h zero i g = rw add-zero (le_refl (f i))
  steps h (suc k) i g =
      let e : i + suc k ≡ suc (i + k) = omega arith in
      rw e (le_trans (steps h k i (omega arith)) (h (i + k) (omega arith)))

  -- what falls at no step below n falls nowhere up to n
  pub rises_from : ((i : ℕ) → i < n → f i ≤ f (suc i)) → (i j : ℕ) → i ≤ j → j ≤ n → f i ≤ f j
  rises_from h i j l g =
      let e : i + (j - i) ≡ j = omega arith in
      rw e at (steps h (j - i) i (omega arith))

  -- the same by a computed test
  pub rises : run (λ i. leb (f i) (f (suc i))) 0 n ≡ true → (i j : ℕ) → i ≤ j → j ≤ n → f i ≤ f j
  rises t = rises_from (λ i h. leb-true (f i) (f (suc i)) (below_at (λ i. leb (f i) (f (suc i))) n t i h))

  -- a computed test of each step up: it rises everywhere
  pub rises_strictly : run (λ i. ltb (f i) (f (suc i))) 0 n ≡ true → (i j : ℕ) → i < j → j ≤ n → f i < f j
  rises_strictly t i j l g =
      let up : (k : ℕ) → k < n → f k < f (suc k) = λ k h. ltb-true (f k) (f (suc k)) (below_at (λ i. ltb (f i) (f (suc i))) n t k h) in
      le_trans (up i (omega arith)) (rises_from (λ k h. omega (arith, up k h)) (suc i) j l g)
