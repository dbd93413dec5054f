-- How often a range is scaled: one step at a time. Assumes nothing.
use Prim.Native.Nat.{ℕ, zero, suc, ◌*◌, ◌≤◌, ◌<◌}
use mathlib.Core.Path.{◌≡◌}
use native.Mathlib.Omega.{arith}
use lib.Dec.{ltb}
use borrow.Author.Tests.{lt-ltb, le-ltb}
use Rattle.laws.proofs.Tests.{by_le, cond-le}
use Rattle.entcode.specs.Range.{renorm_steps}

-- a range above 2^23 is not scaled
pub steps_done : (r : ℕ) → 8388608 < r → renorm_steps r ≡ 0
unfolding renorm_steps
steps_done r h = simp (lt-ltb _ _ h)

-- any other is scaled once, and then as often as the larger range
pub steps_next : (r : ℕ) → 0 < r → r ≤ 8388608 → renorm_steps r ≡ suc (renorm_steps (r * 256))
unfolding renorm_steps
steps_next r p q =
    by_le r 32768
    (λ h.
    by_le r 128
    (λ k.
    simp (
      le-ltb 8388608 r q,
      le-ltb 32768 r h,
      le-ltb 128 r k,
      le-ltb 8388608 (r * 256) (omega arith),
      le-ltb 32768 (r * 256) (omega arith),
      lt-ltb 128 (r * 256) (omega arith),
    ))
    (λ k.
    simp (
      le-ltb 8388608 r q,
      le-ltb 32768 r h,
      lt-ltb 128 r k,
      le-ltb 8388608 (r * 256) (omega arith),
      lt-ltb 32768 (r * 256) (omega arith),
    )))
    (λ h. simp (le-ltb 8388608 r q, lt-ltb 32768 r h, lt-ltb 8388608 (r * 256) (omega arith)))

-- a statement P k r, k steps being due at the range r, holds if it holds when none is due and one step keeps it
module _ (P : ℕ → ℕ → Type 0) (none : (r : ℕ) → 8388608 < r → r ≤ 2147483648 → P 0 r)
    (step : (k r : ℕ) → 0 < r → r ≤ 8388608 → P k (r * 256) → P (suc k) r) where
  -- one step, or none
  step-at : (r : ℕ) → 0 < r → r ≤ 2147483648 → (r ≤ 8388608 → P (renorm_steps (r * 256)) (r * 256)) → P (renorm_steps r) r
  step-at r p q f =
      by_le r 8388608
      (λ h. rw (steps_next r p h) (step (renorm_steps (r * 256)) r p h (f h)))
      (λ h. rw (steps_done r h) (none r h q))

  -- three steps are enough for every range
  pub steps_ind : (r : ℕ) → 0 < r → r ≤ 2147483648 → P (renorm_steps r) r
  steps_ind r p q =
      step-at r p q
      (λ h. step-at (r * 256) (omega arith) (omega arith)
      (λ h2. step-at (r * 256 * 256) (omega arith) (omega arith)
      (λ h3. step-at (r * 256 * 256 * 256) (omega arith) (omega arith) (λ h4. absurd (omega arith)))))

-- the range after k steps
unfoldable pub scaled : ℕ → ℕ → ℕ
scaled zero r = r
scaled (suc k) r = scaled k (r * 256)

-- a range that is in order
pub record Scaled (r : ℕ) : Type 0 where
  pub range_gt : 8388608 < r
  pub range_le : r ≤ 2147483648

-- the steps bring every range in order
pub steps_scaled : (r : ℕ) → 0 < r → r ≤ 2147483648 → Scaled (scaled (renorm_steps r) r)
unfolding scaled
steps_scaled = steps_ind (λ k r. Scaled (scaled k r)) (λ r h q. record { range_gt = h; range_le = q }) (λ k r p q f. f)

-- at most three
pub steps_le : (r : ℕ) → renorm_steps r ≤ 3
unfolding renorm_steps
steps_le r =
    cond-le (ltb 8388608 r) (λ h. omega arith)
    (λ h. cond-le (ltb 32768 r) (λ h. omega arith) (λ h. cond-le (ltb 128 r) (λ h. omega arith) (λ h. omega arith)))
