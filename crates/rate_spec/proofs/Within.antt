-- The bits before skipping are within the budget, and the reservations within the total. Assumes nothing.
use Prim.Native.Nat.{ℕ, zero, suc, ◌+◌, ◌-◌, ◌/◌, ◌≤◌, ◌<◌, min}
use mathlib.Core.Bool.{Bool, true, false, cond, ◌&&◌, and-eq-true_iff}
use mathlib.Core.Logic.{◌⊎◌}
use mathlib.Core.Path.{◌≡◌, refl, ◌∙◌, ap, fun_ext}
use native.Mathlib.Nat.{min-le_left, le_trans, mul-zero, zero-mul}
use native.Mathlib.Omega.{arith}
use lib.Dec.{leb, eqb}
use borrow.Author.Tests.{leb-true, ltb-false, le-ltb, le-leb}
use Rattle.laws.proofs.Tests.{cond-is, cond-le}
use Rattle.laws.proofs.Sums.{sum_mono, sum-zero}
use Rattle.laws.specs.Places.{sum_of}
use Rattle.modes.specs.Fractions.{fraction}
use Rattle.modes.proofs.VectorRule.{step-first}
use Rattle.rate_spec.specs.Types.{AllocIn}
use Rattle.rate_spec.specs.Domain.{AllocInOk}
use Rattle.rate_spec.specs.Trials.{bits_of, floored, halve, kept_bits, over, reached, sixtyfourths, trial_takes, vector}
use Rattle.rate_spec.specs.Reserves.{budget, dual_reserve, intensity_reserve, skip_reserve, stereo_fits}
use Rattle.rate_spec.specs.Vectors.{interpolated, lower_bits, trimmed, vector_bits}
use Rattle.rate_spec.proofs.Rounds.{floored-le}

-- a search that starts within the budget ends within it
pub halve-within : (over : ℕ → Bool) (n lo hi : ℕ) → over lo ≡ false → over (halve over n lo hi).0 ≡ false
unfolding halve
halve-within over zero lo hi h = h
halve-within over (suc n) lo hi h = stop _ (leb hi (suc lo)) (halve-within over n _ _ (down (over ((lo + hi) / 2)) refl))
  where
    down : (b : Bool) → over ((lo + hi) / 2) ≡ b → over (cond b lo ((lo + hi) / 2)) ≡ false
    down true e = h
    down false e = e

    stop : {x : ℕ} (y : ℕ) (b : Bool) → over x ≡ false → over (cond {A = ℕ × ℕ} b (lo, 0) (x, y)).0 ≡ false
    stop y true e = h
    stop y false e = e

module _ (a : AllocIn) where
  keeps-le : (x : ℕ → ℕ) (j : ℕ) → kept_bits a x j ≤ trial_takes a x j
  unfolding kept_bits trial_takes
  keeps-le x j = go (reached a x j (a.end - j))
    where
      go : (b : Bool) → min (cond b (x j) (floored a (x j))) (a.cap j) ≤ cond b (min (x j) (a.cap j)) (floored a (x j))
      go true = omega arith
      go false = min-le_left (floored a (x j)) (a.cap j)

  takes-le : (x : ℕ → ℕ) (j : ℕ) → trial_takes a x j ≤ x j
  unfolding trial_takes
  takes-le x j = cond-le (reached a x j (a.end - j)) (λ e. min-le_left (x j) (a.cap j)) (λ e. floored-le a (x j))

  -- a trial that is not over leaves bits for all that the bands keep
  kept-within : (x : ℕ → ℕ) → over a x ≡ false → sum_of (kept_bits a x) a.start (a.end - a.start) ≤ budget a
  unfolding over
  kept-within x e =
      le_trans (sum_mono (kept_bits a x) (trial_takes a x) (a.end - a.start) a.start (λ i p q. keeps-le x i))
      (ltb-false (budget a) (sum_of (trial_takes a x) a.start (a.end - a.start)) e)

  -- vector 0 gives nothing
  vector-zero : (j : ℕ) → j < 21 → vector_bits a 0 j ≡ 0
  unfolding vector_bits
  vector-zero j h = rw (step-first j h) (simp (mul-zero, zero-mul))

  low-zero : (j : ℕ) → j < 21 → lower_bits a 0 j ≡ 0
  unfolding lower_bits trimmed
  low-zero j h = rw (vector-zero j h)

  -- so it is within every budget
  pub nothing-within : AllocInOk a → over a (lower_bits a 0) ≡ false
  unfolding over
  nothing-within o =
      le-ltb (budget a) (sum_of (trial_takes a (lower_bits a 0)) a.start (a.end - a.start))
      (omega (
        arith,
        sum_mono (trial_takes a (lower_bits a 0)) (lower_bits a 0) (a.end - a.start) a.start (λ i p q. takes-le (lower_bits a 0) i),
        sum-zero (lower_bits a 0) (a.end - a.start) a.start (λ i p q. low-zero i (omega arith)),
      ))

  -- no 64ths of the way is the vector itself
  pub interpolated-zero : (v : ℕ) → interpolated a v 0 ≡ lower_bits a v
  unfolding interpolated
  interpolated-zero v = fun_ext (λ j. omega arith)

  -- the bits before skipping are within the budget
  pub first-within : AllocInOk a → sum_of (bits_of a) a.start (a.end - a.start) ≤ budget a
  unfolding vector sixtyfourths bits_of
  first-within o =
      kept-within _ (halve-within (λ q. over a (interpolated a (vector a).0 q)) 6 0 64
      (ap (over a) (interpolated-zero (vector a).0) ∙ halve-within (λ v. over a (lower_bits a v)) 4 0 11 (nothing-within o)))

  -- the reservations
  skip-le : skip_reserve a ≤ a.total
  unfolding skip_reserve
  skip-le = cond-le (leb 8 a.total) (λ e. leb-true 8 a.total e) (λ e. omega arith)

  intensity-le : intensity_reserve a ≤ a.total - skip_reserve a
  unfolding intensity_reserve stereo_fits
  intensity-le =
      let f = fraction (a.end - a.start) in
      cond-le (stereo_fits a) (λ e. leb-true f (a.total - skip_reserve a) ((and-eq-true_iff (eqb a.C 2) (leb f (a.total - skip_reserve a))).0 e).1)
      (λ e. omega arith)

  dual-le : dual_reserve a ≤ a.total - skip_reserve a - intensity_reserve a
  unfolding dual_reserve
  dual-le =
      let m = a.total - skip_reserve a - intensity_reserve a in
      cond-le (stereo_fits a && leb 8 m) (λ e. leb-true 8 m ((and-eq-true_iff (stereo_fits a) (leb 8 m)).0 e).1) (λ e. omega arith)

  -- the reservations and the budget make up the total
  pub reserved : budget a + skip_reserve a + intensity_reserve a + dual_reserve a ≡ a.total
  unfolding budget
  reserved = omega (arith, skip-le, intensity-le, dual-le)

  -- the reservation for intensity is the table's or nothing
  pub intensity-is : (intensity_reserve a ≡ fraction (a.end - a.start)) ⊎ (intensity_reserve a ≡ 0)
  unfolding intensity_reserve
  intensity-is = cond-is (stereo_fits a) (fraction (a.end - a.start)) 0

  -- that for dual stereo is a bit or nothing
  pub dual-is : (dual_reserve a ≡ 8) ⊎ (dual_reserve a ≡ 0)
  unfolding dual_reserve
  dual-is = cond-is (stereo_fits a && leb 8 (a.total - skip_reserve a - intensity_reserve a)) 8 0

  -- that for skipping is a bit where the total has one
  pub skip_is : 8 ≤ a.total → skip_reserve a ≡ 8
  unfolding skip_reserve
  skip_is h = rw (le-leb 8 a.total h)
