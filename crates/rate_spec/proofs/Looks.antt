-- How many trials a search takes, whatever is over. Assumes nothing.
use Prim.Native.Nat.{ℕ, zero, suc, ◌+◌, ◌/◌, ◌≤◌, min, max}
use mathlib.Core.Bool.{Bool, true, false, cond}
use mathlib.Core.Logic.{◌⊎◌, inl, inr}
use mathlib.Core.Path.{◌≡◌}
use native.Mathlib.Omega.{arith}
use lib.Dec.{leb}
use borrow.Author.Tests.{leb-true, leb-false}
use Rattle.laws.proofs.Tests.{split_on}
use Rattle.rate_spec.specs.Types.{AllocIn}
use Rattle.rate_spec.specs.Trials.{halve, vector}

-- the fewest trials, over both answers of each
unfoldable fewest_trials : ℕ → ℕ → ℕ → ℕ
fewest_trials zero lo hi = 0
fewest_trials (suc n) lo hi = cond (leb hi (suc lo)) 0 (suc (min (fewest_trials n lo ((lo + hi) / 2)) (fewest_trials n ((lo + hi) / 2) hi)))

-- the most
unfoldable most_trials : ℕ → ℕ → ℕ → ℕ
most_trials zero lo hi = 0
most_trials (suc n) lo hi = cond (leb hi (suc lo)) 0 (suc (max (most_trials n lo ((lo + hi) / 2)) (most_trials n ((lo + hi) / 2) hi)))

trials_in : (over : ℕ → Bool) (n lo hi : ℕ) → (fewest_trials n lo hi ≤ (halve over n lo hi).1) × ((halve over n lo hi).1 ≤ most_trials n lo hi)
unfolding halve fewest_trials most_trials
trials_in over zero lo hi = omega arith
trials_in over (suc n) lo hi = go (leb hi (suc lo)) (over ((lo + hi) / 2)) (trials_in over n lo ((lo + hi) / 2)) (trials_in over n ((lo + hi) / 2) hi)
  where
    mid : ℕ
    mid = (lo + hi) / 2

    go : (b o : Bool) → (fewest_trials n lo mid ≤ (halve over n lo mid).1) × ((halve over n lo mid).1 ≤ most_trials n lo mid)
        → (fewest_trials n mid hi ≤ (halve over n mid hi).1) × ((halve over n mid hi).1 ≤ most_trials n mid hi)
        → (cond b 0 (suc (min (fewest_trials n lo mid) (fewest_trials n mid hi)))
        ≤ (cond {A = ℕ × ℕ} b (lo, 0) ((halve over n (cond o lo mid) (cond o mid hi)).0, suc (halve over n (cond o lo mid) (cond o mid hi)).1)).1)
        × ((cond {A = ℕ × ℕ} b (lo, 0) ((halve over n (cond o lo mid) (cond o mid hi)).0, suc (halve over n (cond o lo mid) (cond o mid hi)).1)).1
        ≤ cond b 0 (suc (max (most_trials n lo mid) (most_trials n mid hi))))
    go true o p q = omega arith
    go false true p q = omega arith
    go false false p q = omega arith

module _ (a : AllocIn) where
  three_to_four : (3 ≤ (vector a).1) × ((vector a).1 ≤ 4)
  unfolding vector fewest_trials most_trials
  three_to_four = trials_in _ 4 0 11

  -- three or four vectors are tried
  pub vector-trials : ((vector a).1 ≡ 3) ⊎ ((vector a).1 ≡ 4)
  vector-trials =
      let b = three_to_four in
      split_on (leb (vector a).1 3) (λ e. inl (omega (arith, leb-true (vector a).1 3 e))) (λ e. inr (omega (arith, leb-false (vector a).1 3 e)))
