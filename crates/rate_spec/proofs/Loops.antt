-- One step of each recursion, with the counts as code has them: j - 1 going down, j + 1 going up. Assumes nothing.
use Prim.Native.Nat.{ℕ, zero, suc, ◌+◌, ◌-◌, ◌/◌, ◌≤◌, ◌<◌}
use mathlib.Core.Bool.{Bool, true, false, cond, ◌||◌}
use mathlib.Core.List.{List, ◌∷◌}
use mathlib.Core.Path.{◌≡◌, refl, ap}
use native.Mathlib.Omega.{arith}
use lib.Dec.{leb, eqb}
use lib.ListN.{get_or}
use borrow.Author.Tests.{le-leb, lt-leb, lt-ltb, le-ltb}
use Rattle.rate_spec.specs.Types.{Ask, AllocIn}
use Rattle.rate_spec.specs.Skips.{Round, asks, dropped, flag_of, last_boost, skip}
use Rattle.rate_spec.specs.Alloc.{band_of, carried, skipped, split_band}
use Rattle.rate_spec.specs.Trials.{halve, reached}
use Rattle.rate_spec.specs.Vectors.{threshold}
use Rattle.rate_spec.proofs.Steps.{stop_at}

-- a trial and the last pass, from the top down
module _ (j e : ℕ) (low : 0 < j) (high : j ≤ e) where
  -- one band lower
  pub reached-down : (a : AllocIn) (x : ℕ → ℕ) → reached a x (j - 1) (e - (j - 1)) ≡ (leb (threshold a (j - 1)) (x (j - 1)) || reached a x j (e - j))
  unfolding reached
  reached-down a x =
      let p : e - (j - 1) ≡ suc (e - j) = omega arith in
      let q : suc (j - 1) ≡ j = omega arith in
      rw (p, q)

-- the spread and the split, from the bottom up
module _ (a : AllocIn) (j : ℕ) (low : a.start ≤ j) where
  next : j + 1 - a.start ≡ suc (j - a.start)
  next = omega arith

  here : a.start + (j - a.start) ≡ j
  here = omega arith

  -- the balance that reaches the next band
  pub carried-up : (bits : ℕ → ℕ) (coded left intensity : ℕ) (dual : Bool)
      → carried a bits coded left intensity dual (j + 1 - a.start) ≡ (split_band a bits coded left intensity dual j
      (carried a bits coded left intensity dual (j - a.start))).balance
  unfolding carried
  carried-up bits coded left intensity dual =
      rw next (ap (λ (i : ℕ). (split_band a bits coded left intensity dual i (carried a bits coded left intensity dual (j - a.start))).balance) here)

  -- the highest boosted band, with one band more
  pub boost_up : last_boost a (j + 1 - a.start) ≡ cond (eqb (a.offset j) 0) (last_boost a (j - a.start)) j
  unfolding last_boost
  boost_up = rw (next, here)

-- both searches
module _ (over : ℕ → Bool) (n lo hi : ℕ) where
  -- neighbours: lo is found
  pub halve-done : hi ≤ suc lo → (halve over n lo hi).0 ≡ lo
  unfolding halve
  halve-done h = go n
    where
      go : (n : ℕ) → (halve over n lo hi).0 ≡ lo
      go zero = refl
      go (suc n) = rw (le-leb hi (suc lo) h)

  module _ (h : suc lo < hi) where
    -- the figure that is tried
    abbrev mid : ℕ
    mid = (lo + hi) / 2

    -- a trial that is over brings hi down; each trial is counted
    pub halve-over : over mid ≡ true → halve over (suc n) lo hi ≡ ((halve over n lo mid).0, suc (halve over n lo mid).1)
    unfolding halve
    halve-over e = rw (lt-leb hi (suc lo) h, e)

    -- a trial that is within brings lo up
    pub halve-under : over mid ≡ false → halve over (suc n) lo hi ≡ ((halve over n mid hi).0, suc (halve over n mid hi).1)
    unfolding halve
    halve-under e = rw (lt-leb hi (suc lo) h, e)

-- a round, by what its flag says
module _ (a : AllocIn) (bits : ℕ → ℕ) {σ : Type 0} (A : Ask σ) (n : ℕ) (r : Round) (s t : σ) where
  -- it says stop
  pub skip-stops : flag_of a bits A r s ≡ (true, t) → skip a bits A (suc n) r s ≡ (stop_at r, t)
  unfolding skip
  skip-stops e = rw e

  -- it says go on, or there is none
  pub skip_drops : flag_of a bits A r s ≡ (false, t)
      → ((skip a bits A (suc n) r s).0.last ≡ (skip a bits A n (dropped a bits r) t).0.last)
      × ((skip a bits A (suc n) r s).0.stopped ≡ (skip a bits A n (dropped a bits r) t).0.stopped)
      × ((skip a bits A (suc n) r s).1 ≡ (skip a bits A n (dropped a bits r) t).1)
      × ((skip a bits A (suc n) r s).0.flags
      ≡ cond (asks a bits r) (false ∷ (skip a bits A n (dropped a bits r) t).0.flags) (skip a bits A n (dropped a bits r) t).0.flags)
  unfolding skip
  skip_drops e = (rw e, rw e, rw e, rw e)

-- a band of the answer, coded or skipped
module _ (a : AllocIn) (bits : ℕ → ℕ) (coded left intensity : ℕ) (dual : Bool) (kept : List ℕ) (j : ℕ) where
  -- below `coded`
  pub band-coded : j < coded
      → band_of a bits coded left intensity dual kept j ≡ split_band a bits coded left intensity dual j (carried a bits coded left intensity dual (j - a.start))
  unfolding band_of
  band-coded h = rw (lt-ltb j coded h)

  -- from `coded` on
  pub band-skipped : coded ≤ j → band_of a bits coded left intensity dual kept j ≡ skipped a (get_or kept (j - coded) 0)
  unfolding band_of
  band-skipped h = rw (le-ltb j coded h)
