-- The highest boosted band, from the top down. Assumes nothing.
use Prim.Native.Nat.{ℕ, ◌+◌, ◌-◌, ◌≤◌, ◌<◌}
use mathlib.Core.Bool.{cond}
use mathlib.Core.Path.{◌≡◌, ◌∙◌}
use native.Mathlib.Omega.{arith}
use lib.Dec.{eqb}
use borrow.Author.Tests.{eq-eqb, ne_eqb}
use Rattle.rate_spec.specs.Types.{AllocIn}
use Rattle.rate_spec.specs.Skips.{last_boost}
use Rattle.rate_spec.proofs.Loops.{boost_up}

module _ (a : AllocIn) (j : ℕ) (h : a.start < j) where
  boost_down : last_boost a (j - a.start) ≡ cond (eqb (a.offset (j - 1)) 0) (last_boost a (j - 1 - a.start)) (j - 1)
  boost_down = let e : j - 1 + 1 ≡ j = omega arith in rw e at (boost_up a (j - 1) (omega arith))

  -- the band below j is boosted
  pub boost_here : 0 < a.offset (j - 1) → last_boost a (j - a.start) ≡ j - 1
  boost_here g = boost_down ∙ rw (ne_eqb (a.offset (j - 1)) 0 (λ e. omega arith))

  -- it is not
  pub boost_below : a.offset (j - 1) ≤ 0 → last_boost a (j - a.start) ≡ last_boost a (j - 1 - a.start)
  boost_below g = boost_down ∙ rw (eq-eqb (a.offset (j - 1)) 0 (omega arith))

-- no band is left: it is the first
pub boost_none : (a : AllocIn) (j : ℕ) → j ≤ a.start → last_boost a (j - a.start) ≡ a.start
unfolding last_boost
boost_none a j h = let e : j - a.start ≡ 0 = omega arith in rw e
