-- `rate_cache::row_of`: one less than the lower part of the row's mark. Assumes nothing.
use Prim.Native.Nat.{ℕ, ◌-◌, ◌%◌}
use mathlib.Core.Path.{◌≡◌, ap}
use native.Mathlib.Omega.{arith}
use mir.Facts.{to_z-of_z}
use Rattle.laws.specs.Signs.{clip}
use Rattle.modes.specs.CacheIndex.{index_entry}
use Rattle.rate_cache.specs.Lookups.{level_of}
use Rattle.rate_cache.proofs.Packings.{mark-place}
use Rattle.rate_cache.proofs.row_of.Goals as goal
use Rattle.rate_cache.proofs.row_of.Goals.{After-mark_of-mark}

-- the place in the index
at : (c : After-mark_of-mark)
    → c.mark_of-mark.result % 512 ≡ index_entry (level_of c.args.lm) (clip c.args.band)
at c =
    let l = rw (to_z-of_z c.ranges.lm) at c.level.ensures in
    let b = rw (to_z-of_z c.ranges.band) at c.clipped.ensures.0 in
    rw (rw (l, b) at c.mark_of-mark.ensures.0) (mark-place (level_of c.args.lm) (clip c.args.band))

pub overflow_sub-result : goal.overflow_sub-result
overflow_sub-result c = omega (arith, at (goal.at.overflow_sub-result c).After-mark_of-mark, c.requires.some)

pub returns : goal.returns
returns c = ap (λ (n : ℕ). n - 1) (at (goal.at.returns c).After-mark_of-mark)
