-- `rate_cache::no_entry`: by the row's mark, then by the row's length. Assumes nothing.
use Prim.Native.Nat.{◌/◌}
use mathlib.Core.Path.{◌≡◌}
use native.Mathlib.Omega.{arith}
use lib.IntN.{pos}
use mir.Syntax.{w32}
use mir.Facts.{to_z-of_z}
use mir.ValLaws.{to_z_pos}
use borrow.Author.Tests.{eq-eqb, ne_eqb}
use Rattle.laws.specs.Signs.{in_range}
use Rattle.modes.specs.CacheBits.{row_length}
use Rattle.modes.specs.CacheIndex.{index_entry, row_start}
use Rattle.rate_cache.specs.Lookups.{no_entry}
use Rattle.rate_cache.proofs.Packings.{mark-length, none-mark, some-mark}
use Rattle.rate_cache.proofs.no_entry.Goals as goal
use Rattle.rate_cache.proofs.no_entry.Goals.{After-in_range, Else-mark-eq0}

-- there is a row
some : (c : Else-mark-eq0) → let a = c.args in index_entry a.lm a.band ≡ 0 → ⊥
some c = let a = c.args in some-mark a.lm a.band c.mark_of-mark.ensures.0 c.if-mark-eq0.false

-- the row has such an index
within : (c : After-in_range)
    → let a = c.args in c.in_range.result ≡ in_range (pos 0) (pos (row_length (row_start a.lm a.band))) a.pulses
within c =
    let m = c.mark_of-mark in
    let e = mark-length c.args.lm c.args.band (some (goal.at.After-in_range c).Else-mark-eq0) in
    rw (to_z-of_z c.ranges.pulses, to_z_pos w32 (m.result / 512) (omega (arith, m.ensures.1)), m.ensures.0, e) at c.in_range.ensures

pub returns-then-mark-eq0 : goal.returns-then-mark-eq0
unfolding no_entry
returns-then-mark-eq0 c = let a = c.args in rw (eq-eqb _ _ (none-mark a.lm a.band c.mark_of-mark.ensures.0 c.if-mark-eq0.true))

pub returns : goal.returns
unfolding no_entry
returns
    c = rw (ne_eqb _ _ (some (goal.at.returns c).Else-mark-eq0), ← within (goal.at.returns c).After-in_range, c.if-not-in_range.false)

pub returns-then-not-in_range : goal.returns-then-not-in_range
unfolding no_entry
returns-then-not-in_range
    c = rw (
      ne_eqb _ _ (some (goal.at.returns-then-not-in_range c).Else-mark-eq0),
      ← within
          (goal.at.returns-then-not-in_range c).After-in_range,
      c.if-not-in_range.true,
    )
