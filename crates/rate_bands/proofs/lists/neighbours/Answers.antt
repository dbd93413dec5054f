-- `rate_bands::lists::neighbours`: both lists are filled up to band j. Assumes nothing.
use native.Mathlib.Omega.{arith}
use mathlib.Core.Path.{◌≡◌}
use Rattle.laws.proofs.Lists.{fill_none, fill-up}
use Rattle.rate_spec.specs.Vectors.{lower_bits}
use Rattle.rate_bands.specs.Inputs.{alloc_in}
use Rattle.rate_bands.specs.Tilts.{gap}
use Rattle.rate_bands.proofs.Gauges.{gap_is}
use Rattle.rate_bands.proofs.Listed.{filled}
use Rattle.rate_bands.proofs.lists.neighbours.Goals as goal

pub loop-j-init : goal.loop-j-init
loop-j-init c =
    let a = c.args in
    let b = alloc_in a.t.now.f a.offsets.now a.caps.now in
    (fill_none (lower_bits b a.v) a.t.now.f.start a.lows.now, fill_none (gap b a.v) a.t.now.f.start a.gaps.now)

pub loop-j-preserved : goal.loop-j-preserved
loop-j-preserved c =
    let a = c.args in
    let b = alloc_in a.t.now.f a.offsets.now a.caps.now in
    let v = c.loop-j.invariant in
    let low = c.low_of-low.ensures in (
      fill-up (lower_bits b a.v) a.t.now.f.start c.loop-j.j a.lows.now c.loop-j.auto.j v.0 low,
      fill-up (gap b a.v) a.t.now.f.start c.loop-j.j a.gaps.now c.loop-j.auto.j v.1
          (gap_is a.t.now.f a.offsets.now a.caps.now a.v c.loop-j.j low c.high_of-high.ensures c.saturating_sub.ensures),
    )

pub returns : goal.returns
returns c =
    let l = c.loop-j in
    let a = c.args in
    let i = alloc_in a.t.now.f a.offsets.now a.caps.now in
    let e : l.j ≡ a.t.now.f.end = omega arith in
    record {
      lows_are = filled i (lower_bits i a.v) a.lows.now a.t.now.frame.end-le c.requires.3 (rw e at l.invariant.0);
      gaps_are = filled i (gap i a.v) a.gaps.now a.t.now.frame.end-le c.requires.4 (rw e at l.invariant.1);
    }
