-- `rate_bands::lists::lows_of`: the list is filled up to band j. Assumes nothing.
use Prim.Native.Nat.{◌-◌}
use native.Mathlib.Omega.{arith}
use mathlib.Core.Path.{◌≡◌, ◌∙◌}
use Rattle.laws.proofs.Lists.{fill_none, fill-up}
use Rattle.rate_spec.specs.Vectors.{lower_bits}
use Rattle.rate_bands.specs.Inputs.{alloc_in}
use Rattle.rate_bands.proofs.Listed.{filled, filled-length}
use Rattle.rate_bands.proofs.lists.lows_of.Goals as goal

pub loop-j-init : goal.loop-j-init
loop-j-init c =
    let a = c.args in
    let b = alloc_in a.t.now.f a.offsets.now a.caps.now in
    fill_none (lower_bits b a.v) a.t.now.f.start a.lows.now

pub loop-j-preserved : goal.loop-j-preserved
loop-j-preserved c =
    let a = c.args in
    let b = alloc_in a.t.now.f a.offsets.now a.caps.now in
    let l = c.loop-j in
    fill-up (lower_bits b a.v) a.t.now.f.start l.j a.lows.now l.auto.j l.invariant c.low_of.ensures

pub returns : goal.returns
returns c =
    let l = c.loop-j in
    let a = c.args in
    let i = alloc_in a.t.now.f a.offsets.now a.caps.now in
    let e : l.j ≡ a.t.now.f.end = omega arith in
    let h = rw e at l.invariant in (
      filled i (lower_bits i a.v) a.lows.now a.t.now.frame.end-le c.requires.3 h,
      filled-length (lower_bits i a.v) (a.t.now.f.end - a.t.now.f.start) a.t.now.f.start a.lows.now h ∙ c.requires.3,
    )
