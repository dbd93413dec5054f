-- `rate_trial::pass::last_pass`: the bands from j up were written. Assumes nothing.
use Prim.Native.Nat.{◌-◌, ◌<◌}
use native.Mathlib.Omega.{arith}
use mathlib.Core.List.{[]}
use Rattle.rate_bands.specs.Inputs.{alloc_in}
use Rattle.laws.proofs.Lists.{fill_none}
use Rattle.rate_spec.specs.Trials.{kept_bits}
use Rattle.rate_trial.specs.Points.{point_bits}
use Rattle.rate_trial.proofs.LastPass.{bits_on, down-none, keep_on}
use Rattle.rate_trial.proofs.pass.last_pass.Goals as goal

pub loop-j-init : goal.loop-j-init
loop-j-init c =
    let a = c.args in
    let x = point_bits a.p.now.lows.now a.p.now.gaps.now a.p.now.q in
    let kept = kept_bits (alloc_in a.p.now.f [] a.caps.now) x in
    (down-none a.p.now.f a.caps.now x kept a.p.now.frame.start-lt, fill_none kept a.p.now.f.end a.bits.now)

pub loop-j-preserved : goal.loop-j-preserved
loop-j-preserved c =
    let a = c.args in
    let x = point_bits a.p.now.lows.now a.p.now.gaps.now a.p.now.q in
    let low : a.p.now.f.start < c.loop-j.j = omega arith in
    let high = c.loop-j.invariant.0.1 in
    let th = c.requires.1 (c.loop-j.j - 1) (omega (arith, low)) (omega (arith, low, high)) in
    let t = c.bits-x.ensures in
    let k = c.keep_of-kept.ensures in (
      keep_on a.p.now.f a.caps.now x c.loop-j.j low th t c.loop-j.invariant.0 k.0 k.1,
      bits_on a.p.now.f a.caps.now x c.loop-j.j low th t a.bits.now c.loop-j.invariant.0 k.0 c.loop-j.invariant.1,
    )
