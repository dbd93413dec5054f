-- `rate_trial::trial::top_of`: no band from j up has its threshold. Assumes nothing.
use Prim.Native.Nat.{◌-◌, ◌+◌, ◌<◌}
use mathlib.Core.Path.{◌≡◌}
use native.Mathlib.Omega.{arith}
use Rattle.rate_bands.specs.Inputs.{bare}
use Rattle.rate_trial.specs.Points.{point_bits}
use Rattle.rate_trial.proofs.Parts.{above-none, above_on, above-stop}
use Rattle.rate_trial.proofs.trial.top_of.Goals as goal

pub loop-j-init : goal.loop-j-init
loop-j-init c =
    let a = c.args in
    above-none (bare a.p.now.f) (point_bits a.p.now.lows.now a.p.now.gaps.now a.p.now.q) a.p.now.frame.start-lt

pub returns-then-thresholds-j : goal.returns-then-thresholds-j
returns-then-thresholds-j c =
    let a = c.args in
    let t : a.p.now.f.start < c.loop-j.j = omega arith in
    let th = c.requires (c.loop-j.j - 1) (omega arith) (omega arith) in
    let e : c.loop-j.j - 1 + 1 ≡ c.loop-j.j = omega arith in
    rw e
    (above-stop (bare a.p.now.f) (point_bits a.p.now.lows.now a.p.now.gaps.now a.p.now.q) c.loop-j.j t c.loop-j.invariant th
    c.bits-x.ensures c.if-thresholds-j.true)

pub loop-j-preserved : goal.loop-j-preserved
loop-j-preserved c =
    let a = c.args in
    let t : a.p.now.f.start < c.loop-j.j = omega arith in
    let th = c.requires (c.loop-j.j - 1) (omega arith) (omega arith) in
    let k = c.floored_of-sum.ensures in
    above_on (bare a.p.now.f) (point_bits a.p.now.lows.now a.p.now.gaps.now a.p.now.q) c.loop-j.j t c.loop-j.invariant th
    c.bits-x.ensures c.if-thresholds-j.false k.0 k.2
