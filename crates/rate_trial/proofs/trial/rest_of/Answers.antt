-- `rate_trial::trial::rest_of`: the bands below j are counted. Assumes nothing.
use native.Mathlib.Omega.{arith}
use Rattle.rate_trial.specs.Points.{point_bits}
use Rattle.rate_trial.proofs.Parts.{rest-none, rest_on}
use Rattle.rate_trial.proofs.trial.rest_of.Goals as goal

pub loop-j-init : goal.loop-j-init
loop-j-init c =
    let a = c.args in
    rest-none a.p.now.f.start a.caps.now (point_bits a.p.now.lows.now a.p.now.gaps.now a.p.now.q) a.below c.requires.1

pub loop-j-preserved : goal.loop-j-preserved
loop-j-preserved c =
    let a = c.args in
    rest_on a.p.now.f.start a.caps.now (point_bits a.p.now.lows.now a.p.now.gaps.now a.p.now.q) a.below c.loop-j.j
    (omega arith) c.loop-j.invariant
    c.bits-x.ensures c.min-sum.ensures (c.requires.0 c.loop-j.j)
