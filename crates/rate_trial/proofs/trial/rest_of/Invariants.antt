-- `rate_trial::trial::rest_of`: the bands below j are counted. Assumes nothing.
use Rattle.rate_trial.specs.Points.{point_bits}
use Rattle.rate_trial.proofs.Parts.{Rest}
use Rattle.rate_trial.proofs.trial.rest_of.Given as goal

abbrev pub invariant-loop-j : goal.invariant-loop-j
invariant-loop-j l =
    Rest l.p.f.start l.caps (point_bits l.p.lows.now l.p.gaps.now l.p.q) l.below l.j l.sum
