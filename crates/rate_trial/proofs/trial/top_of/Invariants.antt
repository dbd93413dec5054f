-- `rate_trial::trial::top_of`: no band from j up has its threshold. Assumes nothing.
use Rattle.rate_bands.specs.Inputs.{bare}
use Rattle.rate_trial.specs.Points.{point_bits}
use Rattle.rate_trial.proofs.Parts.{Above}
use Rattle.rate_trial.proofs.trial.top_of.Given as goal

abbrev pub invariant-loop-j : goal.invariant-loop-j
invariant-loop-j l =
    Above (bare l.p.f) (point_bits l.p.lows.now l.p.gaps.now l.p.q) l.j l.sum
