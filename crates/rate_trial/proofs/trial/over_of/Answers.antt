-- `rate_trial::trial::over_of`: both parts together are what a trial takes. Assumes nothing.
use Rattle.rate_spec.specs.Reserves.{budget, dual_reserve, intensity_reserve, skip_reserve, stereo_fits}
use Rattle.rate_spec.specs.Trials.{over}
use Rattle.rate_trial.specs.Points.{point_bits}
use Rattle.rate_trial.proofs.Parts.{together}
use Rattle.rate_trial.proofs.trial.over_of.Goals as goal

pub returns : goal.returns
unfolding over budget skip_reserve intensity_reserve dual_reserve stereo_fits
returns c =
    let a = c.args in
    rw (
      c.requires.1,
      together a.p.now.f a.caps.now (point_bits a.p.now.lows.now a.p.now.gaps.now a.p.now.q) c.top_of-top.ensures
          c.rest_of-rest.ensures.0,
    )
