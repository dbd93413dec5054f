-- `rate_trial::search::vector_over`: a trial with the vector's list is a trial of the vector. Assumes nothing.
use Rattle.rate_trial.proofs.Points.{vector_ok, vector_says}
use Rattle.rate_trial.proofs.search.vector_over.Goals as goal

pub invariant_of-p : goal.invariant_of-p
invariant_of-p c =
    let t = c.args.t.now in
    record { frame = t.frame; figures = vector_ok t.f c.args.offsets.now c.args.caps.now t.frame c.requires.0 c.args.v _ c.lows_of.ensures.0 }

pub returns : goal.returns
returns c =
    let t = c.args.t.now in (
      vector_says t.f c.args.offsets.now c.args.caps.now t.frame c.requires.0 c.args.v _ c.lows_of.ensures.0 c.over_of.ensures,
      c.lows_of.ensures.1,
    )
