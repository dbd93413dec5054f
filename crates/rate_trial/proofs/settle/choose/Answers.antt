-- `rate_trial::settle::choose`: what one step writes the next one asks for. Assumes nothing.
use Rattle.rate_bands.specs.Inputs.{bare}
use Rattle.rate_spec.specs.Vectors.{threshold}
use Rattle.rate_bands.proofs.Listed.{filled}
use Rattle.rate_trial.proofs.Settling.{tilts_are}
use Rattle.rate_trial.proofs.settle.choose.Goals as goal

pub invariant_of-t : goal.invariant_of-t
invariant_of-t c =
    let p = c.requires in
    let t = c.tilts.ensures in
    record { frame = p.0; figures = tilts_are (bare c.args.f) p.0.end-le t.1 t.2 t.3 }

pub vector_of-found-requires : goal.vector_of-found-requires
vector_of-found-requires c =
    let b = bare c.args.f in
    let p = c.requires in
    (p.1, p.2, c.table-steps.ensures, filled b (threshold b) c.args.thresholds.now p.0.end-le p.3 c.tilts.ensures.0)

pub neighbours-requires : goal.neighbours-requires
neighbours-requires c =
    let p = c.requires in
    let v = c.vector_of-found.ensures in
    (p.1, c.table-steps.ensures, v.2, p.4, p.5)
