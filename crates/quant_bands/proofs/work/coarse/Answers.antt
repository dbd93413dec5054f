-- `quant_bands::work::coarse`: the bands, with the model taken once. Assumes nothing.
use Rattle.quant_bands.proofs.Accepts.{coarse-is}
use Rattle.quant_bands.proofs.work.coarse.Goals as goal

pub returns : goal.returns
returns c =
    let a = c.args in
    coarse-is a.f.bands.c a.f.lm a.f.intra a.f.bands.start a.f.bands.end a.s.now a.d a.energies.now c.coarse_bands-g.ensures
