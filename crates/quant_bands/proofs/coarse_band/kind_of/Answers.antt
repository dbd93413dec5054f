-- `quant_bands::coarse_band::kind_of`: the pair's two figures and the two shares. Assumes nothing.
use borrow.Author.Rules.{rules}
use Rattle.quant_bands.proofs.BandKind.{kind-is}
use Rattle.quant_bands.proofs.coarse_band.kind_of.Goals as goal

pub returns : goal.returns
returns c =
    let a = c.args in
    kind-is a.f.lm a.f.intra a.i (search rules) c.pair_of-k.ensures.0 c.zero_in.ensures.0
    c.decay_in.ensures.0 c.coef_of.ensures c.beta_of.ensures
