-- `quant_bands::gate::refusal_finalise`: the lengths, and then the tests in the order of the refusals. Assumes nothing.
use mathlib.Core.Path.{sym, ◌∙◌}
use Rattle.entdec.proofs.Lengths.{wrong_lengths}
use Rattle.quant_bands.proofs.gate.refusal_finalise.Goals as goal

pub returns : goal.returns
returns c = sym (wrong_lengths _ _ _ _ _ _ (sym c.sized.ensures ∙ c.if-sized.false))
