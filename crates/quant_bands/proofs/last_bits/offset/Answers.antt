-- `quant_bands::last_bits::offset`: the definition's operations in its order. Assumes nothing.
use lib.Ieee.{of_bits}
use Rattle.quant_bands.specs.Finalise.{offset_of}
use Rattle.quant_bands.proofs.Offsets.{shifted}
use Rattle.quant_bands.proofs.last_bits.offset.Goals as goal

pub returns : goal.returns
unfolding of_bits offset_of
returns c = rw (shifted c.args.fine c.requires.1)
