-- `quant_bands::last_bits::spend`: a raw bit is read, and the energy takes its offset. Assumes nothing.
use Rattle.entdec.proofs.Values.{raw-value}
use Rattle.quant_bands.proofs.Spent.{spend-is}
use Rattle.quant_bands.proofs.last_bits.spend.Goals as goal

pub offset-requires : goal.offset-requires
offset-requires c =
    (rw c.raw-y.ensures (raw-value 1 c.args.s.now c.args.g.next), c.requires.k_in_bounds.1)

pub returns : goal.returns
returns c =
    let a = c.args in
    spend-is a.fine a.s.now a.k a.e.now a.g.left a.g.next c.raw-y.ensures c.offset.ensures
