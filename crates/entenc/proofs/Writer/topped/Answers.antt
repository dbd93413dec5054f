-- `entenc::Writer::topped`: a number of n bits above those that wait fits in 32. Assumes nothing.
use native.Mathlib.Omega.{arith}
use lib.Pow.{shl_exact}
use Rattle.entenc.proofs.Writer.topped.Goals as goal

pub returns : goal.returns
returns c =
    let a = c.args in
    let p = c.requires in
    rw (shl_exact a.n a.self.waiting 32 p.2 (omega arith))
