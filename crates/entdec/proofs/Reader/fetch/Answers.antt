-- `entdec::Reader::fetch`: a byte above at most 24 bits fits in 32. Assumes nothing.
use native.Mathlib.Omega.{arith}
use Rattle.entdec.proofs.RawBits.{shl_byte}
use Rattle.entdec.specs.Read.{fetch}
use Rattle.entdec.proofs.Reader.fetch.Goals as goal

pub returns : goal.returns
unfolding fetch
returns c =
    let d = c.args.self in
    let b = c.byte_back-b in
    rw (shl_byte b.result d.waiting b.ensures.1 (omega arith), c.advanced.ensures, b.ensures.0)
