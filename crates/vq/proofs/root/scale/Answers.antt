-- `vq::root::scale`: n has as many digits as its logarithm says. Assumes nothing.
use native.Mathlib.Omega.{arith}
use Rattle.entcode.specs.Range.{ilog}
use Rattle.entcode.proofs.Logs.{digits}
use Rattle.vq.proofs.Squares.{shifted}
use Rattle.vq.proofs.root.scale.Goals as goal

pub returns : goal.returns
returns c =
    let d = digits c.args.n c.requires (omega (arith, c.ranges.n)) in
    rw c.ilog.ensures.0 (shifted c.args.n (ilog c.args.n) d.digits-pos d.digits_le d.from d.to)
