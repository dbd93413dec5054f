-- `entenc::Writer::encode`: what a cut takes of the range, with what is below it, is at most the range. Assumes nothing.
use mathlib.Core.Path.{◌∙◌}
use native.Mathlib.Omega.{arith}
use Rattle.entenc.specs.Write.{wr}
use Rattle.entenc.proofs.Forms.{cut_of, cut-is}
use Rattle.entenc.proofs.Writer.encode.Goals as goal

pub narrow-requires : goal.narrow-requires
narrow-requires c =
    let p = c.requires in
    let k = cut_of p in (
      p.0,
      omega (arith, k.width-pos, c.cut_width-rng.ensures),
      omega (arith, k.sum, c.cut_width-rng.ensures, c.cut_start-add.ensures),
    )

pub returns : goal.returns
returns c =
    let a = c.args in
    c.narrow.ensures
    ∙ cut-is a.fl a.fh a.ft (wr a.self a.buf.now) _ _ c.cut_start-add.ensures
    c.cut_width-rng.ensures
