-- `laplace::chain::span_of`: by sign and size. Assumes nothing.
use mir.Facts.{to_z-of_z}
use Rattle.laplace.specs.Signed.{span_z}
use Rattle.laplace.proofs.chain.span_of.Goals as goal

pub returns : goal.returns
unfolding span_z
returns c = (simp (to_z-of_z c.ranges.value, c.unsigned_abs.ensures.0) at c.span_by.ensures.0, c.span_by.ensures.1)
