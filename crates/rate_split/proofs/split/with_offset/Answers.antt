-- `rate_split::split::with_offset`: the bits with the offset, and then their correction. Assumes nothing.
use Rattle.rate_spec.specs.Split.{with_offset}
use Rattle.rate_split.proofs.split.with_offset.Goals as goal

pub returns : goal.returns
unfolding with_offset
returns c = rw (c.raised_of.ensures, c.base_of.ensures.0)
