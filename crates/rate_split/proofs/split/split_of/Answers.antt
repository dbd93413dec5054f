-- `rate_split::split::split_of`: by the number of coefficients. Assumes nothing.
use borrow.Author.Tests.{lt-ltb, le-ltb}
use Rattle.rate_spec.specs.Split.{split_of}
use Rattle.rate_split.proofs.split.split_of.Goals as goal

pub returns-then-n-gt1 : goal.returns-then-n-gt1
unfolding split_of
returns-then-n-gt1 c = (
  rw (lt-ltb _ _ c.if-n-gt1.true, ← c.min32.ensures, ← c.saturating_sub.ensures) c.wide_of.ensures.0,
  c.wide_of.ensures.1,
)

pub returns-else-n-gt1 : goal.returns-else-n-gt1
unfolding split_of
returns-else-n-gt1 c = (
  rw (le-ltb _ _ c.if-n-gt1.false, ← c.min32-else-n-gt1.ensures, ← c.saturating_sub-else-n-gt1.ensures) c.spill_of.ensures.0,
  c.spill_of.ensures.1,
)
