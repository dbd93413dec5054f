-- `rate_split::split::spill_of`: by whether there is an excess, and by whether all of it came from the band below. Assumes nothing.
use native.Mathlib.Omega.{arith}
use borrow.Author.Tests.{eq-eqb, ne_eqb, le-leb, lt-leb}
use Rattle.rate_spec.specs.Split.{spill}
use Rattle.rate_split.proofs.split.spill_of.Goals as goal

pub returns-then-excess-eq0 : goal.returns-then-excess-eq0
unfolding spill
returns-then-excess-eq0 c = (rw (eq-eqb _ _ c.if-excess-eq0.true), omega arith)

pub returns-then-excess-used : goal.returns-then-excess-used
unfolding spill
returns-then-excess-used c = (rw (ne_eqb _ _ c.if-excess-eq0.false, ← c.extra_of-f.ensures.0, le-leb _ _ c.if-excess-used.true), omega arith)

pub returns-else-excess-used : goal.returns-else-excess-used
unfolding spill
returns-else-excess-used c = (rw (ne_eqb _ _ c.if-excess-eq0.false, ← c.extra_of-f.ensures.0, lt-leb _ _ c.if-excess-used.false), omega arith)
