-- `entenc::work::cut_width`: by whether the places begin at the first. Assumes nothing.
use borrow.Author.Tests.{eq-eqb, ne_eqb}
use Rattle.entcode.specs.Range.{cut_width}
use Rattle.entenc.proofs.work.cut_width.Goals as goal

pub returns-then-fl-eq0 : goal.returns-then-fl-eq0
unfolding cut_width
returns-then-fl-eq0 c = simp (eq-eqb _ _ c.if-fl-eq0.true)

pub returns-else-fl-eq0 : goal.returns-else-fl-eq0
unfolding cut_width
returns-else-fl-eq0 c = simp (ne_eqb _ _ c.if-fl-eq0.false)
