-- `entenc::work::cut_start`: by whether the places begin at the first. Assumes nothing.
use borrow.Author.Tests.{eq-eqb, ne_eqb}
use Rattle.entcode.specs.Range.{cut_start}
use Rattle.entenc.proofs.work.cut_start.Goals as goal

pub returns-then-fl-eq0 : goal.returns-then-fl-eq0
unfolding cut_start
returns-then-fl-eq0 c = simp (eq-eqb _ _ c.if-fl-eq0.true)

pub returns-else-fl-eq0 : goal.returns-else-fl-eq0
unfolding cut_start
returns-else-fl-eq0 c = simp (ne_eqb _ _ c.if-fl-eq0.false)
