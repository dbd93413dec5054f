-- `entdec::Reader::normalize`: the remaining steps give from here what all gave at the start. Assumes nothing.
use lib.ListN.{length}
use Rattle.entdec.proofs.Pulls.{advanced-le}
use mathlib.Core.Path.{sym, ◌∙◌}
use native.Mathlib.Omega.{arith}
use Rattle.entdec.specs.Read.{pull}
use Rattle.entdec.proofs.Forms.{normal_done, normal_step}
use Rattle.entdec.proofs.Reader.normalize.Goals as goal

pub loop-self-smaller : goal.loop-self-smaller
unfolding pull
loop-self-smaller c = rw c.pull-self.ensures (omega arith)

pub loop-self-preserved : goal.loop-self-preserved
unfolding pull
loop-self-preserved c =
    let l = c.loop-self in
    let i = l.invariant in
    let a = c.args in
    rw c.pull-self.ensures (
      sym (normal_step _ _ i.1 c.loop-self-test.true) ∙ i.0,
      omega arith,
      omega arith,
      omega arith,
      omega arith,
      omega (arith, advanced-le l.self.offs (length a.s.now)),
    )

pub returns : goal.returns
returns c = sym (normal_done _ _ c.loop-self-test.false) ∙ c.loop-self.invariant.0
