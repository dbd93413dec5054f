-- `entdec::Reader::fill`: the remaining bytes give from here what all gave at the start. Assumes nothing.
use lib.ListN.{length}
use Rattle.entdec.proofs.Pulls.{advanced-le}
use mathlib.Core.Path.{sym, ◌∙◌}
use native.Mathlib.Omega.{arith}
use Rattle.entdec.specs.Read.{fetch}
use Rattle.entdec.proofs.RawBits.{filled-done, filled-step}
use Rattle.entdec.proofs.Reader.fill.Goals as goal

pub loop-self-smaller : goal.loop-self-smaller
unfolding fetch
loop-self-smaller c = rw c.fetch-self.ensures (omega arith)

pub loop-self-preserved : goal.loop-self-preserved
unfolding fetch
loop-self-preserved c =
    let l = c.loop-self in
    let i = l.invariant in
    let a = c.args in
    rw c.fetch-self.ensures (sym (filled-step _ _ c.loop-self-test.true) ∙ i.0, omega (arith, advanced-le l.self.ends (length a.s.now)))

pub returns : goal.returns
returns c = sym (filled-done _ _ c.loop-self-test.false) ∙ c.loop-self.invariant.0
