-- `text::lines::fill`: the invariant: what is kept and what remains of the block give the lines that the whole block gives. Assumes nothing.
use mathlib.Core.Path.{◌∙◌}
use native.Mathlib.Omega.{arith}
use lib.ListN.{length, take}
use Rattle.text.proofs.Blocks.{filled-at-feed, same-after-byte}
use Rattle.text.proofs.lines.fill.Goals as goal

pub returns-then-b-eq10 : goal.returns-then-b-eq10
returns-then-b-eq10 c =
    let a = c.args in
    let l = c.loop-i in
    filled-at-feed (length a.buf.now) (take l.k l.buf) (take a.n a.buf.now) a.block.now l.i a.at l.k (omega arith) c.if-b-eq10.true (omega arith)
    l.invariant.1 l.invariant.2

pub loop-i-preserved : goal.loop-i-preserved
loop-i-preserved c =
    let a = c.args in
    let l = c.loop-i in
    let p = c.push-k in
    let s = a.block.now in (
      p.auto.buf ∙ l.invariant.0,
      omega (arith, p.ensures.1, l.invariant.0),
      same-after-byte (length a.buf.now) (take l.k l.buf) (take a.n a.buf.now) s l.i a.at p.ensures.0 l.invariant.0 (omega arith)
          c.if-b-eq10.false l.invariant.2,
    )
