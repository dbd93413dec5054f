-- `entdec::Reader::new`: a range of 128 takes three steps. Assumes nothing.
use lib.ListN.{length}
use native.Mathlib.Omega.{arith}
use borrow.Author.Tests.{le-leb, lt-leb}
use Rattle.entcode.specs.Range.{renorm_steps}
use Rattle.entcode.specs.Said.{answer}
use Rattle.entdec.specs.Read.{fresh_reader}
use Rattle.entdec.proofs.Reader.new.Goals as goal

pub returns-then-n-le1275 : goal.returns-then-n-le1275
unfolding answer fresh_reader renorm_steps
returns-then-n-le1275 c =
    let s = c.args.s.now in
    simp (le-leb (length s) 1275 (omega arith), c.normalize.ensures, c.advanced-at.ensures, c.byte_at-b.ensures.0)

pub returns-else-n-le1275 : goal.returns-else-n-le1275
unfolding answer
returns-else-n-le1275 c = simp (lt-leb _ _ c.if-n-le1275.false)
