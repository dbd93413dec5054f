-- `entenc::Writer::new`: by the length of what is lent. Assumes nothing.
use native.Mathlib.Omega.{arith}
use lib.ListN.{length}
use Rattle.entcode.specs.Said.{answer}
use borrow.Author.Tests.{le-leb, lt-leb}
use Rattle.entenc.proofs.Writer.new.Goals as goal

pub returns-then-n-le1275 : goal.returns-then-n-le1275
unfolding answer
returns-then-n-le1275 c = simp (le-leb (length c.args.buf.now) 1275 (omega arith))

pub returns-else-n-le1275 : goal.returns-else-n-le1275
unfolding answer
returns-else-n-le1275 c = simp (lt-leb (length c.args.buf.now) 1275 (omega arith))
