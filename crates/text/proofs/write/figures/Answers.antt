-- `text::write::figures`: 0 has one figure, and any other number one more than its logarithm. Assumes nothing.
use native.Mathlib.Omega.{arith}
use borrow.Author.Tests.{lt-ltb}
use Rattle.text.specs.Written.{figures_of}
use Rattle.text.proofs.Back.{figures-log}
use Rattle.text.proofs.write.figures.Goals as goal

pub returns-then-n-eq0 : goal.returns-then-n-eq0
unfolding figures_of
returns-then-n-eq0 c = (rw (lt-ltb c.args.n 10 (omega arith)), omega arith)

pub returns-else-n-eq0 : goal.returns-else-n-eq0
returns-else-n-eq0 c =
    let l = c.ilog10.ensures in
    (figures-log c.args.n c.ilog10.result (omega arith) l.power_le l.next_power_gt, omega (arith, l.bound))
