-- `rate_skip::walk::intensity`: by whether something is reserved. Assumes nothing.
use Prim.Native.Nat.{◌≤◌}
use native.Mathlib.Omega.{arith}
use native.Mathlib.Nat.{pos_of_ne-zero}
use borrow.Author.Tests.{le-ltb, lt-ltb}
use Rattle.rate_spec.specs.Alloc.{ask_intensity}
use Rattle.rate_skip.proofs.walk.intensity.Goals as goal

pub returns-then-reserve-eq0-clause-answered : goal.returns-then-reserve-eq0-clause-answered
unfolding ask_intensity
returns-then-reserve-eq0-clause-answered g c =
    let h : c.args.reserve ≤ 0 = omega arith in
    rw (le-ltb 0 c.args.reserve h)

pub returns-else-reserve-eq0-clause-answered : goal.returns-else-reserve-eq0-clause-answered
unfolding ask_intensity
returns-else-reserve-eq0-clause-answered g c =
    rw (lt-ltb 0 c.args.reserve (pos_of_ne-zero c.if-reserve-eq0.false), ← c.intensity.ensures.answered)
