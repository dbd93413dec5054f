-- `entcode::eighths_of`: the table of corrections against the three squarings, above the entry and up to it. Assumes nothing.
use native.Mathlib.Omega.{arith}
use Rattle.entcode.proofs.Logs.{corrections, eighths-most, eighth-above, eighth_upto}
use Rattle.entcode.proofs.eighths_of.Goals as goal

pub returns-then-i-r : goal.returns-then-i-r
unfolding corrections
returns-then-i-r c =
    let r = c.args.r in
    let e = eighth-above r (omega arith) (omega arith) c.if-i-r.true in
    (e, omega (arith, e, eighths-most r (omega arith) (omega arith)))

pub returns-else-i-r : goal.returns-else-i-r
unfolding corrections
returns-else-i-r c =
    let r = c.args.r in
    let e = eighth_upto r (omega arith) (omega arith) c.if-i-r.false in
    (e, omega (arith, e, eighths-most r (omega arith) (omega arith)))
