-- `entcode::table::falls_from`: what is left of the table falls from the last entry passed exactly when the whole falls from top. Assumes nothing.
use native.Mathlib.Omega.{arith}
use mathlib.Core.Path.{sym, ◌∙◌}
use Rattle.entcode.proofs.Falling.{falls-step, falls-stop, falls-end}
use Rattle.entcode.proofs.table.falls_from.Goals as goal

pub returns-then-p-x : goal.returns-then-p-x
returns-then-p-x c =
    let l = c.loop-b in
    sym (l.invariant ∙ falls-stop l.p c.args.t.now l.b-index (omega arith) (omega arith))

pub loop-b-preserved : goal.loop-b-preserved
loop-b-preserved c =
    let l = c.loop-b in
    l.invariant ∙ rw c.from-x.ensures (falls-step l.p c.args.t.now l.b-index (omega arith) (omega arith))

pub returns : goal.returns
returns c =
    let l = c.loop-b in
    sym (l.invariant ∙ falls-end l.p c.args.t.now l.b-index (omega arith))
