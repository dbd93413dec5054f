-- `laws::list_ok`: the test so far and what is left of it from the entry of the turn on are the whole test. Assumes nothing.
use mathlib.Core.Path.{sym, ◌∙◌}
use native.Mathlib.Omega.{arith}
use lib.IntN.{pos}
use borrow.Author.Rules.{rules}
use lib.ListN.{get_or}
use mir.Syntax.{w32}
use mir.Val.{SFits}
use mir.Facts.{to_z-of_z}
use Rattle.laws.specs.Signs.{in_range}
use Rattle.laws.proofs.Lists.{every_on, every-end}
use Rattle.laws.proofs.list_ok.Goals as goal

pub loop-v-preserved : goal.loop-v-preserved
loop-v-preserved c =
    let a = c.args in
    let f = c.ranges in
    let v : SFits w32 (get_or a.l.now c.loop-v.v-index (pos 0)) = record { sfits = search rules } in
    rw (to_z-of_z f.lo, to_z-of_z f.hi)
    (every_on (in_range a.lo a.hi) a.l.now c.loop-v.v-index (pos 0) (omega arith) c.loop-v.ok
    (rw (to_z-of_z f.lo, to_z-of_z f.hi, to_z-of_z v) at c.in_range-ok.ensures)
    ∙ (rw (to_z-of_z f.lo, to_z-of_z f.hi) at c.loop-v.invariant))

pub returns : goal.returns
returns c =
    let a = c.args in
    let f = c.ranges in
    sym (every-end (in_range a.lo a.hi) c.loop-v.ok a.l.now c.loop-v.v-index (omega arith))
    ∙ (rw (to_z-of_z f.lo, to_z-of_z f.hi) at c.loop-v.invariant)
