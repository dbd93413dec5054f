-- `rate::gate::stereo_ok`: each test in the definition's order. Assumes nothing.
use mir.Syntax.{w32}
use mir.Val.{SFits}
use mir.Facts.{to_z-of_z}
use borrow.Author.Rules.{rules}
use Rattle.rate.specs.Question.{stereo_ok}
use Rattle.rate.proofs.gate.stereo_ok.Goals as goal

pub returns : goal.returns
unfolding stereo_ok
returns c =
    let q = c.args.q in
    let h = c.args.h in
    let fc : SFits w32 q.c = search rules in
    let fs : SFits w32 q.start = search rules in
    let fe : SFits w32 q.end = search rules in
    let fi : SFits w32 h.intensity = search rules in
    let fd : SFits w32 h.dual = search rules in
    let x = rw (to_z-of_z fi, to_z-of_z fs, to_z-of_z fe) at c.in_range.ensures in
    let y = rw (to_z-of_z fd) at c.in_range-2.ensures in
    rw (x, y, to_z-of_z fc)
