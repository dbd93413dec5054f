-- `rate::gate::numbers_ok`: each test in the definition's order. Assumes nothing.
use mir.Syntax.{w32}
use mir.Val.{SFits}
use mir.Facts.{to_z-of_z}
use borrow.Author.Rules.{rules}
use Rattle.rate.specs.Question.{numbers_ok}
use Rattle.rate.proofs.gate.numbers_ok.Goals as goal

pub returns : goal.returns
unfolding numbers_ok
returns c =
    let q = c.args.q in
    let fc : SFits w32 q.c = search rules in
    let fl : SFits w32 q.lm = search rules in
    let fs : SFits w32 q.start = search rules in
    let fe : SFits w32 q.end = search rules in
    let ft : SFits w32 q.trim = search rules in
    let fo : SFits w32 q.total = search rules in
    let x = rw (to_z-of_z fc) at c.in_range.ensures in
    let y = rw (to_z-of_z fl) at c.in_range-2.ensures in
    let z = rw (to_z-of_z ft) at c.in_range-3.ensures in
    rw (x, y, z, to_z-of_z fs, to_z-of_z fe, to_z-of_z fo)
