-- `lister_answer::lines::bands`: the invariant: the lines from band j on, written from here on, give what all lines give. Assumes nothing.
use native.Mathlib.Omega.{arith}
use mir.Syntax.{w32}
use lib.IntN.{pos}
use lib.ListN.{get_or}
use mir.Val.{SFits}
use mir.Facts.{to_z-of_z}
use borrow.Author.Rules.{rules}
use Rattle.lister_answer.proofs.AnswerLines.{bands-next, bands-done}
use Rattle.rate.specs.Question.{lists}
use Rattle.lister_answer.specs.Lines.{band_line}
use Rattle.lister_answer.proofs.lines.bands.Goals as goal

pub loop-j-preserved : goal.loop-j-preserved
unfolding band_line
loop-j-preserved c =
    let a = c.args in
    let l = c.loop-j in
    let p : SFits w32 (get_or a.pulses.now l.j (pos 0)) = search rules in
    let f : SFits w32 (get_or a.fine.now l.j (pos 0)) = search rules in
    let k : SFits w32 (get_or a.priorities.now l.j (pos 0)) = search rules in
    bands-next (lists a.pulses.now a.fine.now a.priorities.now) a.end a.start a.at a.buf.now l.j l.to l.buf (omega arith) l.invariant c.band-to.auto.buf
    (rw (to_z-of_z p, to_z-of_z f, to_z-of_z k) at c.band-to.ensures)

pub returns : goal.returns
returns c =
    let a = c.args in
    let l = c.loop-j in
    bands-done (lists a.pulses.now a.fine.now a.priorities.now) a.end a.start a.at a.buf.now l.j l.to l.buf (omega arith) l.invariant
