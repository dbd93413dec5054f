-- `lister_answer::lines::head`: the letter and the number, and the four fields after it. Assumes nothing.
use mathlib.Core.List.{[], ◌∷◌}
use mir.Val.{SFits}
use mir.Syntax.{w32}
use mir.Facts.{to_z-of_z}
use borrow.Author.Rules.{rules}
use Rattle.lister_answer.proofs.AnswerLines.{put-line}
use Rattle.lister_answer.specs.Lines.{head_line}
use Rattle.text.specs.Written.{decimal_of, signed_of}
use Rattle.lister_answer.proofs.lines.head.Goals as goal

pub returns : goal.returns
unfolding head_line
returns c =
    let a = c.args in
    let y = a.y in
    let fc : SFits w32 y.coded = search rules in
    let fb : SFits w32 y.balance = search rules in
    let fi : SFits w32 y.intensity = search rules in
    let fd : SFits w32 y.dual = search rules in
    put-line 12 49 82 (decimal_of a.number) (signed_of y.coded ∷ signed_of y.balance ∷ signed_of y.intensity ∷ signed_of y.dual ∷ [])
    c.begin-a.ensures
    (rw (to_z-of_z fc, to_z-of_z fb, to_z-of_z fi, to_z-of_z fd) at c.end.ensures)
