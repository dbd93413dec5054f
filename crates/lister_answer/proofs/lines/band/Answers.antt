-- `lister_answer::lines::band`: the letter and the band, and the three fields after it. Assumes nothing.
use mathlib.Core.List.{[], ◌∷◌}
use mir.Facts.{to_z-of_z}
use Rattle.lister_answer.proofs.AnswerLines.{put-line}
use Rattle.text.specs.Written.{decimal_of, signed_of}
use Rattle.lister_answer.proofs.lines.band.Goals as goal

pub returns : goal.returns
returns c =
    let a = c.args in
    let f = c.ranges in
    put-line 12 37 66 (decimal_of a.j) (signed_of a.pulses ∷ signed_of a.fine ∷ signed_of a.priority ∷ []) c.begin-a.ensures
    (rw (to_z-of_z f.pulses, to_z-of_z f.fine, to_z-of_z f.priority) at c.end.ensures)
