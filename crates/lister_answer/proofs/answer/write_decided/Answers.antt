-- `lister_answer::answer::write_decided`: R and the bands after it, of at most 61 and 49 bytes, or X of at most 24. Assumes nothing.
use Prim.Native.Nat.{◌-◌, ◌*◌}
use native.Mathlib.Omega.{arith}
use Rattle.lister_answer.proofs.AnswerLines.{put-head-bands}
use Rattle.rate.specs.Question.{lists}
use Rattle.lister_answer.specs.Lines.{head_line, band_lines}
use Rattle.lister_answer.proofs.answer.write_decided.Goals as goal

pub returns-in-Ok : goal.returns-in-Ok
returns-in-Ok c =
    let d = c.args.d in
    let l = lists d.pulses d.fine d.priorities in
    rw c.in-Ok.is
    (put-head-bands 61 (49 * (d.end - d.start)) (head_line c.args.number c.in-Ok.y) (band_lines d.start (d.end - d.start) l) (omega arith)
    c.head-at.ensures c.bands.ensures)
