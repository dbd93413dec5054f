-- `gurthapen_record_restore`: the lengths, the call, and what is left of it. Assumes nothing.
use mathlib.Core.Path.{◌∙◌, ap}
use Rattle.stream_saved.specs.Lines.{Restored}
use Rattle.gurthapen_answer.specs.Result as answer
use Rattle.gurthapen_answer.specs.Record.{lists_restored}
use Rattle.gurthapen_answer.proofs.Exports.{wrong_lengths, right_lengths}
use Rattle.gurthapen.proofs.record.gurthapen_record_restore.Goals as goal

pub returns-then-energies-next : goal.returns-then-energies-next
returns-then-energies-next c =
    let a = c.args in
    right_lengths _ _ c.if-energies-next.true
    (c.leave_restored.ensures ∙ ap (λ (y : Restored). answer.result_of (lists_restored y) (a.energies.now, a.next.now)) c.restore-a.ensures)

pub returns : goal.returns
returns c = wrong_lengths _ _ c.if-energies-next.false
