-- `gurthapen_record_save`: the lengths, the bytes' last, then the call, and what is left of it. Assumes nothing.
use Rattle.gurthapen.proofs.Written.{line_saved, no_room}
use Rattle.gurthapen_answer.proofs.Exports.{wrong_lengths, right_lengths}
use Rattle.gurthapen.proofs.record.gurthapen_record_save.Goals as goal

pub returns-then-buf-lt390 : goal.returns-then-buf-lt390
returns-then-buf-lt390 c =
    let a = c.args in
    right_lengths _ _ c.if-energies-length.true (no_room a.length.now a.buf.now _ c.if-buf-lt390.true)

pub returns-then-energies-length : goal.returns-then-energies-length
returns-then-energies-length c =
    right_lengths _ _ c.if-energies-length.true
    (line_saved c.args.length.now _ _ _ _ (rw c.load_record-rec.ensures at c.save-a.ensures)
    c.leave_number.ensures)

pub returns : goal.returns
returns c = wrong_lengths _ _ c.if-energies-length.false
