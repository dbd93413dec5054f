-- `gurthapen_dec_tell_frac`: the lengths, the call, and what is left of it. Assumes nothing.
use Rattle.gurthapen_answer.proofs.Exports.{wrong_lengths, right_lengths}
use Rattle.gurthapen.proofs.dec.gurthapen_dec_tell_frac.Goals as goal

pub returns-then-state-value : goal.returns-then-state-value
returns-then-state-value c =
    right_lengths _ _ c.if-state-value.true
    (rw (
      c.tell_frac-t.ensures,
      c.load-d.ensures,
    ) at c.leave_number.ensures)

pub returns : goal.returns
returns c = wrong_lengths _ _ c.if-state-value.false
