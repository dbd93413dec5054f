-- `gurthapen_answer::coder::leave_coder`: by the answer. Assumes nothing.
use Rattle.gurthapen_answer.specs.Result.{result_of}
use Rattle.gurthapen_answer.proofs.coder.leave_coder.Goals as goal

pub returns-in-Ok : goal.returns-in-Ok
unfolding result_of
returns-in-Ok g c =
    rw (
      c.in-Ok.is,
      c.store.ensures,
    )

pub returns-in-Err : goal.returns-in-Err
unfolding result_of
returns-in-Err g c = rw (c.in-Err.is, c.from.ensures)
