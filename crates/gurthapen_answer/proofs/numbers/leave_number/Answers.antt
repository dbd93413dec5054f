-- `gurthapen_answer::numbers::leave_number`: by the answer. Assumes nothing.
use Rattle.gurthapen_answer.specs.Result.{result_of}
use Rattle.gurthapen_answer.proofs.Exports.{one_set}
use Rattle.gurthapen_answer.proofs.numbers.leave_number.Goals as goal

pub returns-in-Ok : goal.returns-in-Ok
unfolding result_of
returns-in-Ok g c =
    rw (
      c.in-Ok.is,
      one_set _ c.args.value.now c.requires,
    )

pub returns-in-Err : goal.returns-in-Err
unfolding result_of
returns-in-Err g c = rw (c.in-Err.is, c.from.ensures)
