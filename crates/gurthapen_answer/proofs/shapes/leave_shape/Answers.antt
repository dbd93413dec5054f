-- `gurthapen_answer::shapes::leave_shape`: by the answer. Assumes nothing.
use Rattle.gurthapen_answer.specs.Result.{result_of}
use Rattle.gurthapen_answer.proofs.Exports.{one_set}
use Rattle.gurthapen_answer.proofs.shapes.leave_shape.Goals as goal

pub returns-in-Ok : goal.returns-in-Ok
unfolding result_of
returns-in-Ok c =
    rw (
      c.in-Ok.is,
      c.store.ensures,
      one_set _ c.args.mask.now
          c.requires.1,
    )

pub returns-in-Err : goal.returns-in-Err
unfolding result_of
returns-in-Err c = rw (c.in-Err.is, c.from.ensures)
