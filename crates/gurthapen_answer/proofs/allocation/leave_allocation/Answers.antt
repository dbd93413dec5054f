-- `gurthapen_answer::allocation::leave_allocation`: by the answer. Assumes nothing.
use mir.Syntax.{w32}
use mir.Facts.{to_z-of_z}
use Rattle.gurthapen_answer.specs.Result.{result_of}
use Rattle.gurthapen_answer.proofs.allocation.leave_allocation.Goals as goal

pub returns-in-Ok : goal.returns-in-Ok
unfolding result_of
returns-in-Ok g c =
    rw (
      c.put_four.ensures,
      to_z-of_z {w = w32} {z = c.in-Ok.y.coded} (record { sfits = c.struct_told-1.given.0.1 }),
      to_z-of_z {w = w32} {z = c.in-Ok.y.balance} (record { sfits = c.struct_told-in-Ok-1.given.1.0.1 }),
      to_z-of_z {w = w32} {z = c.in-Ok.y.intensity} (record { sfits = c.struct_told-in-Ok-2-1.given.1.1.0.1 }),
      to_z-of_z {w = w32} {z = c.in-Ok.y.dual} (record { sfits = c.struct_told-in-Ok-3-1.given.1.1.1.0.1 }),
      c.in-Ok.is,
      c.store.ensures,
    )

pub returns-in-Err : goal.returns-in-Err
unfolding result_of
returns-in-Err g c = rw (c.in-Err.is, c.from.ensures)
