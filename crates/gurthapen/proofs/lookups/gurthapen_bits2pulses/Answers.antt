-- `gurthapen_bits2pulses`: the lengths, the call, and what is left of it. Assumes nothing.
use mir.Facts.{to_z-of_z}
use borrow.Author.Tests.{eq-eqb, ne_eqb}
use Rattle.gurthapen_answer.proofs.Exports.{wrong_lengths, right_lengths}
use Rattle.gurthapen.proofs.lookups.gurthapen_bits2pulses.Goals as goal

pub returns-then-value-eq1 : goal.returns-then-value-eq1
returns-then-value-eq1 c =
    right_lengths _ _ (eq-eqb _ _ c.if-value-eq1.true)
    (rw (rw (
      to_z-of_z c.ranges.band,
      to_z-of_z
          c.ranges.lm,
      to_z-of_z
          c.ranges.bits,
    ) at c.bits2pulses-a.ensures) at c.leave_number.ensures)

pub returns : goal.returns
returns c = wrong_lengths _ _ (ne_eqb _ _ c.if-value-eq1.false)
