-- `gurthapen_laplace_decode`: the lengths, the call, and what is left of it. Assumes nothing.
use mathlib.Core.Path.{◌≡◌}
use mathlib.Core.Bool.{true, ◌&&◌}
use Rattle.gurthapen_state.specs.State.{is_stored, is_long}
use Rattle.gurthapen_answer.proofs.Exports.{wrong_lengths, right_lengths}
use Rattle.gurthapen.proofs.lap.gurthapen_laplace_decode.Goals as goal
use Rattle.gurthapen.proofs.lap.gurthapen_laplace_decode.Goals.{Then-is_stored-value}

-- `gurthapen_laplace_decode`: the lengths, the call, and what is left of it. Assumes nothing.
-- the tests of the guard
tested : (c : Then-is_stored-value) → let a = c.args in (is_stored a.state.now && is_long 1 a.value.now) ≡ true
tested c = rw c.is_stored.ensures at c.if-is_stored-value.true

pub returns-then-is_stored-value : goal.returns-then-is_stored-value
returns-then-is_stored-value c =
    right_lengths _ _ (tested (goal.at.returns-then-is_stored-value c).Then-is_stored-value)
    (rw (c.ec_laplace_decode-a.ensures, c.load-d.ensures) at c.leave_coded.ensures)

pub returns : goal.returns
returns c = wrong_lengths _ _ (rw c.is_stored.ensures at c.if-is_stored-value.false)
