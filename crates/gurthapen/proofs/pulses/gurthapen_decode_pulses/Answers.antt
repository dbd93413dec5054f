-- `gurthapen_decode_pulses`: the lengths, the call, and what is left of it. Assumes nothing.
use mathlib.Core.Path.{◌≡◌}
use mathlib.Core.Bool.{true, ◌&&◌}
use Rattle.gurthapen_state.specs.State.{is_stored, is_long}
use Rattle.gurthapen.proofs.Joined.{placed}
use Rattle.gurthapen_answer.proofs.Exports.{wrong_lengths, right_lengths}
use Rattle.gurthapen.proofs.pulses.gurthapen_decode_pulses.Goals as goal
use Rattle.gurthapen.proofs.pulses.gurthapen_decode_pulses.Goals.{Then-is_stored-energy}

-- `gurthapen_decode_pulses`: the lengths, the call, and what is left of it. Assumes nothing.
-- the tests of the guard
tested : (c : Then-is_stored-energy) → let a = c.args in (is_stored a.state.now && is_long 1 a.energy.now) ≡ true
tested c = rw c.is_stored.ensures at c.if-is_stored-energy.true

pub returns-then-is_stored-energy : goal.returns-then-is_stored-energy
returns-then-is_stored-energy c =
    right_lengths _ _ (tested (goal.at.returns-then-is_stored-energy c).Then-is_stored-energy)
    (placed (c.args.state.now, c.args.energy.now) _ _ _ _
    (rw c.load-d.ensures at c.decode_pulses-a.ensures) c.leave_found.ensures)

pub returns : goal.returns
returns c = wrong_lengths _ _ (rw c.is_stored.ensures at c.if-is_stored-energy.false)
