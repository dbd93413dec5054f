-- `gurthapen_alg_unquant`: the lengths, the call, and what is left of it. Assumes nothing.
use mathlib.Core.Path.{◌≡◌}
use mathlib.Core.Bool.{true, ◌&&◌}
use Rattle.gurthapen_state.specs.State.{is_stored, is_long}
use Rattle.gurthapen.proofs.Floats.{shape-left}
use Rattle.gurthapen_answer.proofs.Exports.{wrong_lengths, right_lengths}
use Rattle.gurthapen.proofs.shapes.gurthapen_alg_unquant.Goals as goal
use Rattle.gurthapen.proofs.shapes.gurthapen_alg_unquant.Goals.{Then-is_stored-mask}

-- `gurthapen_alg_unquant`: the lengths, the call, and what is left of it. Assumes nothing.
-- the tests of the guard
tested : (c : Then-is_stored-mask) → let a = c.args in (is_stored a.state.now && is_long 1 a.mask.now) ≡ true
tested c = rw c.is_stored.ensures at c.if-is_stored-mask.true

pub returns-then-is_stored-mask : goal.returns-then-is_stored-mask
returns-then-is_stored-mask c =
    let a = c.args in
    let f = c.ranges in
    right_lengths _ _ (tested (goal.at.returns-then-is_stored-mask c).Then-is_stored-mask)
    (shape-left (a.state.now, a.mask.now) a.s.now a.shape.now a.gain f.n f.k f.spread f.b c.load-d.ensures
    c.alg_unquant-a.ensures c.leave_shape.ensures)

pub returns : goal.returns
returns c = wrong_lengths _ _ (rw c.is_stored.ensures at c.if-is_stored-mask.false)
