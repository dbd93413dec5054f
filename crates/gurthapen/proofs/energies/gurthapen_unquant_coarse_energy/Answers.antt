-- `gurthapen_unquant_coarse_energy`: the lengths, the call, and what is left of it. Assumes nothing.
use mathlib.Core.Path.{◌≡◌, sym, ◌∙◌}
use mathlib.Core.Bool.{true}
use Rattle.gurthapen_state.specs.State.{is_stored}
use Rattle.gurthapen_answer.proofs.Exports.{wrong_lengths, right_lengths}
use Rattle.gurthapen.proofs.Floats.{coarse-left}
use Rattle.gurthapen.proofs.energies.gurthapen_unquant_coarse_energy.Goals as goal
use Rattle.gurthapen.proofs.energies.gurthapen_unquant_coarse_energy.Goals.{Then-is_stored}

-- `gurthapen_unquant_coarse_energy`: the lengths, the call, and what is left of it. Assumes nothing.
-- the test of the guard
tested : (c : Then-is_stored) → is_stored c.args.state.now ≡ true
tested c = sym c.is_stored.ensures ∙ c.if-is_stored.true

pub returns-then-is_stored : goal.returns-then-is_stored
returns-then-is_stored c =
    let a = c.args in
    let f = c.ranges in
    right_lengths _ _ (tested (goal.at.returns-then-is_stored c).Then-is_stored)
    (coarse-left a.state.now a.s.now a.energies.now f.c f.lm f.start f.end f.intra c.load-d.ensures
    c.unquant_coarse_energy-a.ensures c.leave_coder.ensures)

pub returns : goal.returns
returns c = wrong_lengths _ _ (sym c.is_stored.ensures ∙ c.if-is_stored.false)
