-- `gurthapen_enc_icdf`: the lengths, the call, and what is left of it. Assumes nothing.
use mathlib.Core.Path.{◌≡◌, sym, ◌∙◌}
use mathlib.Core.Bool.{true}
use Rattle.gurthapen_state.specs.State.{is_stored}
use Rattle.gurthapen.proofs.Joined.{wrote}
use Rattle.gurthapen_answer.proofs.Exports.{wrong_lengths, right_lengths}
use Rattle.gurthapen.proofs.enc.gurthapen_enc_icdf.Goals as goal
use Rattle.gurthapen.proofs.enc.gurthapen_enc_icdf.Goals.{Then-is_stored}

-- `gurthapen_enc_icdf`: the lengths, the call, and what is left of it. Assumes nothing.
-- the test of the guard
tested : (c : Then-is_stored) → is_stored c.args.state.now ≡ true
tested c = sym c.is_stored.ensures ∙ c.if-is_stored.true

pub returns-then-is_stored : goal.returns-then-is_stored
returns-then-is_stored c =
    right_lengths _ _ (tested (goal.at.returns-then-is_stored c).Then-is_stored)
    (wrote c.args.state.now _ _ _ _ (rw c.load-w.ensures at c.icdf-a.ensures)
    c.leave_coder.ensures)

pub returns : goal.returns
returns c = wrong_lengths _ _ (sym c.is_stored.ensures ∙ c.if-is_stored.false)
