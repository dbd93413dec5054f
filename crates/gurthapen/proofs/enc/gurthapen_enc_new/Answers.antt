-- `gurthapen_enc_new`: the lengths, the call, and what is left of it. Assumes nothing.
use borrow.Author.Tests.{eq-eqb, ne_eqb}
use Rattle.gurthapen_answer.proofs.Exports.{wrong_lengths, right_lengths}
use Rattle.gurthapen.proofs.enc.gurthapen_enc_new.Goals as goal

pub returns-then-state-eq12 : goal.returns-then-state-eq12
returns-then-state-eq12 c =
    right_lengths _ _ (eq-eqb _ _ c.if-state-eq12.true)
    (rw c.new-a.ensures at c.leave_coder.ensures)

pub returns : goal.returns
returns c = wrong_lengths _ _ (ne_eqb _ _ c.if-state-eq12.false)
