-- `gurthapen_list`: the length, the call, and what is left of it. Assumes nothing.
use borrow.Author.Tests.{eq-eqb, ne_eqb}
use Rattle.gurthapen.proofs.Written.{lines_listed}
use Rattle.gurthapen_answer.proofs.Exports.{wrong_lengths, right_lengths}
use Rattle.gurthapen.proofs.requests.gurthapen_list.Goals as goal

pub returns-then-length-eq1 : goal.returns-then-length-eq1
returns-then-length-eq1 c =
    right_lengths _ _ (eq-eqb _ _ c.if-length-eq1.true)
    (lines_listed c.args.length.now _ _ _ c.list-a.ensures c.leave_number.ensures)

pub returns : goal.returns
returns c = wrong_lengths _ _ (ne_eqb _ _ c.if-length-eq1.false)
