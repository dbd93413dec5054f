-- `gurthapen_record_fresh`: the lengths, and a fresh record into its lists. Assumes nothing.
use mathlib.Core.Path.{refl, ap, ◌∙◌}
use Rattle.entcode.specs.Said.{answer}
use Rattle.stream.specs.Frame.{fresh}
use Rattle.gurthapen_state.specs.Record.{lists_of}
use Rattle.gurthapen_answer.proofs.Coded.{coded}
use Rattle.gurthapen_answer.proofs.Exports.{wrong_lengths, right_lengths}
use Rattle.gurthapen.proofs.record.gurthapen_record_fresh.Goals as goal

pub returns-then-energies-next : goal.returns-then-energies-next
unfolding answer
returns-then-energies-next c =
    right_lengths _ _ c.if-energies-next.true
    (coded (lists_of fresh) _ {n = 0} refl (c.store_record.ensures ∙ ap lists_of c.fresh-rec.ensures))

pub returns : goal.returns
returns c = wrong_lengths _ _ c.if-energies-next.false
