-- `gurthapen_answer::record::leave_restored`: by the answer. Assumes nothing.
use mathlib.Core.Path.{sym, ap, ◌∙◌}
use Rattle.entcode.specs.Said.{verdict}
use Rattle.entcode.proofs.Said.{stopped-some}
use Rattle.gurthapen_answer.proofs.Coded.{coded, uncoded}
use Rattle.gurthapen_answer.proofs.record.leave_restored.Goals as goal

pub returns-in-Ok : goal.returns-in-Ok
returns-in-Ok c = coded _ _ (ap verdict c.in-Ok.is) c.store_record.ensures

pub returns-in-Err : goal.returns-in-Err
returns-in-Err c =
    rw (c.from.ensures ∙ sym (ap verdict c.in-Err.is)) (uncoded _ _ _ (stopped-some _ _ c.in-Err.is))
