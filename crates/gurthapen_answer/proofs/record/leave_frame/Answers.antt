-- `gurthapen_answer::record::leave_frame`: by the answer. Assumes nothing.
use mathlib.Core.Path.{sym, ap, ap₂, ◌∙◌}
use mathlib.Core.List.{List}
use lib.Ieee.{Float}
use lib.IntN.{ℤ}
use Prim.Native.Nat.{ℕ}
use Rattle.entcode.specs.Said.{verdict}
use Rattle.entcode.proofs.Said.{stopped-some}
use Rattle.gurthapen_answer.proofs.Coded.{coded, uncoded}
use Rattle.gurthapen_answer.proofs.record.leave_frame.Goals as goal

pub returns-in-Ok : goal.returns-in-Ok
returns-in-Ok c =
    coded _ _ (ap verdict c.in-Ok.is) (ap₂ (λ (r : List Float × List ℕ) (l : List ℤ). (r, l)) c.store_record.ensures c.store.ensures)

pub returns-in-Err : goal.returns-in-Err
returns-in-Err c =
    rw (c.from.ensures ∙ sym (ap verdict c.in-Err.is)) (uncoded _ _ _ (stopped-some _ _ c.in-Err.is))
