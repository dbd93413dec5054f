-- The record that a refused line leaves: every call refuses it. Assumes nothing.
use Prim.Native.Nat.{ℕ, zero, suc}
use mathlib.Core.Path.{◌≡◌, refl}
use mathlib.Core.Bool.{Bool, true, false, cond, ◌&&◌}
use mathlib.Core.List.{[], ◌∷◌}
use native.Mathlib.Omega.{arith}
use lib.Dec.{leb, eqb}
use lib.ListN.{length}
use Rattle.entcode.specs.Refusal.{refusal}
use Rattle.stream.specs.declared.Record.{Record}
use Rattle.stream.specs.Frame.{order_of, ordered}
use Rattle.stream.specs.History.{record_after, applied_in}
use Rattle.stream.proofs.Again.{past-refused}
use Rattle.stream_saved.specs.Lines.{refusal_save, no_record, refusal_line, record_read, answer_restored}
use Rattle.stream_saved.specs.Back.{RefusedGivesNoRecord, NoRecordNoFrame, NoRecordNothingApplied, NoRecordNoLine, NoRecordNoOrder}

-- by the number of the refusal
answer-none : (n : ℕ) (r : Record) → ((answer_restored n r).code ≡ 0 → ⊥) → (answer_restored n r).rec ≡ no_record
unfolding answer_restored
answer-none zero r h = absurd (h refl)
answer-none (suc n) r h = refl

-- whatever the line
pub refused_gives_no_record : RefusedGivesNoRecord
refused_gives_no_record s h = answer-none (refusal_line s) (record_read s) h

-- its next number is one past the domain
next_past : no_record.next ≡ 4294967296
unfolding no_record
next_past = refl

-- ---- a frame

-- as every record whose next number is outside the domain
pub no_record_no_frame : NoRecordNoFrame
no_record_no_frame q = past-refused no_record q (omega (arith, next_past))

-- call by call
pub no_record-nothing-applied : NoRecordNothingApplied
unfolding applied_in record_after
no_record-nothing-applied [] = (refl, refl)
no_record-nothing-applied (q ∷ qs) =
    rw (no_record_no_frame q) (go (eqb q.coder.storage (length q.packet)) (no_record-nothing-applied qs))
  where
    go : (t : Bool) → (applied_in no_record qs ≡ []) × (record_after no_record qs ≡ no_record)
        → (cond (eqb (cond t 1 2) 0) (q.number ∷ applied_in no_record qs) (applied_in no_record qs) ≡ []) × (record_after no_record qs ≡ no_record)
    go true h = h
    go false h = h

-- ---- a line, and the order

-- the test of its next number fails
pub no_record_no_line : NoRecordNoLine
unfolding refusal_save no_record refusal
no_record_no_line n = refl

-- whatever the other number, the test of both fails
pub no_record_no_order : NoRecordNoOrder
unfolding ordered no_record refusal
no_record_no_order number = go (leb number 4294967294)
  where
    go : (t : Bool) → refusal true (t && false) true (order_of 4294967296 number) true true ≡ 1
    go true = refl
    go false = refl
