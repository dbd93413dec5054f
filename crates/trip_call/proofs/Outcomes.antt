-- Each step of the writer's side, by its call's answer. Assumes nothing.
use Rattle.std.specs.Prelude.{Result, Ok, Err}
use Rattle.entcode.specs.declared.reasons.Refusal.{Refusal}
use Prim.Native.Nat.{ℕ}
use Rattle.entcode.specs.Refusal.{number_of}
use mathlib.Core.Path.{◌≡◌}
use mathlib.Core.Bool.{Bool}
use mathlib.Core.List.{List}
use lib.IntN.{ℤ}
use Rattle.entenc.specs.declared.Writer.{Writer}
use Rattle.entenc.specs.Answer.{closing}
use Rattle.entenc.specs.Write.{Wr, wr}
use Rattle.rate.specs.declared.AllocNumbers.{AllocNumbers}
use Rattle.rate.specs.declared.Wishes.{Wishes}
use Rattle.rate.specs.Allocations.{WrittenAllocation}
use Rattle.rate.specs.Question.{Lists, no_lists}
use Rattle.rate.specs.Answer.{after_write, writing}
use Rattle.trip_theorem.specs.Calls.{Symbol}
use Rattle.trip_theorem.specs.Rows.{WriteRow}
use Rattle.trip_theorem.specs.Rows.WriteRow.{write_row, write_row_refused}
use Rattle.trip_call.specs.declared.Call.TheVariants as call
use Rattle.trip_call.specs.Outcome.{Ending, allot_outcome, close_outcome, row_outcome}
use Rattle.trip_call.specs.Outcome.Ending.{refused_by}

-- ---- the allocation

module _ (q : AllocNumbers) (h : Wishes) (offsets caps : List ℤ) (v : Wr) {r : Result WrittenAllocation Refusal} (m : Lists) {b : List ℕ}
    (e : after_write r m b ≡ writing q h offsets caps v no_lists)
    (reads : WrittenAllocation → Lists → List ℕ → Bool) where
  -- an accepted allocation: what comes after it
  pub allot-done : (y : WrittenAllocation) {o : Ending} → r ≡ Ok y
      → o ≡ close_outcome (reads y m) (closing (wr y.next b)).said (closing (wr y.next b)).bytes
      → o ≡ allot_outcome reads (writing q h offsets caps v no_lists).said (writing q h offsets caps v no_lists).lent
      (writing q h offsets caps v no_lists).bytes
  allot-done y p k = rw (← e, p) k

  -- a refused allocation ends the trip
  pub allot-refused : {why : Refusal} → r ≡ Err why
      → refused_by call.Allocation (number_of why) ≡ allot_outcome reads (writing q h offsets caps v no_lists).said (writing q h offsets caps v no_lists).lent
      (writing q h offsets caps v no_lists).bytes
  allot-refused p = rw (← e, p)

-- ---- the row

module _ (q : AllocNumbers) (h : Wishes) (offsets caps : List ℤ) (reads : Writer → WriteRow → WrittenAllocation → Lists → List ℕ → Bool) (w : Writer)
    (a : WriteRow)
  where
    -- accepted symbols: what comes after them
    pub row_done : (v : Wr) (zs : List Symbol) {o : Ending} {ts : _} → a ≡ write_row v zs ts
        → o ≡ allot_outcome (reads w a) (writing q h offsets caps v no_lists).said (writing q h offsets caps v no_lists).lent
        (writing q h offsets caps v no_lists).bytes
        → o ≡ row_outcome q offsets caps h reads w a
    row_done v zs p k = rw p (rw p at k)

    -- a refused symbol ends the trip
    pub row_no : (i n : ℕ) → a ≡ write_row_refused i n → refused_by (call.Symbol i) n ≡ row_outcome q offsets caps h reads w a
    row_no i n p = rw p
