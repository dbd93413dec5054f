-- How a trip ends: what the public call answers.
use Rattle.std.specs.Prelude.{ℕ, ◌≡◌, Bool, true, cond, List, ℤ, length, Result}
use Rattle.laws.specs.Lists.{Bytes}
use Rattle.entcode.specs.declared.reasons.Refusal.{Refusal}
use Rattle.entcode.specs.Refusal.{number_of}
use Rattle.entcode.specs.Said.{Said, said, map_said}
use Rattle.entcode.specs.Said.Said.{done, refused}
use Rattle.entenc.specs.declared.Writer.{Writer}
use Rattle.entenc.specs.Answer.{closing, start_of}
use Rattle.entenc.specs.Write.{wr}
use Rattle.rate.specs.declared.AllocNumbers.{AllocNumbers}
use Rattle.rate.specs.declared.Wishes.{Wishes}
use Rattle.rate.specs.Allocations.{WrittenAllocation}
use Rattle.rate.specs.Question.{Lists, no_lists}
use Rattle.rate.specs.Answer.{writing}
use Rattle.trip_theorem.specs.Calls.{Symbol}
use Rattle.trip_theorem.specs.Rows.{WriteRow, write_all}
use Rattle.trip_theorem.specs.Rows.WriteRow.{write_row, write_row_refused}
use Rattle.trip_call.specs.declared.Call.{Call}
use Rattle.trip_call.specs.declared.Call.TheVariants as call
use Rattle.trip_call.specs.declared.Outcome.{Outcome}
use Rattle.trip_call.specs.declared.Outcome.TheVariants as outcome
use Rattle.trip_call.specs.ReadBack.{agrees}

-- how a trip ends: the reader agreed, the writer was refused by a call with a number of document 01, close reported an error, or the reader did not agree
pub data Ending : Type 0 where
  agreed : Ending
  refused_by : Call → ℕ → Ending
  not_closed : Ending
  disagreed : Ending

-- what an outcome of the code says
abbrev pub ending : Outcome → Ending
ending outcome.Agreed = Ending.agreed
ending (outcome.Refused by why) = Ending.refused_by by (number_of why)
ending outcome.NotClosed = Ending.not_closed
ending outcome.Disagreed = Ending.disagreed

-- ---- the writer's side; `reads` is what a reader says of the packet

-- after a close that left these bytes: not closed where it set the error mark
abbrev pub close_outcome : (List ℕ → Bool) → Said Writer → List ℕ → Ending
close_outcome reads (done u) s = cond u.sink.error Ending.not_closed (cond (reads s) Ending.agreed Ending.disagreed)
close_outcome reads (refused n) s = Ending.refused_by call.Close n

-- after the allocation, which left these lists and bytes
abbrev pub allot_outcome : (WrittenAllocation → Lists → List ℕ → Bool) → Said WrittenAllocation → Lists → List ℕ → Ending
allot_outcome reads (done y) m bytes = close_outcome (reads y m) (closing (wr y.next bytes)).said (closing (wr y.next bytes)).bytes
allot_outcome reads (refused n) m bytes = Ending.refused_by call.Allocation n

module _ (q : AllocNumbers) (offsets caps : List ℤ) (h : Wishes) where
  -- after the symbols, which began with the new writer w
  abbrev pub row_outcome : (Writer → WriteRow → WrittenAllocation → Lists → List ℕ → Bool) → Writer → WriteRow → Ending
  row_outcome reads w (write_row v zs ts) =
      allot_outcome (reads w (write_row v zs ts)) (writing q h offsets caps v no_lists).said (writing q h offsets caps v no_lists).lent
      (writing q h offsets caps v no_lists).bytes
  row_outcome reads w (write_row_refused i n) = Ending.refused_by (call.Symbol i) n

  -- after a new writer over the bytes
  abbrev pub new_outcome : (Writer → WriteRow → WrittenAllocation → Lists → List ℕ → Bool) → List ℕ → List Symbol → Said Writer → Ending
  new_outcome reads bytes ys (done w) = row_outcome reads w (write_all ys (wr w bytes))
  new_outcome reads bytes ys (refused n) = Ending.refused_by call.New n

  -- ---- the trip

  -- of bytes and symbols: written, closed, read back and compared
  abbrev pub outcome_of : List ℕ → List Symbol → Ending
  outcome_of bytes ys = new_outcome (agrees q offsets caps ys) bytes ys (start_of (length bytes))

  -- the writer's side alone, with no reader asked
  abbrev pub written_outcome : List ℕ → List Symbol → Ending
  written_outcome bytes ys = new_outcome (λ w a y m s. true) bytes ys (start_of (length bytes))

-- what an answer of the call says
abbrev pub said_trip : Result Outcome Refusal → Said Ending
said_trip r = map_said ending (said r)

-- ---- theorems, by the theorem of round_trip

-- over bytes, the trip ends as the writer's side alone says
abbrev pub ReaderAgrees : Type 0
ReaderAgrees =
    (q : AllocNumbers) (offsets caps : List ℤ) (h : Wishes) (bytes : List ℕ) (ys : List Symbol) → Bytes bytes
    → outcome_of q offsets caps h bytes ys ≡ written_outcome q offsets caps h bytes ys

-- so the reader never disagrees
abbrev pub NeverDisagreed : Type 0
NeverDisagreed =
    (q : AllocNumbers) (offsets caps : List ℤ) (h : Wishes) (bytes : List ℕ) (ys : List Symbol) → Bytes bytes
    → outcome_of q offsets caps h bytes ys ≡ Ending.disagreed → ⊥
