-- Rows as the code goes through them, by places: the writer alone, then a writer that writes once more beside the reader.
use Rattle.std.specs.Prelude.{ℕ, zero, suc, cond, ◌&&◌, List, eqb, Result, Ok, Err, Option, None, Some}
use Rattle.entcode.specs.Refusal.{number_of}
use Rattle.entcode.specs.Said.{Said}
use Rattle.entcode.specs.Said.Said.{done, refused}
use Rattle.entdec.specs.declared.Reader.{Reader}
use Rattle.entenc.specs.declared.Writer.{Writer}
use Rattle.entenc.specs.Write.{Wr, wr}
use Rattle.trip_theorem.specs.Calls.{WriteStep, ReadStep, tells_r, tells_w}
use Rattle.trip_theorem.specs.Calls.WriteStep.{write_step, write_refused}
use Rattle.trip_theorem.specs.Calls.ReadStep.{read_step, read_refused}
use Rattle.trip_call.specs.declared.rows.RowRefusal.{RowRefusal}
use Rattle.trip_call.specs.declared.rows.Pair.{Pair}
use Rattle.trip_call.specs.Given.{given_at, symbol_of}
use Rattle.trip_call.specs.Same.{same_tells}
use Rattle.trip_call.specs.Steps.{Counted, write_symbol, read_symbol}

-- ---- the writer alone

-- the writer after a row, or the place and the number of the refusal
pub data AfterRow : Type 0 where
  after_row : Wr → AfterRow
  row_refused : ℕ → ℕ → AfterRow

-- where symbol i was written, the others follow
abbrev pub row_then : WriteStep ℕ → ℕ → (Wr → AfterRow) → AfterRow
row_then (write_step v w) i more = more w
row_then (write_refused n) i more = row_refused i n

-- n symbols, from symbol i on
unfoldable pub row_from : List ℕ → List ℕ → ℕ → ℕ → Wr → AfterRow
row_from l tables zero i w = after_row w
row_from l tables (suc n) i w = row_then (write_symbol (symbol_of (given_at l i) tables) w) i (row_from l tables n (suc i))

-- what an answer of the code says, with the bytes after it
abbrev pub after_row_of : Result Writer RowRefusal → List ℕ → AfterRow
after_row_of (Ok w) bytes = after_row (wr w bytes)
after_row_of (Err r) bytes = row_refused r.place (number_of r.why)

-- ---- writer and reader side by side

-- writer and reader after a row in which they agreed, or that they differ
pub data Pairs : Type 0 where
  same : Wr → Reader → Pairs
  differs : Pairs

-- where the value that counts as written is the value read, and both tell the same, the others follow
abbrev pub pair_then : WriteStep ℕ → ReadStep ℕ → (Wr → Reader → Pairs) → Pairs
pair_then (write_step u w) (read_step v d) more = cond (eqb u v && same_tells (tells_w w.st) (tells_r d)) (more w d) differs
pair_then (write_step u w) (read_refused n) more = differs
pair_then (write_refused n) y more = differs

-- n symbols, from symbol i on; s is what is read
unfoldable pub pair_from : List ℕ → List ℕ → List ℕ → ℕ → ℕ → Wr → Reader → Pairs
pair_from l tables s zero i w d = same w d
pair_from l tables s (suc n) i w d =
    pair_then (write_symbol (symbol_of (given_at l i) tables) w) (read_symbol (symbol_of (given_at l i) tables) s d) (pair_from l tables s n (suc i))

-- what an answer of the code says, with the bytes after it
abbrev pub pairs_of : Option Pair → List ℕ → Pairs
pairs_of (Some p) bytes = same (wr p.writer bytes) p.reader
pairs_of None bytes = differs

-- the code's answer for one symbol, from its two answers
abbrev pub pair_of : Said (Counted Writer) → Said (Counted Reader) → Option Pair
pair_of (done x) (done y) =
    cond (eqb x.value y.value && same_tells (tells_w x.next) (tells_r y.next)) (Some (record { writer = x.next; reader = y.next })) None
pair_of (done x) (refused n) = None
pair_of (refused n) y = None
