-- Rows of symbols: one public call for each, and tell and tell_frac after each; or the first refusal.
use Rattle.std.specs.Prelude.{ℕ, suc, List, [], ◌∷◌}
use Rattle.entdec.specs.declared.Reader.{Reader}
use Rattle.entenc.specs.Write.{Wr}
use Rattle.trip_theorem.specs.Calls.{Kind, Value, Symbol, symbol, WriteStep, ReadStep, write_call, read_call, Tells, tells_w, tells_r}
use Rattle.trip_theorem.specs.Calls.WriteStep.{write_step, write_refused}
use Rattle.trip_theorem.specs.Calls.ReadStep.{read_step, read_refused}

-- the writer after the row, the symbols as they count as written, and what the writer tells after each; or the place and the number of the refusal
pub data WriteRow : Type 0 where
  write_row : Wr → List Symbol → List Tells → WriteRow
  write_row_refused : ℕ → ℕ → WriteRow

-- the reader after the row, the symbols as they were read, and what the reader tells after each; or the place and the number of the refusal
pub data ReadRow : Type 0 where
  read_row : Reader → List Symbol → List Tells → ReadRow
  read_row_refused : ℕ → ℕ → ReadRow

-- a row with one more symbol before the others, written
abbrev pub written_before : Symbol → Tells → WriteRow → WriteRow
written_before y t (write_row w ys ts) = write_row w (y ∷ ys) (t ∷ ts)
written_before y t (write_row_refused i n) = write_row_refused (suc i) n

-- and read
abbrev pub read_before : Symbol → Tells → ReadRow → ReadRow
read_before y t (read_row d ys ts) = read_row d (y ∷ ys) (t ∷ ts)
read_before y t (read_row_refused i n) = read_row_refused (suc i) n

-- where the first write was accepted, the other symbols follow
abbrev pub write_then : (k : Kind) → WriteStep (Value k) → (Wr → WriteRow) → WriteRow
write_then k (write_step v w) more = written_before (symbol k v) (tells_w w.st) (more w)
write_then k (write_refused n) more = write_row_refused 0 n

-- where the first read was accepted, the other symbols follow
abbrev pub read_then : (k : Kind) → ReadStep (Value k) → (Reader → ReadRow) → ReadRow
read_then k (read_step v d) more = read_before (symbol k v) (tells_r d) (more d)
read_then k (read_refused n) more = read_row_refused 0 n

-- symbols written one after the other
unfoldable pub write_all : List Symbol → Wr → WriteRow
write_all [] w = write_row w [] []
write_all (y ∷ ys) w = write_then y.kind (write_call y.kind y.value w) (write_all ys)

-- what a reader has to know of them
unfoldable pub kinds : List Symbol → List Kind
kinds [] = []
kinds (y ∷ ys) = y.kind ∷ kinds ys

-- symbols of these kinds read from the bytes s
unfoldable pub read_all : List Kind → List ℕ → Reader → ReadRow
read_all [] s d = read_row d [] []
read_all (k ∷ ks) s d = read_then k (read_call k s d) (read_all ks s)
