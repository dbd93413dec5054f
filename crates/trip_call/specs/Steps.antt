-- One symbol written, or read, with its value as a count; and what the code answers for it.
use Rattle.std.specs.Prelude.{ℕ, List, ℤ}
use Rattle.entcode.specs.Said.{Said, map_said}
use Rattle.entcode.specs.Said.Said.{done, refused}
use Rattle.entcode.specs.declared.Coded.{Coded}
use Rattle.entdec.specs.declared.Reader.{Reader}
use Rattle.entenc.specs.declared.Writer.{Writer}
use Rattle.entenc.specs.Write.{Wr, wr}
use Rattle.laplace.specs.Coded.{LapSym, LapDone}
use Rattle.laplace.specs.Model.{code_of}
use Rattle.trip_theorem.specs.Calls.{Kind, Value, Symbol, value_count, WriteStep, ReadStep, write_call, read_call}
use Rattle.trip_theorem.specs.Calls.WriteStep.{write_step, write_refused}
use Rattle.trip_theorem.specs.Calls.ReadStep.{read_step, read_refused}

-- the count of a value, and the writer or reader after it
abbrev pub Counted : Type 0 → Type 0
Counted C = Coded ℕ C

-- a count, and the writer or reader after it
abbrev pub counted : {C : Type 0} → ℕ → C → Counted C
counted v c = record { value = v; next = c }

-- the code's answer for the call that reads a Laplace value, or may adjust the one that it writes
abbrev pub lap_counted : {C : Type 0} → Said (Coded ℤ C) → Said (Counted C)
lap_counted {C} r = map_said (λ (y : Coded ℤ C). counted (code_of y.value) y.next) r

-- ---- written

-- what a write gave, with the value as a count
abbrev pub count_written : (k : Kind) → WriteStep (Value k) → WriteStep ℕ
count_written k (write_step v w) = write_step (value_count k v) w
count_written k (write_refused n) = write_refused n

-- a symbol written by its call
unfoldable pub write_symbol : Symbol → Wr → WriteStep ℕ
write_symbol y w = count_written y.kind (write_call y.kind y.value w)

-- what an answer of the code says, with the bytes after it
abbrev pub write_step_of : Said (Counted Writer) → List ℕ → WriteStep ℕ
write_step_of (done y) bytes = write_step y.value (wr y.next bytes)
write_step_of (refused n) bytes = write_refused n

-- the code's answer for a call that writes the count v as it is
abbrev pub symbol_wrote : Said Writer → ℕ → Said (Counted Writer)
symbol_wrote r v = map_said (counted v) r

-- the code's answer for the call that writes a Laplace value, which may adjust it
abbrev pub lap_symbol_wrote : Said LapDone → Said (Counted Writer)
lap_symbol_wrote r = lap_counted r

-- ---- read

-- what a read gave, with the value as a count
abbrev pub count_read : (k : Kind) → ReadStep (Value k) → ReadStep ℕ
count_read k (read_step v d) = read_step (value_count k v) d
count_read k (read_refused n) = read_refused n

-- a symbol of this one's kind read by its call; the value is not looked at
unfoldable pub read_symbol : Symbol → List ℕ → Reader → ReadStep ℕ
read_symbol y s d = count_read y.kind (read_call y.kind s d)

-- what an answer of the code says
abbrev pub read_step_of : Said (Counted Reader) → ReadStep ℕ
read_step_of (done y) = read_step y.value y.next
read_step_of (refused n) = read_refused n

-- the code's answer for the call that reads a Laplace value
abbrev pub lap_symbol_read : Said LapSym → Said (Counted Reader)
lap_symbol_read r = lap_counted r
