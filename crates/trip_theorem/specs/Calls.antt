-- The five kinds of symbols, each with its public call to write it and its public call to read it, by the definitions that the contracts of
-- these calls cite.
use Rattle.std.specs.Prelude.{ℕ, List, ℤ}
use Rattle.entcode.specs.Counts.{tell_said}
use Rattle.entcode.specs.Said.{Said, answer}
use Rattle.entcode.specs.Said.Said.{done, refused}
use Rattle.entcode.specs.Tell.{tell_of, tell_frac_of}
use Rattle.entcode.specs.Sym.{Shape}
use Rattle.entcode.specs.Sym.Shape.{bit as bit_shape, table as table_shape, uint as uniform_shape, raw as raw_shape}
use Rattle.entdec.specs.declared.Reader.{Reader}
use Rattle.entdec.specs.Coded.{ReadSymbol}
use Rattle.entdec.specs.Symbols.{read_sym}
use Rattle.entdec.specs.Rule.{reader_ok, refusal_r}
use Rattle.entenc.specs.declared.Writer.{Writer}
use Rattle.entenc.specs.Write.{Wr, wr}
use Rattle.entenc.specs.Answer.{writing}
use Rattle.entenc.specs.Rule.{writer_ok}
use Rattle.laplace.specs.Coded.{LapSym, LapDone}
use Rattle.laplace.specs.Answer as laplace_calls
use Rattle.laplace.specs.Model.{code_of}

-- a kind, with what a reader has to know of it: a bit's log probability, a table and its log of places, how many values a uniform number has,
-- how many raw bits, a Laplace value's pair
pub data Kind : Type 0 where
  bit : ℕ → Kind
  table : List ℕ → ℕ → Kind
  uniform : ℕ → Kind
  raw : ℕ → Kind
  laplace : ℕ → ℕ → Kind

-- its values
abbrev pub Value : Kind → Type 0
Value (bit logp) = ℕ
Value (table t ftb) = ℕ
Value (uniform ft) = ℕ
Value (raw n) = ℕ
Value (laplace fs decay) = ℤ

-- a value of a kind
pub record Symbol : Type 0 where
  pub kind : Kind
  pub value : Value kind

-- the symbol of a kind and a value
abbrev pub symbol : (k : Kind) → Value k → Symbol
symbol k v = record { kind = k; value = v }

-- a value as a number: itself, and a Laplace value by its count, 0, -1, 1, -2, 2, .. as 0, 1, 2, 3, 4, ..
abbrev pub value_count : (k : Kind) → Value k → ℕ
value_count (bit logp) v = v
value_count (table t ftb) v = v
value_count (uniform ft) v = v
value_count (raw n) v = v
value_count (laplace fs decay) z = code_of z

-- ---- writing

-- what a write gave: the value that counts as written, and the writer after it; or the number of the refusal
pub data WriteStep (A : Type 0) : Type 0 where
  write_step : A → Wr → WriteStep A
  write_refused : ℕ → WriteStep A

-- a call that writes its value as it is
abbrev pub write_step_by : ℕ → Said Writer → List ℕ → WriteStep ℕ
write_step_by v (done w) bytes = write_step v (wr w bytes)
write_step_by v (refused n) bytes = write_refused n

-- a call that may adjust it
abbrev pub lap_write_step : Said LapDone → List ℕ → WriteStep ℤ
lap_write_step (done y) bytes = write_step y.value (wr y.next bytes)
lap_write_step (refused n) bytes = write_refused n

-- a value written as a symbol of the coder
abbrev pub write_step_as : Shape → ℕ → Wr → WriteStep ℕ
write_step_as h v w = write_step_by v (writing h v w).said (writing h v w).bytes

-- Writer::bit_logp, icdf, uint and bits, and ec_laplace_encode
unfoldable pub write_call : (k : Kind) → Value k → Wr → WriteStep (Value k)
write_call (bit logp) v w = write_step_as (bit_shape logp) v w
write_call (table t ftb) v w = write_step_as (table_shape t ftb) v w
write_call (uniform ft) v w = write_step_as (uniform_shape ft) v w
write_call (raw n) v w = write_step_as (raw_shape n) v w
write_call (laplace fs decay) z w = lap_write_step (laplace_calls.writing fs decay z w).said (laplace_calls.writing fs decay z w).bytes

-- ---- reading

-- what a read gave: the value, and the reader after it; or the number of the refusal
pub data ReadStep (A : Type 0) : Type 0 where
  read_step : A → Reader → ReadStep A
  read_refused : ℕ → ReadStep A

-- a call that reads a number
abbrev pub read_step_by : Said ReadSymbol → ReadStep ℕ
read_step_by (done y) = read_step y.value y.next
read_step_by (refused n) = read_refused n

-- the call that reads a Laplace value
abbrev pub lap_read_step : Said LapSym → ReadStep ℤ
lap_read_step (done y) = read_step y.value y.next
lap_read_step (refused n) = read_refused n

-- a value read as a symbol of the coder
abbrev pub read_step_as : Shape → List ℕ → Reader → ReadStep ℕ
read_step_as h s d = read_step_by (answer (refusal_r h s d) (read_sym h s d))

-- Reader::bit_logp, icdf, uint and bits, and ec_laplace_decode
unfoldable pub read_call : (k : Kind) → List ℕ → Reader → ReadStep (Value k)
read_call (bit logp) s d = read_step_as (bit_shape logp) s d
read_call (table t ftb) s d = read_step_as (table_shape t ftb) s d
read_call (uniform ft) s d = read_step_as (uniform_shape ft) s d
read_call (raw n) s d = read_step_as (raw_shape n) s d
read_call (laplace fs decay) s d = lap_read_step (laplace_calls.reading fs decay s d)

-- ---- how many bits are used

-- what tell and tell_frac say
pub record Tells : Type 0 where
  pub bits : Said ℕ
  pub eighths : Said ℕ

-- of a writer
abbrev pub tells_w : Writer → Tells
tells_w w = record { bits = tell_said (writer_ok w) (tell_of w.total w.rng); eighths = tell_said (writer_ok w) (tell_frac_of w.total w.rng) }

-- of a reader
abbrev pub tells_r : Reader → Tells
tells_r d = record { bits = tell_said (reader_ok d) (tell_of d.total d.rng); eighths = tell_said (reader_ok d) (tell_frac_of d.total d.rng) }
