-- A lent symbol by its kind: what each public call answers is what the definition of one step says. Assumes nothing.
use Prim.Native.Nat.{ℕ}
use mathlib.Core.Path.{◌≡◌, refl, sym, ap, ◌∙◌}
use mathlib.Core.List.{List}
use lib.IntN.{ℤ}
use lib.ListN.{drop, take}
use Rattle.entcode.specs.Said.{Said, answer}
use Rattle.entcode.specs.Said.Said.{done, refused}
use Rattle.entcode.specs.Sym.{Shape}
use Rattle.entcode.specs.Sym.Shape.{bit as bit_shape, table as table_shape, uint as uniform_shape, raw as raw_shape}
use Rattle.entdec.specs.declared.Reader.{Reader}
use Rattle.entdec.specs.Coded.{ReadSymbol}
use Rattle.entdec.specs.Rule.{refusal_r}
use Rattle.entdec.specs.Symbols.{read_sym}
use Rattle.entenc.specs.declared.Writer.{Writer}
use Rattle.entenc.specs.Answer.{After, writing}
use Rattle.entenc.specs.Write.{Wr}
use Rattle.laplace.specs.Answer as laplace_calls
use Rattle.laplace.specs.Model.{value_at}
use Rattle.laplace.specs.Coded.{LapSym, LapDone}
use Rattle.trip_theorem.specs.Calls.{WriteStep, ReadStep, write_step_as, write_step_by, lap_write_step, read_call, read_step_as, read_step_by, lap_read_step}
use Rattle.trip_theorem.specs.Calls.{write_call}
use Rattle.trip_theorem.specs.Calls.Kind.{bit, laplace}
use Rattle.trip_theorem.specs.Calls.WriteStep.{write_step, write_refused}
use Rattle.trip_theorem.specs.Calls.ReadStep.{read_step, read_refused}
use Rattle.trip_call.specs.declared.given.Given.{Given}
use Rattle.trip_call.specs.declared.given.Kind.TheVariants as kind
use Rattle.trip_call.specs.Given.{kind_of, symbol_of}
use Rattle.trip_call.specs.Steps.{
  Counted,
  count_written,
  count_read,
  lap_symbol_wrote,
  lap_symbol_read,
  symbol_wrote,
  write_step_of,
  write_symbol,
  read_symbol,
}
use Rattle.trip_call.specs.Steps.{read_step_of}

-- ---- written

-- what a write says, and the bytes then
abbrev left : Said Writer → List ℕ → After
left r l = record { said = r; bytes = l }

-- the same of a Laplace value
abbrev lap_left : Said LapDone → List ℕ → laplace_calls.After
lap_left r l = record { said = r; bytes = l }

-- a call that writes its value as it is
write-plain : (r : Said Writer) (v : ℕ) (l : List ℕ) → write_step_of (symbol_wrote r v) l ≡ write_step_by v r l
write-plain (done w) v l = refl
write-plain (refused n) v l = refl

-- every kind but the Laplace values counts its value as it is: what is shown of a bit computes to the same for each of them
write-count-same : (x : WriteStep ℕ) → count_written (bit 0) x ≡ x
write-count-same (write_step v w) = refl
write-count-same (write_refused n) = refl

-- a call that writes its value as it is
plain-is : (h : Shape) (v : ℕ) (w : Wr) {x : Said (Counted Writer)} {r : Said Writer} {l : List ℕ} → left r l ≡ writing h v w → x ≡ symbol_wrote r v
    → write_step_of x l ≡ count_written (bit 0) (write_step_as h v w)
plain-is h v w {x} {r} {l} e p =
    ap (λ (y : Said (Counted Writer)). write_step_of y l) p ∙ write-plain r v l ∙ ap (λ (a : After). write_step_by v a.said a.bytes) e ∙
    sym
    (write-count-same (write_step_as h v w))

-- the call that may adjust it
write-lap : (fs decay : ℕ) (r : Said LapDone) (l : List ℕ) → write_step_of (lap_symbol_wrote r) l ≡ count_written (laplace fs decay) (lap_write_step r l)
write-lap fs decay (done y) l = refl
write-lap fs decay (refused n) l = refl

module _ (g : Given) (w : Wr) (t : List ℕ) {x : Said (Counted Writer)} {l : List ℕ} where
  -- a bit was written as the definition has it
  pub wrote-bit : {r : Said Writer} → kind_of g.kind ≡ kind.Bit → left r l ≡ writing (bit_shape g.first) g.count w → x ≡ symbol_wrote r g.count
      → write_step_of x l ≡ write_symbol (symbol_of g t) w
  unfolding write_symbol write_call symbol_of
  wrote-bit h e p = rw h (plain-is (bit_shape g.first) g.count w e p)

  -- a table's symbol was
  pub wrote-table : {r : Said Writer} {u : List ℕ} → kind_of g.kind ≡ kind.Table → u ≡ take g.third (drop g.second t)
      → left r l ≡ writing (table_shape u g.first) g.count w → x ≡ symbol_wrote r g.count → write_step_of x l ≡ write_symbol (symbol_of g t) w
  unfolding write_symbol write_call symbol_of
  wrote-table {u = u} h i e p = rw (h, ← i) (plain-is (table_shape u g.first) g.count w e p)

  -- a uniform number was
  pub wrote-uniform : {r : Said Writer} → kind_of g.kind ≡ kind.Uniform → left r l ≡ writing (uniform_shape g.first) g.count w → x ≡ symbol_wrote r g.count
      → write_step_of x l ≡ write_symbol (symbol_of g t) w
  unfolding write_symbol write_call symbol_of
  wrote-uniform h e p = rw h (plain-is (uniform_shape g.first) g.count w e p)

  -- raw bits were
  pub wrote-raw : {r : Said Writer} → kind_of g.kind ≡ kind.Raw → left r l ≡ writing (raw_shape g.first) g.count w → x ≡ symbol_wrote r g.count
      → write_step_of x l ≡ write_symbol (symbol_of g t) w
  unfolding write_symbol write_call symbol_of
  wrote-raw h e p = rw h (plain-is (raw_shape g.first) g.count w e p)

  -- a Laplace value was
  pub wrote-laplace : {r : Said LapDone} (z : ℤ) → kind_of g.kind ≡ kind.Laplace → z ≡ value_at g.count
      → lap_left r l ≡ laplace_calls.writing g.first g.second z w → x ≡ lap_symbol_wrote r → write_step_of x l ≡ write_symbol (symbol_of g t) w
  unfolding write_symbol write_call symbol_of
  wrote-laplace {r} z h v e p =
      rw (h, ← v)
      (ap (λ (y : Said (Counted Writer)). write_step_of y l) p ∙ write-lap g.first g.second r l
      ∙ ap (λ (a : laplace_calls.After). count_written (laplace g.first g.second) (lap_write_step a.said a.bytes)) e)

-- ---- read

-- a call that reads a number
read_plain : (r : Said ReadSymbol) → read_step_of r ≡ read_step_by r
read_plain (done y) = refl
read_plain (refused n) = refl

-- the count of a number is the number
read-count-same : (x : ReadStep ℕ) → count_read (bit 0) x ≡ x
read-count-same (read_step v d) = refl
read-count-same (read_refused n) = refl

-- a number was read as the definition has it
read_is : (h : Shape) (s : List ℕ) (d : Reader) {r : Said ReadSymbol} → r ≡ answer (refusal_r h s d) (read_sym h s d)
    → read_step_of r ≡ count_read (bit 0) (read_step_as h s d)
read_is h s d {r} e = read_plain r ∙ ap read_step_by e ∙ sym (read-count-same (read_step_as h s d))

-- the call that reads a Laplace value
read-step-lap : (fs decay : ℕ) (r : Said LapSym) → read_step_of (lap_symbol_read r) ≡ count_read (laplace fs decay) (lap_read_step r)
read-step-lap fs decay (done y) = refl
read-step-lap fs decay (refused n) = refl

module _ (g : Given) (s : List ℕ) (d : Reader) (t : List ℕ) where
  -- a bit was read as the definition has it
  pub read-bit : {r : Said ReadSymbol} → kind_of g.kind ≡ kind.Bit → r ≡ answer (refusal_r (bit_shape g.first) s d) (read_sym (bit_shape g.first) s d)
      → read_step_of r ≡ read_symbol (symbol_of g t) s d
  unfolding read_symbol read_call symbol_of
  read-bit h e = rw h (read_is (bit_shape g.first) s d e)

  -- a table's symbol was
  pub read_table : {r : Said ReadSymbol} {u : List ℕ} → kind_of g.kind ≡ kind.Table → u ≡ take g.third (drop g.second t)
      → r ≡ answer (refusal_r (table_shape u g.first) s d) (read_sym (table_shape u g.first) s d)
      → read_step_of r ≡ read_symbol (symbol_of g t) s d
  unfolding read_symbol read_call symbol_of
  read_table {u = u} h i e = rw (h, ← i) (read_is (table_shape u g.first) s d e)

  -- a uniform number was
  pub read-uniform : {r : Said ReadSymbol} → kind_of g.kind ≡ kind.Uniform
      → r ≡ answer (refusal_r (uniform_shape g.first) s d) (read_sym (uniform_shape g.first) s d)
      → read_step_of r ≡ read_symbol (symbol_of g t) s d
  unfolding read_symbol read_call symbol_of
  read-uniform h e = rw h (read_is (uniform_shape g.first) s d e)

  -- raw bits were
  pub read-raw : {r : Said ReadSymbol} → kind_of g.kind ≡ kind.Raw → r ≡ answer (refusal_r (raw_shape g.first) s d) (read_sym (raw_shape g.first) s d)
      → read_step_of r ≡ read_symbol (symbol_of g t) s d
  unfolding read_symbol read_call symbol_of
  read-raw h e = rw h (read_is (raw_shape g.first) s d e)

  -- a Laplace value was
  pub read-laplace : {x : Said (Counted Reader)} {r : Said LapSym} → kind_of g.kind ≡ kind.Laplace → r ≡ laplace_calls.reading g.first g.second s d
      → x ≡ lap_symbol_read r → read_step_of x ≡ read_symbol (symbol_of g t) s d
  unfolding read_symbol read_call symbol_of
  read-laplace {r = r} h e p =
      rw h
      (ap read_step_of p ∙ read-step-lap g.first g.second r ∙ ap (λ (a : Said LapSym). count_read (laplace g.first g.second) (lap_read_step a)) e)
