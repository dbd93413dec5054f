-- Each kind as a symbol of the coder: what an accepted write tells, that a reader which meets the writer is let in, and that what it reads is
-- what counts as written. Assumes nothing.
use Prim.Native.Nat.{ℕ, zero, suc}
use mathlib.Core.Path.{◌≡◌, refl, ap, sym, ◌∙◌}
use mathlib.Core.Bool.{Bool, true}
use mathlib.Core.List.{List}
use native.Mathlib.Omega.{arith}
use lib.IntN.{ℤ}
use lib.ListN.{length}
use borrow.Author.Tests.{eq-eqb}
use Rattle.entcode.specs.Counts.{tell_ok}
use Rattle.entcode.specs.Refusal.{refusal}
use Rattle.entcode.specs.Said.{answer, lent_after}
use Rattle.entcode.specs.Sym.{Shape, Sym, sym_of, adjust, length_ok, shape_ok, list_ok}
use Rattle.entcode.specs.Sym.Shape.{bit as bit_shape, table as table_shape, uint as uniform_shape, raw as raw_shape}
use Rattle.entdec.specs.declared.Reader.{Reader}
use Rattle.entdec.specs.Coded.{ReadSymbol}
use Rattle.entdec.specs.Symbols.{read_sym}
use Rattle.entdec.specs.Rule.{read_refusal, refusal_r}
use Rattle.entenc.specs.declared.Writer.{Writer}
use Rattle.entenc.specs.Write.{Wr}
use Rattle.entenc.specs.Answer.{answer_w}
use Rattle.entenc.specs.Symbols.{write_sym}
use Rattle.entenc.specs.Rule.{writer_ok, refusal_w}
use Rattle.entenc.proofs.Taken.{taken}
use Rattle.laplace.specs.Coded.{LapSym}
use Rattle.laplace.specs.Model.{value_at}
use Rattle.laplace.specs.Answer.{lap, answer_w as answer_lap}
use Rattle.laplace.proofs.Known.{known_parts}
use Rattle.laplace.proofs.Lawful.{lap-cut, lap_finds}
use Rattle.trip_symbols.specs.Lawful.{LawfulShape}
use Rattle.trip_symbols.specs.Along.{Meets}
use Rattle.trip_symbols.proofs.Kind.{SymOk, sym-ok}
use Rattle.trip_theorem.specs.Calls.{
  Kind,
  Value,
  Symbol,
  value_count,
  write_step_by,
  lap_write_step,
  read_step_by,
  lap_read_step,
  write_call,
  read_call,
  tells_w,
}
use Rattle.trip_theorem.specs.Calls.{tells_r}
use Rattle.trip_theorem.specs.Calls.Kind.{bit, table, uniform, raw, laplace}
use Rattle.trip_theorem.specs.Calls.WriteStep.{write_step}
use Rattle.trip_theorem.specs.Calls.ReadStep.{read_step}

-- ---- a kind, and its values as counts

-- the symbol of the coder that a kind is coded as
abbrev pub shape_of : Kind → Shape
shape_of (bit logp) = bit_shape logp
shape_of (table t ftb) = table_shape t ftb
shape_of (uniform ft) = uniform_shape ft
shape_of (raw n) = raw_shape n
shape_of (laplace fs decay) = lap fs decay

-- the value of a count
abbrev pub value_by : (k : Kind) → ℕ → Value k
value_by (bit logp) v = v
value_by (table t ftb) v = v
value_by (uniform ft) v = v
value_by (raw n) v = v
value_by (laplace fs decay) v = value_at v

-- a symbol as a symbol of the coder
abbrev pub sym_in : Symbol → Sym
sym_in y = sym_of (shape_of y.kind) (value_count y.kind y.value)

-- ---- an accepted write

-- what an accepted write says: no refusal, the value that counts as written, and the writer after it
pub record Accepted (k : Kind) (v : Value k) (w : Wr) (v' : Value k) (w' : Wr) : Type 0 where
  pub none : refusal_w (shape_of k) (value_count k v) w ≡ 0
  pub value : v' ≡ value_by k (adjust (shape_of k) (value_count k v))
  pub next : w' ≡ write_sym (shape_of k) (value_count k v) w

-- by the number n of the gate
record Gave (A : Type 0) (n : ℕ) (v v' : A) (w w' : Wr) : Type 0 where
  none : n ≡ 0
  value : v' ≡ v
  next : w' ≡ w

-- an accepted write of a number has number 0
gave-step : (n v v' : ℕ) (w u w' : Wr) → write_step_by v (answer_w n w u).said (answer_w n w u).bytes ≡ write_step v' w' → Gave ℕ n v v' u w'
unfolding answer lent_after
gave-step zero v v' w u w' e = record { none = refl; value = cc; next = cc }
gave-step (suc n) v v' w u w' e = let z : ◌≡◌ {A = ℕ} 0 1 = cc in absurd (omega arith)

-- an accepted write of a Laplace value has number 0
gave-lap : (n : ℕ) (v v' : ℤ) (w u w' : Wr) → lap_write_step (answer_lap n v w u).said (answer_lap n v w u).bytes ≡ write_step v' w' → Gave ℤ n v v' u w'
unfolding answer lent_after
gave-lap zero v v' w u w' e = record { none = refl; value = cc; next = cc }
gave-lap (suc n) v v' w u w' e = let z : ◌≡◌ {A = ℕ} 0 1 = cc in absurd (omega arith)

-- every accepted write is one
pub accepted : (k : Kind) (v v' : Value k) (w w' : Wr) → write_call k v w ≡ write_step v' w' → Accepted k v w v' w'
unfolding write_call adjust
accepted (bit logp) v v' w w' e = let g = gave-step _ v v' w _ w' e in record { none = g.none; value = g.value; next = g.next }
accepted (table t ftb) v v' w w' e = let g = gave-step _ v v' w _ w' e in record { none = g.none; value = g.value; next = g.next }
accepted (uniform ft) v v' w w' e = let g = gave-step _ v v' w _ w' e in record { none = g.none; value = g.value; next = g.next }
accepted (raw n) v v' w w' e = let g = gave-step _ v v' w _ w' e in record { none = g.none; value = g.value; next = g.next }
accepted (laplace fs decay) v v' w w' e = let g = gave-lap _ _ v' w _ w' e in record { none = g.none; value = g.value; next = g.next }

-- ---- a reader that meets the writer

-- tells the same
pub same-tells : (s : List ℕ) (w : Writer) (d : Reader) → Meets s w d → writer_ok w ≡ true → tells_r d ≡ tells_w w
same-tells s w d m r = rw (m.rule r, r, m.total, m.range_is)

-- is let in where the writer was, its own tests being passed
pub opens : (s : List ℕ) (w : Writer) (d : Reader) (lengths numbers lists : Bool) → Meets s w d → writer_ok w ≡ true
    → tell_ok w.sink.storage w.total w.rng ≡ true → lengths ≡ true → numbers ≡ true → lists ≡ true
    → read_refusal (length s) d lengths numbers lists 0 ≡ 0
unfolding read_refusal refusal
opens s w d lengths numbers lists m r t a b c =
    rw (a, b, c, eq-eqb d.storage (length s) m.len, m.rule r, m.storage, m.total, m.range_is, t)

-- by the number n of the gate
read-step-by : (n : ℕ) (y : ReadSymbol) (v : ℕ) → n ≡ 0 → y.value ≡ v → read_step_by (answer n y) ≡ read_step v y.next
unfolding answer
read-step-by n y v z e = rw (z, e)

-- number 0: the Laplace value that was read
read-step-lap : (n : ℕ) (y : LapSym) (v : ℤ) → n ≡ 0 → y.value ≡ v → lap_read_step (answer n y) ≡ read_step v y.next
unfolding answer
read-step-lap n y v z e = rw (z, e)

-- what is read where the gate lets in
pub read-step-at : (k : Kind) (s : List ℕ) (d : Reader) (c : ℕ) → refusal_r (shape_of k) s d ≡ 0 → (read_sym (shape_of k) s d).value ≡ c
    → read_call k s d ≡ read_step (value_by k c) (read_sym (shape_of k) s d).next
unfolding read_call
read-step-at (bit logp) s d c z e = read-step-by _ (read_sym (bit_shape logp) s d) c z e
read-step-at (table t ftb) s d c z e = read-step-by _ (read_sym (table_shape t ftb) s d) c z e
read-step-at (uniform ft) s d c z e = read-step-by _ (read_sym (uniform_shape ft) s d) c z e
read-step-at (raw n) s d c z e = read-step-by _ (read_sym (raw_shape n) s d) c z e
read-step-at (laplace fs decay) s d c z e = read-step-lap _ _ (value_at c) z (ap value_at e)

-- a symbol that was accepted, read back
pub read_back : (k : Kind) (v v' : Value k) (w w' : Wr) (s : List ℕ) (d : Reader) → Accepted k v w v' w' → Meets s w.st d
    → (read_sym (shape_of k) s d).value ≡ adjust (shape_of k) (value_count k v) → read_call k s d ≡ read_step v' (read_sym (shape_of k) s d).next
unfolding refusal_r
read_back k v v' w w' s d a m e =
    let t = taken (shape_of k) (value_count k v) w a.none in
    let z = opens s w.st d (length_ok (shape_of k)) (shape_ok (shape_of k)) (list_ok (shape_of k)) m t.rule t.tell-fits t.lengths t.shape t.lists in
    read-step-at k s d _ z e ∙ ap (λ (x : Value k). read_step x (read_sym (shape_of k) s d).next) (sym a.value)

-- ---- the law of each kind

-- every kind is coded as a lawful symbol
pub laws_of : (k : Kind) → LawfulShape (shape_of k)
laws_of (bit logp) = tt
laws_of (table t ftb) = tt
laws_of (uniform ft) = tt
laws_of (raw n) = tt
laws_of (laplace fs decay) = λ known v ok.
    let l = known_parts fs decay known in
    let c = lap-cut fs decay l v in
    record { lo-lt = c.lt; hi-le = c.le; ft-le = c.ft-le; shows = lap_finds fs decay l v }

-- an accepted symbol is fine as it counts as written
pub fine_of_lem : (k : Kind) (v v' : Value k) (w w' : Wr) → Accepted k v w v' w' → SymOk (shape_of k) (adjust (shape_of k) (value_count k v))
fine_of_lem k v v' w w' a =
    let t = taken (shape_of k) (value_count k v) w a.none in
    sym-ok (shape_of k) (value_count k v) (laws_of k) t.shape t.lists t.value
