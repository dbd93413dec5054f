-- A row of accepted symbols, read back call by call. Assumes nothing.
use Prim.Native.Nat.{ℕ}
use mathlib.Core.Path.{◌≡◌, refl, ap, subst, sym, ◌∙◌}
use mathlib.Core.Bool.{true}
use mathlib.Core.List.{List, [], ◌∷◌, ◌++◌}
use native.Mathlib.Omega.{arith}
use Rattle.entcode.specs.Sym.{Sym}
use Rattle.entdec.specs.declared.Reader.{Reader}
use Rattle.entdec.specs.Symbols.{read_sym}
use Rattle.entenc.specs.Write.{Wr}
use Rattle.entenc.specs.Symbols.{write_sym, write_syms}
use Rattle.entenc.specs.Rule.{writer_ok}
use Rattle.entenc.proofs.Taken.{taken}
use Rattle.trip_symbols.specs.Along.{Meets, Along}
use Rattle.trip_symbols.proofs.Rows.{AllSymsOk}
use Rattle.trip_theorem.specs.Calls.{Kind, Value, Symbol, symbol, value_count, WriteStep, ReadStep, Tells, tells_w, tells_r}
use Rattle.trip_theorem.specs.Calls.WriteStep.{write_step, write_refused}
use Rattle.trip_theorem.specs.Calls.ReadStep.{read_step}
use Rattle.trip_theorem.specs.Rows.{WriteRow, ReadRow, written_before, write_then, read_then, write_all, kinds, read_all}
use Rattle.trip_theorem.specs.Rows.WriteRow.{write_row, write_row_refused}
use Rattle.trip_theorem.specs.Rows.ReadRow.{read_row}
use Rattle.trip_theorem.proofs.Symbols.{shape_of, sym_in, accepted, same-tells, read_back, fine_of_lem}

-- ---- the row as symbols of the coder

-- the symbols of a row as symbols of the coder
unfoldable pub syms : List Symbol → List Sym
syms [] = []
syms (y ∷ ys) = sym_in y ∷ syms ys

-- one row after another is written as one
pub write_append : (xs ys : List Sym) (w : Wr) → write_syms (xs ++ ys) w ≡ write_syms ys (write_syms xs w)
unfolding write_syms
write_append [] ys w = refl
write_append (x ∷ xs) ys w = write_append xs ys (write_sym x.shape x.value w)

-- and is of the domain where both are
pub fine_append : (xs ys : List Sym) → AllSymsOk xs → AllSymsOk ys → AllSymsOk (xs ++ ys)
fine_append [] ys f g = g
fine_append (x ∷ xs) ys f g = (f.0, fine_append xs ys f.1 g)

-- a reader that goes along a row meets the writer before it
pub meets_first : (ys : List Sym) (s : List ℕ) (w : Wr) (d : Reader) → Along ys s w d → Meets s w.st d
meets_first [] s w d a = a
meets_first (y ∷ ys) s w d a = a.0

-- ---- a row that was accepted: its first symbol, and the others

-- a row that was accepted with a first symbol more: the rest was accepted, and this is the whole of it
pub record Rest (y : Symbol) (t : Tells) (a : WriteRow) (u : Wr) (zs : List Symbol) (ts : List Tells) : Type 0 where
  pub zs₁ : List Symbol
  pub ts₁ : List Tells
  pub rests : a ≡ write_row u zs₁ ts₁
  pub symbols : zs ≡ y ∷ zs₁
  pub tells : ts ≡ t ∷ ts₁

-- every such row has one
rest_of : (y : Symbol) (t : Tells) (a : WriteRow) (u : Wr) (zs : List Symbol) (ts : List Tells) → written_before y t a ≡ write_row u zs ts → Rest y t a u zs ts
rest_of y t (write_row w ys us) u zs ts e = record { zs₁ = ys; ts₁ = us; rests = cc; symbols = cc; tells = cc }
rest_of y t (write_row_refused i n) u zs ts e = let z : ◌≡◌ {A = ℕ} 0 1 = cc in absurd (omega arith)

-- the first write of an accepted row was accepted, and the rest after it
pub record Went (k : Kind) (x : WriteStep (Value k)) (more : Wr → WriteRow) (u : Wr) (zs : List Symbol) (ts : List Tells) : Type 0 where
  pub value : Value k
  pub next : Wr
  pub call : x ≡ write_step value next
  pub rest : Rest (symbol k value) (tells_w next.st) (more next) u zs ts

-- every accepted row begins so
pub went : (k : Kind) (x : WriteStep (Value k)) (more : Wr → WriteRow) (u : Wr) (zs : List Symbol) (ts : List Tells) → write_then k x more ≡ write_row u zs ts
    → Went k x more u zs ts
went k (write_step v w) more u zs ts e = record { value = v; next = w; call = refl; rest = rest_of _ _ (more w) u zs ts e }
went k (write_refused n) more u zs ts e = let z : ◌≡◌ {A = ℕ} 0 1 = cc in absurd (omega arith)

-- the row as one that no gate looked at
pub record Done (ys : List Symbol) (w v : Wr) : Type 0 where
  pub same : write_syms (syms ys) w ≡ v
  pub fines : AllSymsOk (syms ys)

-- an accepted row is a row of writes that were done
pub all_done : (ys : List Symbol) (w v : Wr) (zs : List Symbol) (ts : List Tells) → write_all ys w ≡ write_row v zs ts → Done ys w v
unfolding write_all write_syms syms
all_done [] w v zs ts e = record { same = cc; fines = tt }
all_done (y ∷ ys) w v zs ts e =
    let m = went y.kind _ (write_all ys) v zs ts e in
    let a = accepted y.kind y.value m.value w m.next m.call in
    let r = all_done ys m.next v m.rest.zs₁ m.rest.ts₁ m.rest.rests in
    record { same = ap (write_syms (syms ys)) (sym a.next) ∙ r.same; fines = (fine_of_lem y.kind y.value m.value w m.next a, r.fines) }

-- its first writer kept its rule, since it was accepted, if the last did
pub rule-before : (ys : List Symbol) (w v : Wr) (zs : List Symbol) (ts : List Tells) → write_all ys w ≡ write_row v zs ts → writer_ok v.st ≡ true
    → writer_ok w.st ≡ true
unfolding write_all
rule-before [] w v zs ts e r = let p : w ≡ v = cc in rw p r
rule-before (y ∷ ys) w v zs ts e r =
    let m = went y.kind _ (write_all ys) v zs ts e in
    let a = accepted y.kind y.value m.value w m.next m.call in
    (taken (shape_of y.kind) (value_count y.kind y.value) w a.none).rule

-- ---- and read

-- from s by d; v is the writer after the row, and zs are the symbols after it
pub record RowBack (ys : List Symbol) (more : List Sym) (s : List ℕ) (d : Reader) (zs : List Symbol) (ts : List Tells) (v : Wr) : Type 0 where
  pub last : Reader
  pub reads : read_all (kinds ys) s d ≡ read_row last zs ts
  pub goes : Along more s v last

-- a row is read where its first symbol is, and the rest after it
more-is : (k : Kind) (x : ReadStep (Value k)) (v : Value k) (d : Reader) (more : Reader → ReadRow) (last : Reader) (zs zs₁ : List Symbol) (ts ts₁ : List Tells)
    (t : Tells)
    → x ≡ read_step v d → more d ≡ read_row last zs₁ ts₁ → tells_r d ≡ t → zs ≡ symbol k v ∷ zs₁ → ts ≡ t ∷ ts₁ → read_then k x more ≡ read_row last zs ts
more-is k x v d more last zs zs₁ ts ts₁ t p q h a b = rw (p, q, h, a, b)

-- a reader that goes along the symbols of an accepted row reads the row
pub row_back : (ys : List Symbol) (more : List Sym) (s : List ℕ) (d : Reader) (w v : Wr) (zs : List Symbol) (ts : List Tells)
    → write_all ys w ≡ write_row v zs ts → writer_ok v.st ≡ true → Along (syms ys ++ more) s w d → RowBack ys more s d zs ts v
unfolding write_all read_all kinds syms
row_back [] more s d w v zs ts e r a =
    let p : w ≡ v = cc in
    let q : zs ≡ [] = cc in
    let k : ts ≡ [] = cc in
    record { last = d; reads = rw (q, k); goes = rw (← p) a }
row_back (y ∷ ys) more s d w v zs ts e r a =
    let m = went y.kind _ (write_all ys) v zs ts e in
    let b = accepted y.kind y.value m.value w m.next m.call in
    let d₁ = (read_sym (shape_of y.kind) s d).next in
    let g : Along (syms ys ++ more) s m.next (read_sym (shape_of y.kind) s d).next
    = subst (λ (x : Wr). Along (syms ys ++ more) s x (read_sym (shape_of y.kind) s d).next) (sym b.next) a.2 in
    let o = rule-before ys m.next v m.rest.zs₁ m.rest.ts₁ m.rest.rests r in
    let x = row_back ys more s d₁ m.next v m.rest.zs₁ m.rest.ts₁ m.rest.rests r g in
    record {
      last = x.last;
      reads =
          more-is y.kind _ m.value d₁ (read_all (kinds ys) s) x.last zs m.rest.zs₁ ts m.rest.ts₁ _
          (read_back y.kind y.value m.value w m.next s d b a.0 a.1) x.reads
          (same-tells s m.next.st d₁ (meets_first (syms ys ++ more) s m.next d₁ g) o) m.rest.symbols m.rest.tells;
      goes = x.goes;
    }
