-- The code's rows are the rows of the theorem. Assumes nothing.
use Prim.Native.Nat.{ℕ, zero, suc, ◌+◌, ◌/◌}
use mathlib.Core.Path.{◌≡◌, refl, ap, ◌∙◌}
use mathlib.Core.Bool.{Bool, true, false, true≢false, cond, ◌&&◌, and-eq-true_iff}
use mathlib.Core.List.{List}
use native.Mathlib.Omega.{arith}
use lib.IntN.{ℤ}
use lib.ListN.{length}
use borrow.Author.Tests.{eq-eqb}
use Rattle.entcode.specs.Said.{Said}
use Rattle.entcode.specs.Said.Said.{done, refused}
use Rattle.entdec.specs.declared.Reader.{Reader}
use Rattle.entenc.specs.declared.Writer.{Writer}
use Rattle.entenc.specs.Write.{Wr, wr}
use Rattle.rate.specs.declared.AllocNumbers.{AllocNumbers}
use Rattle.rate.specs.Allocations.{WrittenAllocation}
use Rattle.rate.specs.Question.{Lists}
use Rattle.trip_theorem.specs.Calls.{Kind, WriteStep, Symbol, Tells, ReadStep, Value, read_call, symbol, tells_r, tells_w, write_call}
use Rattle.trip_theorem.specs.Calls.WriteStep.{write_step, write_refused}
use Rattle.trip_theorem.specs.Calls.ReadStep.{read_step, read_refused}
use Rattle.trip_theorem.specs.Rows.{ReadRow, WriteRow, written_before, read_before, kinds, write_then, read_all, read_then, write_all}
use Rattle.trip_theorem.specs.Rows.WriteRow.{write_row, write_row_refused}
use Rattle.trip_theorem.specs.Rows.ReadRow.{read_row, read_row_refused}
use Rattle.std.specs.Prelude.{Result, Ok, Err}
use Rattle.entcode.specs.Refusal.{number_of}
use Rattle.trip_call.specs.declared.rows.RowRefusal.{RowRefusal}
use Rattle.trip_call.specs.Given.{given_at, symbol_of, symbols_from, symbols_of}
use Rattle.trip_call.specs.Steps.{count_written, count_read, write_symbol, read_symbol}
use Rattle.trip_call.specs.Runs.{Pairs, AfterRow, pair_then, pair_from, row_then, after_row_of, row_from}
use Rattle.trip_call.specs.Runs.AfterRow.{after_row, row_refused}
use Rattle.trip_call.specs.Runs.Pairs.{same, differs}
use Rattle.trip_call.specs.ReadBack.{row_agrees, shares_agree}
use Rattle.trip_call.specs.Same.{alike, same_tells, same_tell, same_value}

-- ---- written

-- where a row from place i on ends
abbrev after_row_in : ℕ → WriteRow → AfterRow
after_row_in i (write_row w zs ts) = after_row w
after_row_in i (write_row_refused j n) = row_refused (i + j) n

-- a row with one symbol more before it is one place later
after-row-later : (i : ℕ) (y : Symbol) (t : Tells) (a : WriteRow) → after_row_in (suc i) a ≡ after_row_in i (written_before y t a)
after-row-later i y t (write_row w zs ts) = refl
after-row-later i y t (write_row_refused j n) = let e : suc i + j ≡ i + suc j = omega arith in ap (λ (m : ℕ). row_refused m n) e

-- the first symbol by places and by list
after-row-step : (k : Kind) (x : WriteStep (Value k)) (i : ℕ) (f : Wr → AfterRow) (g : Wr → WriteRow) → ((w : Wr) → f w ≡ after_row_in (suc i) (g w))
    → row_then (count_written k x) i f ≡ after_row_in i (write_then k x g)
after-row-step k (write_step v w) i f g h = h w ∙ after-row-later i (symbol k v) (tells_w w.st) (g w)
after-row-step k (write_refused n) i f g h = let e : i ≡ i + 0 = omega arith in ap (λ (m : ℕ). row_refused m n) e

-- the row by places is the row by list, as far as the writer or the refusal goes
run_is : (l t : List ℕ) (n i : ℕ) (w : Wr) → row_from l t n i w ≡ after_row_in i (write_all (symbols_from l t n i) w)
unfolding row_from symbols_from write_all write_symbol
run_is l t zero i w = refl
run_is l t (suc n) i w =
    let y = symbol_of (given_at l i) t in
    after-row-step y.kind (write_call y.kind y.value w) i (row_from l t n (suc i)) (write_all (symbols_from l t n (suc i))) (run_is l t n (suc i))

-- the row was accepted, and left this writer
pub record RowWritten (a : WriteRow) (v : Wr) : Type 0 where
  pub zs : List Symbol
  pub ts : List Tells
  pub is : a ≡ write_row v zs ts

-- a writer after the row means that it was accepted
wrote_of : (a : WriteRow) (v : Wr) → after_row v ≡ after_row_in 0 a → RowWritten a v
wrote_of (write_row w zs ts) v e = record { zs = zs; ts = ts; is = let p : w ≡ v = cc in ap (λ (x : Wr). write_row x zs ts) p }
wrote_of (write_row_refused j n) v e = let z : ◌≡◌ {A = ℕ} 0 1 = cc in absurd (omega arith)

-- and a refusal that it was refused so
refused_of : (a : WriteRow) (i n : ℕ) → row_refused i n ≡ after_row_in 0 a → a ≡ write_row_refused i n
refused_of (write_row w zs ts) i n e = let z : ◌≡◌ {A = ℕ} 0 1 = cc in absurd (omega arith)
refused_of (write_row_refused j m) i n e =
    let p : i ≡ 0 + j = cc in
    let q : n ≡ m = cc in
    let r : j ≡ i = omega arith in
    rw (q, r)

module _ (l t : List ℕ) (w : Wr) where
  -- the same, of the whole list of symbols
  row_wrote : (v : Wr) → after_row v ≡ row_from l t (length l / 5) 0 w → RowWritten (write_all (symbols_of l t) w) v
  row_wrote v e = wrote_of _ v (e ∙ run_is l t (length l / 5) 0 w)

  -- and its refusal
  row-refused : (i n : ℕ) → row_refused i n ≡ row_from l t (length l / 5) 0 w → write_all (symbols_of l t) w ≡ write_row_refused i n
  row-refused i n e = refused_of _ i n (e ∙ run_is l t (length l / 5) 0 w)

-- by the code's answer r, which left the bytes k; b is a copy of the bytes
module _ (l t bytes : List ℕ) (w : Writer) {b : List ℕ} (r : Result Writer RowRefusal) (k : List ℕ) (p : b ≡ bytes)
    (e : after_row_of r k ≡ row_from l t (length l / 5) 0 (wr w b))
  where
    -- the same, of the code's answer
    pub rows_wrote : (v : Writer) → r ≡ Ok v → RowWritten (write_all (symbols_of l t) (wr w bytes)) (wr v k)
    rows_wrote v q = row_wrote l t (wr w bytes) (wr v k) (rw (q, p) at e)

    -- and its refusal
    pub rows_refused : (x : RowRefusal) → r ≡ Err x → write_all (symbols_of l t) (wr w bytes) ≡ write_row_refused x.place (number_of x.why)
    rows_refused x q = row-refused l t (wr w bytes) x.place (number_of x.why) (rw (q, p) at e)

-- ---- and read

-- an answer of tell is the same as itself
tell-same : (a : Said ℕ) → same_tell a a ≡ true
tell-same (done n) = eq-eqb n n refl
tell-same (refused n) = eq-eqb n n refl

-- what is equal compares as the same
pub tells_equal : (a b : Tells) → b ≡ a → same_tells a b ≡ true
tells_equal a b e = rw (e, tell-same a.bits, tell-same a.eighths)

-- the symbols as they were written and as they were read, compared
abbrev paired : WriteRow → ReadRow → Pairs
paired (write_row v zs ts) (read_row e xs us) = cond (alike same_value zs xs && alike same_tells ts us) (same v e) differs
paired (write_row v zs ts) (read_row_refused i n) = differs
paired (write_row_refused i n) r = differs

-- four tests of which the two of the first symbol fail
first_fails : (p q a b : Bool) → p && q ≡ false → (p && a && (q && b)) ≡ false
first_fails false q a b h = refl
first_fails true false true b h = refl
first_fails true false false b h = refl
first_fails true true a b h = absurd (true≢false h)

module _ (y z : Symbol) (t u : Tells) where
  -- a first symbol that is the same, and one that is not
  paired_on : (a : WriteRow) (r : ReadRow) → same_value y z && same_tells t u ≡ true → paired a r ≡ paired (written_before y t a) (read_before z u r)
  unfolding alike
  paired_on (write_row v zs ts) (read_row e xs us) h =
      let k = (and-eq-true_iff (same_value y z) (same_tells t u)).0 h in
      rw (k.0, k.1)
  paired_on (write_row v zs ts) (read_row_refused i n) h = refl
  paired_on (write_row_refused i n) r h = refl

  -- a first symbol that differs: the rows differ
  paired_off : (a : WriteRow) (r : ReadRow) → same_value y z && same_tells t u ≡ false → differs ≡ paired (written_before y t a) (read_before z u r)
  unfolding alike
  paired_off (write_row v zs ts) (read_row e xs us) h = rw (first_fails (same_value y z) (same_tells t u) (alike same_value zs xs) (alike same_tells ts us) h)
  paired_off (write_row v zs ts) (read_row_refused i n) h = refl
  paired_off (write_row_refused i n) r h = refl

  -- by whether the first symbol agrees
  paired_first : (b : Bool) (x : Pairs) (a : WriteRow) (r : ReadRow) → same_value y z && same_tells t u ≡ b → x ≡ paired a r
      → cond b x differs ≡ paired (written_before y t a) (read_before z u r)
  paired_first true x a r e p = p ∙ paired_on a r e
  paired_first false x a r e p = paired_off a r e

-- a row that is not read differs from any
not-read : (y : Symbol) (t : Tells) (a : WriteRow) (n : ℕ) → differs ≡ paired (written_before y t a) (read_row_refused 0 n)
not-read y t (write_row v zs ts) n = refl
not-read y t (write_row_refused i k) n = refl

-- the first symbol of both rows
pair_both : (k : Kind) (x : WriteStep (Value k)) (z : ReadStep (Value k)) (f : Wr → Reader → Pairs) (g : Wr → WriteRow) (h : Reader → ReadRow)
    → ((w : Wr) (d : Reader) → f w d ≡ paired (g w) (h d)) → pair_then (count_written k x) (count_read k z) f ≡ paired (write_then k x g) (read_then k z h)
pair_both k (write_step u w) (read_step v d) f g h p = paired_first (symbol k u) (symbol k v) (tells_w w.st) (tells_r d) _ (f w d) (g w) (h d) refl (p w d)
pair_both k (write_step u w) (read_refused n) f g h p = not-read (symbol k u) (tells_w w.st) (g w) n
pair_both k (write_refused n) z f g h p = refl

-- the code, which writes a second time beside the reader and stops at the first difference, compares these rows
pub pairs_are : (l t s : List ℕ) (n i : ℕ) (w : Wr) (d : Reader)
    → pair_from l t s n i w d ≡ paired (write_all (symbols_from l t n i) w) (read_all (kinds (symbols_from l t n i)) s d)
unfolding pair_from symbols_from write_all read_all kinds write_symbol read_symbol alike
pairs_are l t s zero i w d = refl
pairs_are l t s (suc n) i w d =
    let y = symbol_of (given_at l i) t in
    pair_both y.kind (write_call y.kind y.value w) (read_call y.kind s d) (pair_from l t s n (suc i)) (write_all (symbols_from l t n (suc i)))
    (read_all (kinds (symbols_from l t n (suc i))) s) (pairs_are l t s n (suc i))

-- by the code's answer
module _ (q : AllocNumbers) (offsets caps : List ℤ) (y : WrittenAllocation) (m : Lists) (s : List ℕ) where
  -- rows that agree leave the allocation to decide
  pub row_same : (a : WriteRow) (r : ReadRow) (v : Wr) (e : Reader) → same v e ≡ paired a r
      → row_agrees q offsets caps y m s a r ≡ shares_agree q offsets caps y m s e
  row_same (write_row w zs ts) (read_row d xs us) v e p = go (alike same_value zs xs && alike same_tells ts us) p
    where
      go : (b : Bool) → same v e ≡ cond b (same w d) differs → (b && shares_agree q offsets caps y m s d) ≡ shares_agree q offsets caps y m s e
      go true p = let z : d ≡ e = cc in ap (λ (x : Reader). shares_agree q offsets caps y m s x) z
      go false p = let z : ◌≡◌ {A = ℕ} 0 1 = cc in absurd (omega arith)
  row_same (write_row w zs ts) (read_row_refused i n) v e p = let z : ◌≡◌ {A = ℕ} 0 1 = cc in absurd (omega arith)
  row_same (write_row_refused i n) r v e p = let z : ◌≡◌ {A = ℕ} 0 1 = cc in absurd (omega arith)

  -- rows that differ do not agree
  pub row-differs : (a : WriteRow) (r : ReadRow) → differs ≡ paired a r → row_agrees q offsets caps y m s a r ≡ false
  row-differs (write_row w zs ts) (read_row d xs us) p = go (alike same_value zs xs && alike same_tells ts us) p
    where
      go : (b : Bool) → differs ≡ cond b (same w d) differs → (b && shares_agree q offsets caps y m s d) ≡ false
      go true p = let z : ◌≡◌ {A = ℕ} 0 1 = cc in absurd (omega arith)
      go false p = refl
  row-differs (write_row w zs ts) (read_row_refused i n) p = refl
  row-differs (write_row_refused i n) r p = refl
