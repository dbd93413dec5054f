-- Rows, one symbol on. Assumes nothing.
use Prim.Native.Nat.{ℕ, suc, ◌+◌, ◌-◌, ◌≤◌, ◌<◌}
use mathlib.Core.Path.{◌≡◌, refl}
use mathlib.Core.Bool.{Bool, true, false, cond, ◌&&◌}
use mathlib.Core.List.{List}
use native.Mathlib.Omega.{arith}
use lib.Dec.{eqb}
use Rattle.entcode.specs.Said.{said}
use Rattle.entdec.specs.declared.Reader.{Reader}
use Rattle.entenc.specs.declared.Writer.{Writer}
use Rattle.entenc.specs.Write.{Wr, wr}
use Rattle.trip_theorem.specs.Calls.{WriteStep, ReadStep, tells_r, tells_w}
use Rattle.trip_theorem.specs.Calls.WriteStep.{write_step, write_refused}
use Rattle.trip_theorem.specs.Calls.ReadStep.{read_step, read_refused}
use Rattle.trip_call.specs.declared.given.Given.{Given}
use Rattle.std.specs.Prelude.{Result, Ok, Err, Option, None, Some}
use Rattle.entcode.specs.declared.reasons.Refusal.{Refusal}
use Rattle.entcode.specs.Refusal.{number_of}
use Rattle.trip_call.specs.declared.rows.Pair.{Pair}
use Rattle.trip_call.specs.Given.{given_at, symbol_of}
use Rattle.trip_call.specs.Steps.{Counted, write_step_of, write_symbol, read_symbol}
use Rattle.trip_call.specs.Runs.{Pairs, AfterRow, pair_then, pair_from, pairs_of, row_then, row_from}
use Rattle.trip_call.specs.Runs.AfterRow.{after_row, row_refused}
use Rattle.trip_call.specs.Runs.Pairs.{same, differs}
use Rattle.trip_call.specs.Same.{same_tells}

-- ---- rows

module _ (l t : List ℕ) (n i : ℕ) where
  -- one symbol more of the row
  run_step : (w : Wr) → i < n → row_from l t (n - i) i w ≡ row_then (write_symbol (symbol_of (given_at l i) t) w) i (row_from l t (n - (i + 1)) (i + 1))
  unfolding row_from
  run_step w h =
      let p : n - i ≡ suc (n - (i + 1)) = omega arith in
      let q : suc i ≡ i + 1 = omega arith in
      rw (p, q)

  -- the row ends after its last symbol
  pub run_end : (w : Wr) {x : AfterRow} → n ≤ i → row_from l t (n - i) i w ≡ x → after_row w ≡ x
  unfolding row_from
  run_end w h e = let p : n - i ≡ 0 = omega arith in rw p at e

  module _ (w : Wr) {g : Given} {x : AfterRow} (a : Result (Counted Writer) Refusal) (b : List ℕ) (h : i < n) (f : g ≡ given_at l i)
      (e : write_step_of (said a) b ≡ write_symbol (symbol_of g t) w)
      (k : row_from l t (n - i) i w ≡ x) where
    -- one symbol more, by the code's answer
    by-step : row_then (write_step_of (said a) b) i (row_from l t (n - (i + 1)) (i + 1)) ≡ x
    by-step = rw (e, f, ← run_step w h) k

    -- an accepted symbol leaves the others
    pub run_on : (y : Counted Writer) → a ≡ Ok y → row_from l t (n - (i + 1)) (i + 1) (wr y.next b) ≡ x
    run_on y p = rw p at by-step

    -- a refused one ends the row
    pub run_no : {why : Refusal} → a ≡ Err why → row_refused i (number_of why) ≡ x
    run_no p = rw p at by-step

-- a pair that agreed goes on
abbrev then : Pairs → (Wr → Reader → Pairs) → Pairs
then (same w d) more = more w d
then differs more = differs

-- what follows a comparison
then_cond : (b : Bool) (w : Wr) (d : Reader) (more : Wr → Reader → Pairs) → then (cond b (same w d) differs) more ≡ cond b (more w d) differs
then_cond true w d more = refl
then_cond false w d more = refl

-- what follows one symbol
then_pair : (x : WriteStep ℕ) (y : ReadStep ℕ) (more : Wr → Reader → Pairs) → then (pair_then x y same) more ≡ pair_then x y more
then_pair (write_step u w) (read_step v d) more = then_cond (eqb u v && same_tells (tells_w w.st) (tells_r d)) w d more
then_pair (write_step u w) (read_refused n) more = refl
then_pair (write_refused n) y more = refl

module _ (l t s : List ℕ) (n i : ℕ) where
  -- one symbol more of both rows
  pair_step : (w : Wr) (d : Reader) → i < n → pair_from l t s (n - i) i w d
      ≡ pair_then (write_symbol (symbol_of (given_at l i) t) w) (read_symbol (symbol_of (given_at l i) t) s d) (pair_from l t s (n - (i + 1)) (i + 1))
  unfolding pair_from
  pair_step w d h =
      let p : n - i ≡ suc (n - (i + 1)) = omega arith in
      let q : suc i ≡ i + 1 = omega arith in
      rw (p, q)

  -- both rows end after the last symbol
  pub pair_end : (w : Wr) (d : Reader) {x : Pairs} → n ≤ i → pair_from l t s (n - i) i w d ≡ x → same w d ≡ x
  unfolding pair_from
  pair_end w d h e = let p : n - i ≡ 0 = omega arith in rw p at e

  module _ (w : Wr) (d : Reader) {g : Given} {x : Pairs} (a : Option Pair) (b : List ℕ) (h : i < n) (f : g ≡ given_at l i)
      (e : pairs_of a b ≡ pair_then (write_symbol (symbol_of g t) w) (read_symbol (symbol_of g t) s d) same) (k : pair_from l t s (n - i) i w d ≡ x) where
    -- one symbol more, by the code's answer
    by_pair : then (pairs_of a b) (pair_from l t s (n - (i + 1)) (i + 1)) ≡ x
    by_pair = rw (e, then_pair, f, ← pair_step w d h) k

    -- a symbol that agrees leaves the others
    pub pair_on : (p : Pair) → a ≡ Some p → pair_from l t s (n - (i + 1)) (i + 1) (wr p.writer b) p.reader ≡ x
    pair_on p q = rw q at by_pair

    -- one that differs ends the rows
    pub pair_differs : a ≡ None → differs ≡ x
    pair_differs q = rw q at by_pair
