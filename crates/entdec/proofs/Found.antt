-- Every place belongs to a symbol: the value that a kind locates has a part of the range in order, which holds the place. Assumes nothing.
use Prim.Native.Nat.{ℕ, ◌-◌, ◌^◌, ◌≤◌, ◌<◌}
use mathlib.Core.Path.{◌≡◌}
use mathlib.Core.Bool.{true, and-eq-true_iff}
use mathlib.Core.List.{List, [], ◌∷◌}
use native.Mathlib.Omega.{arith}
use lib.Dec.{ltb, eqb}
use lib.ListN.{length, get_or}
use lib.Pow.{pow_mono}
use borrow.Author.Tests.{eqb-true, lt-ltb, le-ltb}
use Rattle.laws.proofs.Tests.{by_le}
use Rattle.entcode.specs.Sym.{Model, Shape, bit_model, table_model, flat_model, find_sym, falls}
use Rattle.entcode.specs.Sym.Shape.{bit, table, uint, raw, modelled}
use Rattle.entcode.proofs.Cuts.{CutOk}
use Rattle.entcode.proofs.Falls.{entry}
use Rattle.entdec.specs.declared.Reader.{Reader}
use Rattle.entdec.specs.Read.{decoded_place}
use Rattle.entdec.proofs.Places.{place_less}

-- the value v of the model m has the place f
pub record Owns (m : Model) (v f : ℕ) : Type 0 where
  pub ok : CutOk (m.lo v) (m.hi v) m.ft
  pub from : m.lo v ≤ f
  pub to : f < m.hi v

-- the value that the model m locates in the state d has the place that d shows
abbrev pub Found : Model → Reader → Type 0
Found m d = Owns m (m.locate (decoded_place m.ft d)) (decoded_place m.ft d)

-- ---- one bit

-- by whether the place is the last
bit-owns : (k f : ℕ) → 1 ≤ k → k ≤ 15 → f < 2 ^ k → Owns (bit_model k) ((bit_model k).locate f) f
bit-owns k f p q h =
    let a : 2 ^ 1 ≤ 2 ^ k = pow_mono p in
    let b : 2 ^ k ≤ 2 ^ 15 = pow_mono q in
    by_le (2 ^ k - 1) f
    (λ l. simp (le-ltb f (2 ^ k - 1) l) (record { ok = record { lt = omega arith; le = omega arith; ft-le = omega arith }; from = l; to = h }))
    (λ l. simp (lt-ltb f (2 ^ k - 1) l) (record { ok = record { lt = omega arith; le = omega arith; ft-le = omega arith }; from = omega arith; to = l }))

-- a bit has every place of its model
pub bit_found : (k : ℕ) (d : Reader) → 1 ≤ k → k ≤ 15 → Found (bit_model k) d
bit_found k d p q =
    let a : 2 ^ 1 ≤ 2 ^ k = pow_mono p in
    bit-owns k (decoded_place (2 ^ k) d) p q (place_less (2 ^ k) d (omega arith))

-- ---- a table

-- what the search finds among the entries below p: an entry, and the place is between it and the one before
record Hit (f ft p : ℕ) (t : List ℕ) (v : ℕ) : Type 0 where
  in_t : v < length t
  from : ft - get_or (p ∷ t) v 0 ≤ f
  to : f < ft - get_or t v 0

-- entry by entry
hit : (f ft p : ℕ) (t : List ℕ) → falls p t ≡ true → 0 < length t → f < ft → ft - p ≤ f → Hit f ft p t (find_sym f ft t)
unfolding falls find_sym
hit f ft p [] e n h l = absurd (omega arith)
hit f ft p (x ∷ []) e n h l =
    let z = eqb-true x 0 ((and-eq-true_iff (ltb x p) (eqb x 0)).0 e).1 in
    let g : f < ft - x = omega arith in
    simp (lt-ltb f (ft - x) g) (record { in_t = omega arith; from = l; to = g })
hit f ft p (x ∷ (y ∷ ys)) e n h l =
    by_le (ft - x) f
    (λ g.
    let r = hit f ft x (y ∷ ys) ((and-eq-true_iff (ltb x p) (falls x (y ∷ ys))).0 e).1 (omega arith) h g in
    simp (le-ltb f (ft - x) g) (record { in_t = omega (arith, r.in_t); from = r.from; to = r.to }))
    (λ g. simp (lt-ltb f (ft - x) g) (record { in_t = omega arith; from = l; to = g }))

module _ (t : List ℕ) (k : ℕ) (d : Reader) (some : 0 < length t) (good : falls (2 ^ k) t ≡ true) where
  -- at the place that the state shows
  table_hit : 1 ≤ k → Hit (decoded_place (2 ^ k) d) (2 ^ k) (2 ^ k) t (find_sym (decoded_place (2 ^ k) d) (2 ^ k) t)
  table_hit p =
      let a : 2 ^ 1 ≤ 2 ^ k = pow_mono p in
      hit (decoded_place (2 ^ k) d) (2 ^ k) (2 ^ k) t good some (place_less (2 ^ k) d (omega arith)) (omega arith)

  -- the entry found is one of the table
  pub table_hit_value : 1 ≤ k → find_sym (decoded_place (2 ^ k) d) (2 ^ k) t < length t
  table_hit_value p = (table_hit p).in_t

  -- so has a table
  pub table-found : 1 ≤ k → k ≤ 8 → Found (table_model t k) d
  table-found p q =
      let h = table_hit p in
      let n = entry (2 ^ k) t (find_sym (decoded_place (2 ^ k) d) (2 ^ k) t) good h.in_t in
      let b : 2 ^ k ≤ 2 ^ 8 = pow_mono q in
      record { ok = record { lt = omega (arith, n.lt, n.le); le = omega arith; ft-le = omega arith }; from = h.from; to = h.to }

-- ---- a uniform number

-- a uniform number has the place itself
pub flat-found : (ft : ℕ) (d : Reader) → 1 ≤ ft → ft ≤ 32768 → Found (flat_model ft) d
flat-found ft d p q =
    let h = place_less ft d p in
    record { ok = record { lt = omega arith; le = omega arith; ft-le = q }; from = omega arith; to = omega arith }

-- what a kind asks of a state beside its numbers, table and length: nothing, but of a model of another section that it locates a value
abbrev pub ShapeFound : Shape → Reader → Type 0
ShapeFound (bit k) d = Unit {0}
ShapeFound (table t k) d = Unit {0}
ShapeFound (uint ft) d = Unit {0}
ShapeFound (raw b) d = Unit {0}
ShapeFound (modelled m) d = Found m d
