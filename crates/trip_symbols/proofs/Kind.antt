-- Every kind of symbol: an accepted value has places of its own, or fits its raw bits, and its pieces are in order.
use Prim.Native.Nat.{ℕ, zero, suc, ◌-◌, ◌/◌, ◌%◌, ◌^◌, ◌≤◌, ◌<◌}
use mathlib.Core.Path.{◌≡◌, refl, ap}
use mathlib.Core.Bool.{true, and-eq-true_iff}
use mathlib.Core.List.{List, [], ◌∷◌}
use native.Mathlib.Omega.{arith}
use lib.ListN.{length, get_or}
use lib.Dec.{ltb, leb, eqb}
use lib.Pow.{pow_mono}
use borrow.Author.Tests.{lt-ltb, le-ltb, ltb-true, leb-true, eqb-true, eqb-false}
use Rattle.laws.proofs.Tests.{split_on}
use Rattle.entcode.specs.Sym.{
  Model,
  Shape,
  bit_model,
  find_sym,
  falls,
  table_model,
  flat_model,
  low_bits,
  upper,
  pieces_of,
  adjust,
  shape_ok,
  list_ok,
  value_ok,
}
use Rattle.entcode.specs.Sym.Shape.{bit, table, uint, raw, modelled}
use Rattle.entcode.proofs.Cuts.{CutOk}
use Rattle.entcode.proofs.Falls.{entry}
use Rattle.entcode.proofs.Pieces.{BitsOk, PiecesOk, uint-few, uint_many}
use Rattle.trip_symbols.specs.Lawful.{Lawful, LawfulShape}

-- the places of a lawful value are in order
pub cut_ok : {m : Model} {v : ℕ} → Lawful m v → CutOk (m.lo v) (m.hi v) m.ft
cut_ok l = record { lt = l.lo-lt; le = l.hi-le; ft-le = l.ft-le }

-- ---- bit

-- by the value
bit_lawful : (k v : ℕ) → 1 ≤ k → k ≤ 15 → v ≤ 1 → Lawful (bit_model k) v
bit_lawful k zero p q h =
    let a : 2 ^ 1 ≤ 2 ^ k = pow_mono p in
    let c : 2 ^ k ≤ 2 ^ 15 = pow_mono q in
    record {
      lo-lt = omega arith;
      hi-le = omega arith;
      ft-le = omega arith;
      shows = λ f l u. simp (lt-ltb f (2 ^ k - 1) u);
    }
bit_lawful k (suc zero) p q h =
    let a : 2 ^ 1 ≤ 2 ^ k = pow_mono p in
    let c : 2 ^ k ≤ 2 ^ 15 = pow_mono q in
    record {
      lo-lt = omega arith;
      hi-le = omega arith;
      ft-le = omega arith;
      shows = λ f l u. simp (le-ltb f (2 ^ k - 1) l);
    }
bit_lawful k (suc (suc v)) p q h = absurd (omega arith)

-- ---- table

-- the search finds the symbol of each of its places
find_symbol : (f ft p : ℕ) (t : List ℕ) (v : ℕ) → falls p t ≡ true → v < length t → ft - get_or (p ∷ t) v 0 ≤ f → f < ft - get_or t v 0 → find_sym f ft t ≡ v
unfolding falls find_sym
find_symbol f ft p [] v e h l u = absurd (omega arith)
find_symbol f ft p (x ∷ xs) zero e h l u = simp (lt-ltb f (ft - x) u)
find_symbol f ft p (x ∷ xs) (suc v) e h l u =
    let n = entry x xs v ((and-eq-true_iff (ltb x p) (falls x xs)).0 e).1 (omega arith) in
    let y : ft - x ≤ f = omega (arith, n.le) in
    simp (le-ltb f (ft - x) y) (ap suc (find_symbol f ft x xs v ((and-eq-true_iff (ltb x p) (falls x xs)).0 e).1 (omega arith) l u))

-- a table's symbol
table_lawful : (t : List ℕ) (k v : ℕ) → k ≤ 8 → falls (2 ^ k) t ≡ true → v < length t → Lawful (table_model t k) v
table_lawful t k v q e h =
    let n = entry (2 ^ k) t v e h in
    let c : 2 ^ k ≤ 2 ^ 8 = pow_mono q in
    record {
      lo-lt = omega (arith, n.lt, n.le);
      hi-le = omega arith;
      ft-le = omega arith;
      shows = λ f l u. find_symbol f (2 ^ k) (2 ^ k) t v e h l u;
    }

-- ---- uniform, at most eight bits and more

-- a place for each value
pub flat_lawful : (ft v : ℕ) → ft ≤ 32768 → v < ft → Lawful (flat_model ft) v
flat_lawful ft v q h = record { lo-lt = omega arith; hi-le = omega arith; ft-le = q; shows = λ f l u. omega arith }

-- ---- all kinds

-- a uniform number below ft
pub record UintOk (ft v : ℕ) : Type 0 where
  pub ft-lt : ft < 4294967296
  pub value-lt : v < ft

-- what an accepted symbol of a kind meets
abbrev pub SymOk : Shape → ℕ → Type 0
SymOk (bit k) v = Lawful (bit_model k) v
SymOk (table t k) v = Lawful (table_model t k) v
SymOk (uint ft) v = UintOk ft v
SymOk (raw b) v = BitsOk b v
SymOk (modelled m) v = Lawful m v

-- the upper digits of a uniform number
pub top_lawful : (ft v : ℕ) → UintOk ft v → (low_bits ft ≡ 0 → ⊥) → Lawful (flat_model (upper ft)) (v / 2 ^ low_bits ft)
top_lawful ft v f n =
    let m = uint_many ft v (2 ^ low_bits ft) f.ft-lt f.value-lt n refl in
    flat_lawful (upper ft) (v / 2 ^ low_bits ft) (omega (arith, m.upper_lt)) (omega (arith, m.upper-le))

-- its raw digits
pub low_ok : (ft v : ℕ) → UintOk ft v → (low_bits ft ≡ 0 → ⊥) → BitsOk (low_bits ft) (v % 2 ^ low_bits ft)
low_ok ft v f n =
    let m = uint_many ft v (2 ^ low_bits ft) f.ft-lt f.value-lt n refl in
    record { bits_pos = m.bits_pos; bits-le = omega (arith, m.bits-le); value-lt = m.rest_lt }

-- by the kind
pub pieces_ok : (h : Shape) (v : ℕ) → SymOk h v → PiecesOk (pieces_of h v)
unfolding pieces_of
pieces_ok (bit k) v f = (cut_ok f, tt)
pieces_ok (table t k) v f = (cut_ok f, tt)
pieces_ok (uint ft) v f =
    split_on (eqb (low_bits ft) 0)
    (λ t. simp t (cut_ok (flat_lawful ft v (omega (arith, uint-few ft f.ft-lt (eqb-true (low_bits ft) 0 t))) f.value-lt), tt))
    (λ t. let n = eqb-false (low_bits ft) 0 t in simp t (cut_ok (top_lawful ft v f n), (low_ok ft v f n, tt)))
pieces_ok (raw b) v f = (f, tt)
pieces_ok (modelled m) v f = (cut_ok f, tt)

-- an accepted symbol meets it as it counts as written
pub sym-ok : (h : Shape) (v : ℕ) → LawfulShape h → shape_ok h ≡ true → list_ok h ≡ true → value_ok h v ≡ true → SymOk h (adjust h v)
unfolding shape_ok list_ok value_ok adjust
sym-ok (bit k) v l a b c = let s = (and-eq-true_iff (leb 1 k) (leb k 15)).0 a in bit_lawful k v (leb-true 1 k s.0) (leb-true k 15 s.1) (leb-true v 1 c)
sym-ok (table t k) v l a b c = let s = (and-eq-true_iff (leb 1 k) (leb k 8)).0 a in table_lawful t k v (leb-true k 8 s.1) b (ltb-true v (length t) c)
sym-ok (uint ft) v l a b c =
    let s = (and-eq-true_iff (leb 2 ft) (leb ft 4294967295)).0 a in
    record { ft-lt = omega (arith, leb-true ft 4294967295 s.1); value-lt = ltb-true v ft c }
sym-ok (raw n) v l a b c = let s = (and-eq-true_iff (leb 1 n) (leb n 25)).0
    a in record { bits_pos = leb-true 1 n s.0; bits-le = leb-true n 25 s.1; value-lt = ltb-true v (2 ^ n) c }
sym-ok (modelled m) v l a b c = l a v c
