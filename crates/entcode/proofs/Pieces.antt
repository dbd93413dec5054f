-- Every kind of symbol is made of pieces that are in order. Assumes nothing.
use Prim.Native.Nat.{ℕ, zero, suc, ◌+◌, ◌-◌, ◌/◌, ◌%◌, ◌^◌, ◌≤◌, ◌<◌}
use mathlib.Core.Path.{◌≡◌, refl, subst}
use mathlib.Core.Bool.{true, and-eq-true_iff}
use mathlib.Core.List.{List, [], ◌∷◌}
use native.Mathlib.Nat.{mod-lt}
use native.Mathlib.Omega.{arith}
use lib.ListN.{length}
use lib.Dec.{leb, eqb}
use lib.Count.{leading_length}
use lib.Pow.{pow_mono, pow_pos, shr_lt, shr_mono}
use borrow.Author.Tests.{ltb-true, leb-true, eqb-true, eqb-false}
use Rattle.laws.proofs.Tests.{split_on, by_le}
use Rattle.entcode.specs.Sym.{Piece, Shape, bit_model, table_model, falls, low_bits, pieces_of, adjust, shape_ok, value_ok, list_ok}
use Rattle.entcode.specs.Sym.Piece.{cut, bits}
use Rattle.entcode.specs.Sym.Shape.{bit, table, uint, raw, modelled}
use Rattle.entcode.proofs.Cuts.{CutOk}
use Rattle.entcode.proofs.Falls.{entry}

-- raw bits of a number that has no more
pub record BitsOk (b v : ℕ) : Type 0 where
  pub bits_pos : 1 ≤ b
  pub bits-le : b ≤ 25
  pub value-lt : v < 2 ^ b

-- a piece in order
abbrev pub PieceOk : Piece → Type 0
PieceOk (cut fl fh ft) = CutOk fl fh ft
PieceOk (bits b v) = BitsOk b v

-- all of them
abbrev pub PiecesOk : List Piece → Type 0
PiecesOk [] = Unit {0}
PiecesOk (p ∷ ps) = PieceOk p × PiecesOk ps

-- ---- uniform numbers: of one piece, or of two

-- no raw digits: at most 256 values
pub uint-few : (ft : ℕ) → ft < 4294967296 → low_bits ft ≡ 0 → ft ≤ 256
uint-few ft q h =
    let t = leading_length 32 (ft - 1) (omega arith) in
    let m : t.0 ≤ 8 = omega (arith, t.1) in
    let p : 2 ^ t.0 ≤ 2 ^ 8 = pow_mono m in
    omega (arith, t.2)

-- raw digits, u being 2 to their number: one to 24 of them, and at most eight digits above
pub record Many (ft v u : ℕ) : Type 0 where
  pub bits_pos : 1 ≤ low_bits ft
  pub bits-le : low_bits ft ≤ 24
  pub unit_pos : 1 ≤ u
  pub upper-le : v / u ≤ (ft - 1) / u
  pub upper_lt : (ft - 1) / u < 256
  pub rest_lt : v % u < u

-- a number of more than eight digits
pub uint_many : (ft v u : ℕ) → ft < 4294967296 → v < ft → (low_bits ft ≡ 0 → ⊥) → u ≡ 2 ^ low_bits ft → Many ft v u
uint_many ft v u q l h e =
    let t = leading_length 32 (ft - 1) (omega arith) in
    let n : t.0 ≡ 8 + low_bits ft = by_le 9 t.0 (λ a. omega (arith, t.1)) (λ a. absurd (h (omega (arith, t.1)))) in
    let a : ft - 1 < 2 ^ (8 + low_bits ft) = subst (λ (k : ℕ). ft - 1 < 2 ^ k) n t.2 in
    let m : v / 2 ^ low_bits ft ≤ (ft - 1) / 2 ^ low_bits ft = shr_mono (low_bits ft) (omega arith) in
    rw e
    (record {
      bits_pos = by_le 1 (low_bits ft) (λ a. a) (λ a. absurd (h (omega arith)));
      bits-le = omega (arith, t.1);
      unit_pos = pow_pos (low_bits ft);
      upper-le = m;
      upper_lt = shr_lt 8 (low_bits ft) a;
      rest_lt = mod-lt v (pow_pos (low_bits ft));
    })

-- ---- each kind

-- the places of a bit
bit_ok : (k v : ℕ) → 1 ≤ k → k ≤ 15 → v ≤ 1 → CutOk ((bit_model k).lo v) ((bit_model k).hi v) (2 ^ k)
bit_ok k zero p q h =
    let a : 2 ^ 1 ≤ 2 ^ k = pow_mono p in
    let c : 2 ^ k ≤ 2 ^ 15 = pow_mono q in
    record { lt = omega arith; le = omega arith; ft-le = omega arith }
bit_ok k (suc zero) p q h =
    let a : 2 ^ 1 ≤ 2 ^ k = pow_mono p in
    let c : 2 ^ k ≤ 2 ^ 15 = pow_mono q in
    record { lt = omega arith; le = omega arith; ft-le = omega arith }
bit_ok k (suc (suc v)) p q h = absurd (omega arith)

-- the places of a table's symbol
table-ok : (t : List ℕ) (k v : ℕ) → k ≤ 8 → falls (2 ^ k) t ≡ true → v < length t → CutOk ((table_model t k).lo v) ((table_model t k).hi v) (2 ^ k)
table-ok t k v q e h =
    let n = entry (2 ^ k) t v e h in
    let c : 2 ^ k ≤ 2 ^ 8 = pow_mono q in
    record { lt = omega (arith, n.lt, n.le); le = omega arith; ft-le = omega arith }

-- the pieces of a uniform number
uint-ok : (ft v : ℕ) → ft < 4294967296 → v < ft → PiecesOk (pieces_of (uint ft) v)
unfolding pieces_of
uint-ok ft v q h =
    split_on (eqb (low_bits ft) 0)
    (λ t. simp t (record { lt = omega arith; le = omega arith; ft-le = omega (arith, uint-few ft q (eqb-true (low_bits ft) 0 t)) }, tt))
    (λ t.
    let m = uint_many ft v (2 ^ low_bits ft) q h (eqb-false (low_bits ft) 0 t) refl in
    simp t (
      record { lt = omega arith; le = omega (arith, m.upper-le); ft-le = omega (arith, m.upper_lt) },
      (record { bits_pos = m.bits_pos; bits-le = omega (arith, m.bits-le); value-lt = m.rest_lt }, tt),
    ))

-- what a model of another section must give of its own
abbrev pub ModelOk : Shape → ℕ → Type 0
ModelOk (bit k) v = Unit {0}
ModelOk (table t k) v = Unit {0}
ModelOk (uint ft) v = Unit {0}
ModelOk (raw b) v = Unit {0}
ModelOk (modelled m) v = CutOk (m.lo (m.adjust v)) (m.hi (m.adjust v)) m.ft

-- a symbol that is not refused has pieces in order
pub pieces_ok : (h : Shape) (v : ℕ) → shape_ok h ≡ true → value_ok h v ≡ true → list_ok h ≡ true → ModelOk h v → PiecesOk (pieces_of h (adjust h v))
unfolding shape_ok value_ok list_ok pieces_of adjust
pieces_ok (bit k) v s e l m =
    let a = (and-eq-true_iff (leb 1 k) (leb k 15)).0 s in
    (bit_ok k v (leb-true 1 k a.0) (leb-true k 15 a.1) (leb-true v 1 e), tt)
pieces_ok (table t k) v s e l m =
    let a = (and-eq-true_iff (leb 1 k) (leb k 8)).0 s in
    (table-ok t k v (leb-true k 8 a.1) l (ltb-true v (length t) e), tt)
pieces_ok (uint ft) v s e l m =
    let a = (and-eq-true_iff (leb 2 ft) (leb ft 4294967295)).0 s in
    uint-ok ft v (omega (arith, leb-true ft 4294967295 a.1)) (ltb-true v ft e)
pieces_ok (raw b) v s e l m =
    let a = (and-eq-true_iff (leb 1 b) (leb b 25)).0 s in
    (record { bits_pos = leb-true 1 b a.0; bits-le = leb-true b 25 a.1; value-lt = ltb-true v (2 ^ b) e }, tt)
pieces_ok (modelled m) v s e l c = (c, tt)
