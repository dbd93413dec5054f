-- Uniform numbers: how many digits are raw, and the two ways to read one. Assumes nothing.
use Rattle.laws.proofs.Powers.{shr_some}
use Prim.Native.Nat.{ℕ, ◌+◌, ◌-◌, ◌*◌, ◌/◌, ◌^◌, ◌≤◌, ◌<◌}
use mathlib.Core.Path.{◌≡◌}
use mathlib.Core.Bool.{true}
use mathlib.Core.List.{List}
use native.Mathlib.Nat.{mod-lt}
use native.Mathlib.Omega.{arith}
use lib.Arith.{digits_lt}
use lib.Pow.{pow_mono, pow_pos, shr_lt}
use borrow.Author.Tests.{eq-eqb, ne_eqb, le-leb, lt-leb}
use Rattle.entcode.specs.Range.{ilog}
use Rattle.entcode.specs.Sym.{flat_model, low_bits}
use Rattle.entcode.specs.Sym.Shape.{uint}
use Rattle.entcode.proofs.Logs.{digits}
use Rattle.entdec.specs.declared.Reader.{Reader}
use Rattle.entdec.specs.Read.{read_of, read_bits, with_raw}
use Rattle.entdec.specs.Symbols.{read_one, read_long, read_sym}

-- ---- digits

-- at most eight digits: at most 256 values
pub few : (ft : ℕ) → 2 ≤ ft → ft < 4294967296 → ilog (ft - 1) ≤ 8 → ft ≤ 256
few ft h q l =
    let m : 2 ^ ilog (ft - 1) ≤ 2 ^ 8 = pow_mono l in
    omega (arith, (digits (ft - 1) (omega arith) (omega arith)).to)

-- the digits above those that are raw: some, and at most eight
pub record Many (m b : ℕ) : Type 0 where
  pub bits-le : b ≤ 24
  pub upper_pos : 1 ≤ m / 2 ^ b
  pub upper_lt : m / 2 ^ b < 256

-- more than eight
pub many : (m : ℕ) → 1 ≤ m → m < 4294967296 → 8 < ilog m → Many m (ilog m - 8)
many m h q l =
    let d = digits m h q in
    let e : 8 + (ilog m - 8) ≡ ilog m = omega arith in
    record {
      bits-le = omega (arith, d.digits_le);
      upper_pos = shr_some m (ilog m - 8) (ilog m - 1) (omega arith) d.from;
      upper_lt = shr_lt 8 (ilog m - 8) (rw e d.to);
    }

-- ---- the two ways

module _ (s : List ℕ) (d : Reader) (ft : ℕ) where
  -- no raw digit: one cut
  pub uint-flat : low_bits ft ≡ 0 → read_sym (uint ft) s d ≡ read_one (flat_model ft) s d
  unfolding read_sym
  uint-flat h = rw (eq-eqb (low_bits ft) 0 h)

  -- raw digits: a cut and raw bits
  pub uint-long : (low_bits ft ≡ 0 → ⊥) → read_sym (uint ft) s d ≡ read_long (ft - 1) (low_bits ft) s d
  unfolding read_sym
  uint-long h = rw (ne_eqb (low_bits ft) 0 h)

-- ---- the two parts of a long one

-- b raw bits are below 2^b
pub raw-lt : (s : List ℕ) (d : Reader) (b : ℕ) → (read_bits b s d).value < 2 ^ b
unfolding read_bits
raw-lt s d b = mod-lt _ (pow_pos b)

-- both together fit in 32 bits
pub sum_fits : (top b low : ℕ) → top < 256 → b ≤ 24 → low < 2 ^ b → top * 2 ^ b + low < 2 ^ 32
sum_fits top b low h l e = omega (arith, digits_lt h e, pow_mono l)

-- what was read of them, before it is held to the last value
abbrev pub joined : ℕ → ℕ → List ℕ → Reader → ℕ
joined m b s d =
    let y = read_one (flat_model (m / 2 ^ b + 1)) s d in
    y.value * 2 ^ b + (read_bits b s y.next).value

module _ (m b : ℕ) (s : List ℕ) (d : Reader) where
  -- a value up to the last is read as it is
  pub long_in : joined m b s d ≤ m → read_long m b s d ≡ read_of (joined m b s d) (read_bits b s (read_one (flat_model (m / 2 ^ b + 1)) s d).next).next
  long_in h = simp (le-leb _ _ h)

  -- one past it is the last, with the mark
  pub long-out : m < joined m b s d
      → read_long m b s d
      ≡ (let z = (read_bits b s (read_one (flat_model (m / 2 ^ b + 1)) s d).next).next in read_of m (with_raw z z.ends z.window z.waiting z.total true))
  long-out h = simp (lt-leb _ _ h)
