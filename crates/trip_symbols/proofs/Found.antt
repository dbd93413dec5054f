-- A reader finds every kind of symbol: what it reads is what was written, and it stands where the ideal coder then does.
use Prim.Native.Nat.{ℕ, ◌+◌, ◌-◌, ◌*◌, ◌/◌, ◌%◌, ◌^◌, ◌≤◌}
use mathlib.Core.Path.{◌≡◌, refl, ap₂, ◌∙◌}
use mathlib.Core.List.{List}
use native.Mathlib.Nat.{div-add-mod'}
use native.Mathlib.Omega.{arith}
use lib.Dec.{eqb}
use borrow.Author.Tests.{le-leb, eqb-true, eqb-false}
use Rattle.laws.specs.Lists.{Bytes}
use Rattle.laws.proofs.Tests.{split_on}
use Rattle.entcode.specs.Sym.{Model, Shape, bit_model, table_model, flat_model, low_bits, upper, pieces_of}
use Rattle.entcode.specs.Sym.Shape.{bit, table, uint, raw, modelled}
use Rattle.entdec.specs.declared.Reader.{Reader}
use Rattle.entdec.specs.Coded.{ReadSymbol}
use Rattle.entdec.specs.Read.{read_of, read_bits}
use Rattle.entdec.specs.Symbols.{read_one, within, read_long, read_sym}
use Rattle.entcode.proofs.Pieces.{uint-few}
use Rattle.trip_symbols.specs.Lawful.{Lawful}
use Rattle.trip_symbols.proofs.Ideal.{Ideal, cut_i, bits_i, pieces_i, raw_of, Ready}
use Rattle.trip_symbols.proofs.Nested.{Inside}
use Rattle.trip_symbols.proofs.ReaderFollows.{ReaderAt, place_in, update-at, read_bits-at}
use Rattle.trip_symbols.proofs.Kind.{cut_ok, flat_lawful, SymOk, UintOk, top_lawful, low_ok}

-- a symbol of a lawful model
read_one-at : (m : Model) (v : ℕ) (s : List ℕ) (d : Reader) (g : Ideal) (x : ℕ) → Lawful m v → Bytes s → ReaderAt s d g x → Ready g
    → Inside s (cut_i (m.lo v) (m.hi v) m.ft g)
    → ((read_one m s d).value ≡ v) × ReaderAt s (read_one m s d).next (cut_i (m.lo v) (m.hi v) m.ft g) x
read_one-at m v s d g x l b r y h =
    let p = place_in s d g x (m.lo v) (m.hi v) m.ft b r y (cut_ok l) h in
    let e = l.shows _ p.from p.to in
    rw e (refl, update-at s d g x (m.lo v) (m.hi v) m.ft b r y (cut_ok l) h _)

-- a value up to the last stays
within_in : (m : ℕ) (y : ReadSymbol) → y.value ≤ m → within m y ≡ y
within_in m y h = simp (le-leb y.value m h)

-- v is read, and the reader stands where g then does
abbrev pub Reads : Shape → ℕ → List ℕ → ReadSymbol → Ideal → ℕ → Type 0
Reads h v s y g x = (y.value ≡ v) × ReaderAt s y.next (pieces_i (pieces_of h v) g) x

module _ (s : List ℕ) (d : Reader) (g : Ideal) (x : ℕ) (b : Bytes s) (ready : Ready g) where
  -- a uniform number of more than eight bits
  module _ (ft v : ℕ) (f : UintOk ft v) (n : low_bits ft ≡ 0 → ⊥) where
    -- how many bits are raw, and where the ideal coder then stands
    abbrev low : ℕ
    low = low_bits ft

    abbrev after : Ideal
    after = bits_i low (cut_i (v / 2 ^ low) (v / 2 ^ low + 1) (upper ft) g)

    -- its upper part, and its raw bits
    abbrev first : ReadSymbol
    first = read_one (flat_model (upper ft)) s d

    abbrev rest : ReadSymbol
    rest = read_bits low s first.next

    -- the cut, and then the raw bits, give the number
    read_long-at : ReaderAt s d g (v % 2 ^ low + 2 ^ low * x) → Inside s after
        → ((read_long (ft - 1) low s d).value ≡ v) × ReaderAt s (read_long (ft - 1) low s d).next after x
    read_long-at r h =
        let k = low_ok ft v f n in
        let y = read_one-at (flat_model (upper ft)) (v / 2 ^ low) s d g _ (top_lawful ft v f n) b r ready (record { from = h.from; to = h.to }) in
        let z = read_bits-at low (v % 2 ^ low) x s first.next _ b k.bits-le k.value-lt y.1 in
        let e : first.value * 2 ^ low + rest.value ≡ v = ap₂ (λ (p q : ℕ). p * 2 ^ low + q) y.0 z.0 ∙ div-add-mod' v (2 ^ low) in
        rw (within_in (ft - 1) (read_of (first.value * 2 ^ low + rest.value) rest.next) (omega (arith, e, f.value-lt))) (e, z.1)

  -- by the kind
  pub read_sym-at : (h : Shape) (v : ℕ) → SymOk h v → ReaderAt s d g (raw_of (pieces_of h v) x) → Inside s (pieces_i (pieces_of h v) g)
      → Reads h v s (read_sym h s d) g x
  unfolding pieces_of read_sym pieces_i raw_of
  read_sym-at (bit k) v f r h = read_one-at (bit_model k) v s d g x f b r ready h
  read_sym-at (table t k) v f r h = read_one-at (table_model t k) v s d g x f b r ready h
  read_sym-at (uint ft) v f r h =
      split_on (eqb (low_bits ft) 0)
      (λ t.
      simp t
      (read_one-at (flat_model ft) v s d g x (flat_lawful ft v (omega (arith, uint-few ft f.ft-lt (eqb-true (low_bits ft) 0 t))) f.value-lt) b
      (simp t at r) ready (simp t at h)))
      (λ t. simp t (read_long-at ft v f (eqb-false (low_bits ft) 0 t) (simp t at r) (simp t at h)))
  read_sym-at (raw n) v f r h = read_bits-at n v x s d g b f.bits-le f.value-lt r
  read_sym-at (modelled m) v f r h = read_one-at m v s d g x f b r ready h
