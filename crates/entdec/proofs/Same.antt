-- The bit count and the range after a symbol do not depend on the bytes. Assumes nothing.
use Prim.Native.Nat.{ℕ, ◌+◌, ◌-◌, ◌*◌, ◌/◌, ◌^◌}
use mathlib.Core.Path.{◌≡◌, refl, ap, sym, ◌∙◌}
use mathlib.Core.Bool.{Bool, true, false, cond}
use mathlib.Core.List.{List}
use lib.Dec.{leb, eqb}
use Rattle.laws.proofs.Tests.{cond-by}
use Rattle.entcode.specs.Sym.{Model, Shape, bit_model, table_model, flat_model, low_bits}
use Rattle.entcode.specs.Sym.Shape.{bit, table, uint, raw, modelled}
use Rattle.entdec.specs.declared.Reader.{Reader}
use Rattle.entdec.specs.Coded.{ReadSymbol}
use Rattle.entdec.specs.Read.{decoded_place, read_bits, read_of}
use Rattle.entdec.specs.Symbols.{read_one, within, read_long, read_sym}
use Rattle.entdec.proofs.Pulls.{total-after, rng-after}
use Rattle.entdec.proofs.Steps.{raw-total, raw-rng}

-- two states that have the bit count and the range in common
pub record Alike (d e : Reader) : Type 0 where
  pub total : d.total ≡ e.total
  pub rng : d.rng ≡ e.rng

-- the mark changes neither
within-alike : (m : ℕ) (y : ReadSymbol) → Alike (within m y).next y.next
within-alike m y =
    cond-by (λ (z : ReadSymbol). Alike z.next y.next) (leb y.value m) (λ e. record { total = refl; rng = refl })
    (λ e. record { total = refl; rng = refl })

-- holding a value to the last one keeps two states alike
within_same : (m : ℕ) (y z : ReadSymbol) → Alike y.next z.next → Alike (within m y).next (within m z).next
within_same m y z a =
    let p = within-alike m y in
    let q = within-alike m z in
    record { total = p.total ∙ a.total ∙ sym q.total; rng = p.rng ∙ a.rng ∙ sym q.rng }

-- so does a choice by the same test
cond_same : (b : Bool) (u v x y : ReadSymbol) → Alike u.next x.next → Alike v.next y.next → Alike (cond b u v).next (cond b x y).next
cond_same true u v x y a c = a
cond_same false u v x y a c = c

module _ (s t : List ℕ) where
  -- a part of the range
  one_same : (m : Model) (d : Reader) → Alike (read_one m s d).next (read_one m t d).next
  one_same m d =
      let v = m.locate (decoded_place m.ft d) in
      let x = cond m.keeps (d.rng / m.ft) d.ext in
      record {
        total = total-after (m.lo v) (m.hi v) m.ft x s d ∙ sym (total-after (m.lo v) (m.hi v) m.ft x t d);
        rng = rng-after (m.lo v) (m.hi v) m.ft x s d ∙ sym (rng-after (m.lo v) (m.hi v) m.ft x t d);
      }

  -- raw bits
  raw_same : (b : ℕ) (d e : Reader) → Alike d e → Alike (read_bits b s d).next (read_bits b t e).next
  raw_same b d e a =
      record {
        total = raw-total b s d ∙ ap (λ (n : ℕ). n + b) a.total ∙ sym (raw-total b t e);
        rng = raw-rng b s d ∙ a.rng ∙ sym (raw-rng b t e);
      }

  -- a uniform number of two pieces
  long_same : (m b : ℕ) (d : Reader) → Alike (read_long m b s d).next (read_long m b t d).next
  long_same m b d =
      let f = flat_model (m / 2 ^ b + 1) in
      let y = read_one f s d in
      let z = read_one f t d in
      let p = raw_same b y.next z.next (one_same f d) in
      within_same m (read_of (y.value * 2 ^ b + (read_bits b s y.next).value) (read_bits b s y.next).next)
      (read_of (z.value * 2 ^ b + (read_bits b t z.next).value) (read_bits b t z.next).next) p

  -- after a symbol of any kind
  pub read_same : (h : Shape) (d : Reader) → Alike (read_sym h s d).next (read_sym h t d).next
  unfolding read_sym
  read_same (bit k) d = one_same (bit_model k) d
  read_same (table u k) d = one_same (table_model u k) d
  read_same (uint ft) d =
      cond_same (eqb (low_bits ft) 0) _ _ _ _ (one_same (flat_model ft) d) (long_same (ft - 1) (low_bits ft) d)
  read_same (raw b) d = raw_same b d d (record { total = refl; rng = refl })
  read_same (modelled m) d = one_same m d
