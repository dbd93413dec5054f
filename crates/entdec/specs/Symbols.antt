-- Reading a symbol of each kind. RFC 6716, sections 4.1.2 to 4.1.5.
use Rattle.std.specs.Prelude.{ℕ, ◌+◌, ◌-◌, ◌*◌, ◌/◌, ◌^◌, List, true, cond, leb, eqb}
use Rattle.entcode.specs.Sym.{Model, Shape, bit_model, table_model, flat_model, low_bits}
use Rattle.entcode.specs.Sym.Shape.{bit, table, uint, raw, modelled}
use Rattle.entdec.specs.declared.Reader.{Reader}
use Rattle.entdec.specs.Coded.{ReadSymbol}
use Rattle.entdec.specs.Read.{read_of, decoded_place, update, read_bits, with_raw}

-- a symbol that is one part of the range: the value of the place shown, whose part is taken
abbrev pub read_one : Model → List ℕ → Reader → ReadSymbol
read_one m s d =
    let v = m.locate (decoded_place m.ft d) in
    read_of v (update (m.lo v) (m.hi v) m.ft (cond m.keeps (d.rng / m.ft) d.ext) s d)

-- section 4.1.5: a value past the last one, m, is the last one, and the error mark is set
abbrev pub within : ℕ → ReadSymbol → ReadSymbol
within m y = cond (leb y.value m) y (read_of m (with_raw y.next y.next.ends y.next.window y.next.waiting y.next.total true))

-- section 4.1.5, ec_dec_uint above 256 values: a number up to m, the upper eight digits as a part of the range, the b others raw
abbrev pub read_long : ℕ → ℕ → List ℕ → Reader → ReadSymbol
read_long m b s d =
    let y = read_one (flat_model (m / 2 ^ b + 1)) s d in
    let z = read_bits b s y.next in
    within m (read_of (y.value * 2 ^ b + z.value) z.next)

-- a symbol of a kind: ec_dec_bit_logp, ec_dec_icdf, ec_dec_uint, ec_dec_bits, or a model's
unfoldable pub read_sym : Shape → List ℕ → Reader → ReadSymbol
read_sym (bit k) s d = read_one (bit_model k) s d
read_sym (table t k) s d = read_one (table_model t k) s d
read_sym (uint ft) s d = cond (eqb (low_bits ft) 0) (read_one (flat_model ft) s d) (read_long (ft - 1) (low_bits ft) s d)
read_sym (raw b) s d = read_bits b s d
read_sym (modelled m) s d = read_one m s d
