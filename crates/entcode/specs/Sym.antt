-- Symbols of every kind, as parts of the range and raw bits: what writer and reader agree on. RFC 6716, sections 4.1.2 to 4.1.5.
use Rattle.std.specs.Prelude.{ℕ, suc, ◌+◌, ◌-◌, ◌/◌, ◌%◌, ◌^◌, List, [], ◌∷◌, Bool, true, false, cond, ◌&&◌, length, get_or, ltb, leb, eqb}
use Rattle.entcode.specs.Range.{ilog}

-- A kind of symbol that is one part of the range: of ft places those from lo v up to hi v are v's, and locate gives the value of a place.
-- keeps: the reader's quotient is kept. known: the kind's own numbers are in the domain. ok: the value is. adjust: what counts as written.
pub record Model : Type 0 where
  pub ft : ℕ
  pub lo : ℕ → ℕ
  pub hi : ℕ → ℕ
  pub locate : ℕ → ℕ
  pub keeps : Bool
  pub known : Bool
  pub ok : ℕ → Bool
  pub adjust : ℕ → ℕ

-- what a symbol is made of: the places fl up to fh of ft, or b raw bits of v
pub data Piece : Type 0 where
  cut : ℕ → ℕ → ℕ → Piece
  bits : ℕ → ℕ → Piece

-- a symbol's kind: one bit, a table of 2^ftb places, a uniform number below ft, raw bits, or one part of the range by a model of another section
pub data Shape : Type 0 where
  bit : ℕ → Shape
  table : List ℕ → ℕ → Shape
  uint : ℕ → Shape
  raw : ℕ → Shape
  modelled : Model → Shape

-- a symbol: its kind and its value
pub record Sym : Type 0 where
  pub shape : Shape
  pub value : ℕ

-- a kind with a value of it
abbrev pub sym_of : Shape → ℕ → Sym
sym_of h v = record { shape = h; value = v }

-- ---- the models

-- section 4.1.3.2, ec_dec_bit_logp and ec_enc_bit_logp: a bit that is 1 in one of 2^k places, the last
abbrev pub bit_model : ℕ → Model
bit_model k =
    record {
      ft = 2 ^ k;
      lo = λ v. cond (eqb v 0) 0 (2 ^ k - 1);
      hi = λ v. cond (eqb v 0) (2 ^ k - 1) (2 ^ k);
      locate = λ f. cond (ltb f (2 ^ k - 1)) 0 1;
      keeps = false;
      known = leb 1 k && leb k 15;
      ok = λ v. leb v 1;
      adjust = λ v. v;
    }

-- section 4.1.3.3, the search of ec_dec_icdf: an entry is how many of the ft places are above its symbol. The first symbol that ends above the place f
unfoldable pub find_sym : ℕ → ℕ → List ℕ → ℕ
find_sym f ft [] = 0
find_sym f ft (x ∷ xs) = cond (ltb f (ft - x)) 0 (suc (find_sym f ft xs))

-- a table's rule: each entry is below the one before it, the first below p, and the last is 0
unfoldable pub falls : ℕ → List ℕ → Bool
falls p [] = eqb p 0
falls p (x ∷ xs) = ltb x p && falls x xs

-- section 4.1.3.3, ec_dec_icdf and ec_enc_icdf: a symbol has the places that the entry before it counts and its own does not; before the first all count
abbrev pub table_model : List ℕ → ℕ → Model
table_model t k =
    record {
      ft = 2 ^ k;
      lo = λ v. 2 ^ k - get_or (2 ^ k ∷ t) v 0;
      hi = λ v. 2 ^ k - get_or t v 0;
      locate = λ f. find_sym f (2 ^ k) t;
      keeps = false;
      known = leb 1 k && leb k 8;
      ok = λ v. ltb v (length t);
      adjust = λ v. v;
    }

-- section 4.1.5, ec_dec_uint and ec_enc_uint up to 256 values: a place for each
abbrev pub flat_model : ℕ → Model
flat_model ft =
    record {
      ft = ft;
      lo = λ v. v;
      hi = λ v. v + 1;
      locate = λ f. f;
      keeps = true;
      known = leb 2 ft && leb ft 4294967295;
      ok = λ v. ltb v ft;
      adjust = λ v. v;
    }

-- ---- uniform numbers of more than eight bits, section 4.1.5

-- how many of the digits of a number below ft are raw (ftb of ec_dec_uint)
abbrev pub low_bits : ℕ → ℕ
low_bits ft = ilog (ft - 1) - 8

-- how many values the digits above them have
abbrev pub upper : ℕ → ℕ
upper ft = (ft - 1) / 2 ^ low_bits ft + 1

-- ---- a symbol's pieces

-- the places of a value of a model
abbrev pub cut_of : Model → ℕ → Piece
cut_of m v = cut (m.lo v) (m.hi v) m.ft

-- a uniform number: one cut, or the digits above the raw ones as a cut and the others as raw bits
abbrev pub uint_pieces : ℕ → ℕ → List Piece
uint_pieces ft v =
    cond (eqb (low_bits ft) 0) (cut_of (flat_model ft) v ∷ [])
    (cut_of (flat_model (upper ft)) (v / 2 ^ low_bits ft) ∷ bits (low_bits ft) (v % 2 ^ low_bits ft) ∷ [])

-- what a value of a kind is written as and read from
unfoldable pub pieces_of : Shape → ℕ → List Piece
pieces_of (bit k) v = cut_of (bit_model k) v ∷ []
pieces_of (table t k) v = cut_of (table_model t k) v ∷ []
pieces_of (uint ft) v = uint_pieces ft v
pieces_of (raw b) v = bits b v ∷ []
pieces_of (modelled m) v = cut_of m v ∷ []

-- what counts as written: a model may bring a value nearer to what it can code
unfoldable pub adjust : Shape → ℕ → ℕ
adjust (bit k) v = v
adjust (table t k) v = v
adjust (uint ft) v = v
adjust (raw b) v = v
adjust (modelled m) v = m.adjust v

-- ---- document 01, "Domain in numbers", symbols: what is refused

-- the kind's numbers are in the domain (1)
unfoldable pub shape_ok : Shape → Bool
shape_ok (bit k) = (bit_model k).known
shape_ok (table t k) = (table_model t k).known
shape_ok (uint ft) = (flat_model ft).known
shape_ok (raw b) = leb 1 b && leb b 25
shape_ok (modelled m) = m.known

-- the value is one of the kind's (1)
unfoldable pub value_ok : Shape → ℕ → Bool
value_ok (bit k) v = (bit_model k).ok v
value_ok (table t k) v = (table_model t k).ok v
value_ok (uint ft) v = (flat_model ft).ok v
value_ok (raw b) v = ltb v (2 ^ b)
value_ok (modelled m) v = m.ok v

-- a table has an entry (2)
unfoldable pub length_ok : Shape → Bool
length_ok (bit k) = true
length_ok (table t k) = ltb 0 (length t)
length_ok (uint ft) = true
length_ok (raw b) = true
length_ok (modelled m) = true

-- a table keeps its rule (3)
unfoldable pub list_ok : Shape → Bool
list_ok (bit k) = true
list_ok (table t k) = falls (2 ^ k) t
list_ok (uint ft) = true
list_ok (raw b) = true
list_ok (modelled m) = true
