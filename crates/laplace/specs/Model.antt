-- Laplace values as a kind of symbol. A value is counted: 0, -1, 1, -2, 2, .. as 0, 1, 2, 3, 4, ..
use Rattle.std.specs.Prelude.{ℕ, ◌+◌, ◌*◌, ◌/◌, ◌%◌, true, cond, leb, eqb, ℤ, pos, negsuc}
use Rattle.entcode.specs.Sym.{Model}
use Rattle.laplace.specs.Chain.{locate}
use Rattle.laplace.specs.Signed.{value_in, span_z, adjusted}
use Rattle.laplace.specs.Pairs.{pair_known}

-- the count of a value
abbrev pub code_of : ℤ → ℕ
code_of (pos n) = 2 * n
code_of (negsuc n) = 2 * n + 1

-- the value of a count
unfoldable pub value_at : ℕ → ℤ
value_at v = cond (eqb (v % 2) 0) (pos (v / 2)) (negsuc (v / 2))

-- RFC 6716, section 4.3.2.1: the values of a model with fs places for zero and the decay dec. The reader's quotient is kept, as
-- ec_decode_bin keeps it. The counts up to 65,535 are those of -32,768 .. 32,767
abbrev pub lap_model : ℕ → ℕ → Model
lap_model fs dec =
    record {
      ft = 32768;
      lo = λ v. (span_z (value_at v) fs dec).fl;
      hi = λ v. (span_z (value_at v) fs dec).fh;
      locate = λ f. code_of (value_in (locate f fs dec));
      keeps = true;
      known = pair_known fs dec;
      ok = λ v. leb v 65535;
      adjust = λ v. code_of (adjusted (value_at v) fs dec);
    }
