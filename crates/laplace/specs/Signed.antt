-- A Laplace value as a whole number. RFC 6716, section 4.3.2.1; document 01, "Domain in numbers" and "Range coder and counts".
use Rattle.std.specs.Prelude.{ℕ, Bool, ℤ, pos, negsuc, nat_abs}
use Rattle.laws.specs.Signs.{in_range, is_neg, with_sign}
use Rattle.laplace.specs.declared.chain.Span.{Span}
use Rattle.laplace.specs.Chain.{span_of}

-- -32,768 .. 32,767
abbrev pub in_domain : ℤ → Bool
in_domain z = in_range (negsuc 32767) (pos 32767) z

-- the value whose places these are
abbrev pub value_in : Span → ℤ
value_in r = with_sign r.neg r.mag

-- the value that stands for z, and its places
unfoldable pub span_z : ℤ → ℕ → ℕ → Span
span_z z fs dec = span_of (is_neg z) (nat_abs z) fs dec

-- what counts as written for z: z itself, or the last value of its sign that has a place
abbrev pub adjusted : ℤ → ℕ → ℕ → ℤ
adjusted z fs dec = value_in (span_z z fs dec)
