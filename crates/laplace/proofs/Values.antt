-- Laplace values as whole numbers and as counts: the laws of places for them. Assumes nothing.
use Prim.Native.Nat.{ℕ, zero, suc, ◌+◌, ◌*◌, ◌/◌, ◌%◌, ◌≤◌, ◌<◌}
use mathlib.Core.Path.{◌≡◌, refl, ap, sym, ◌∙◌}
use mathlib.Core.Bool.{Bool, true, false}
use native.Mathlib.Omega.{arith}
use lib.Dec.{leb}
use lib.IntN.{ℤ, pos, negsuc, nat_abs}
use borrow.Author.Tests.{le-ltb, eq-eqb, le-leb, lt-leb}
use Rattle.laws.specs.Signs.{is_neg, with_sign}
use Rattle.laws.proofs.Tests.{by_le}
use Rattle.laws.proofs.Signs.{value_range}
use Rattle.modes.proofs.Laplace.{Legal}
use Rattle.laplace.specs.Chain.{span_of, locate, Proper}
use Rattle.laplace.specs.Signed.{in_domain, value_in, span_z, adjusted}
use Rattle.laplace.specs.Model.{code_of, value_at}
use Rattle.laplace.proofs.Spans.{span_proper, span_found, found_proper, found_span, span_again}

-- ---- counting

-- the value of a value's count is that value
pub value_code : (z : ℤ) → value_at (code_of z) ≡ z
unfolding value_at
value_code (pos n) =
    let a : 2 * n % 2 ≡ 0 = omega arith in
    let b : 2 * n / 2 ≡ n = omega arith in
    rw (eq-eqb (2 * n % 2) 0 a, b)
value_code (negsuc n) =
    let a : (2 * n + 1) % 2 ≡ 1 = omega arith in
    let b : (2 * n + 1) / 2 ≡ n = omega arith in
    rw (a, b)

-- the counts of the values in the domain are those up to 65,535
pub domain_code : (z : ℤ) → leb (code_of z) 65535 ≡ in_domain z
domain_code (pos n) =
    by_le n 32767
    (λ h. le-leb (2 * n) 65535 (omega arith) ∙ sym (le-leb n 32767 h))
    (λ h. lt-leb (2 * n) 65535 (omega arith) ∙ sym (lt-leb n 32767 h))
domain_code (negsuc n) =
    by_le n 32767
    (λ h. le-leb (2 * n + 1) 65535 (omega arith) ∙ sym (rw (le-leb n 32767 h)))
    (λ h. lt-leb (2 * n + 1) 65535 (omega arith) ∙ sym (rw (lt-leb n 32767 h)))

-- ---- the places of whole numbers

-- by sign and size, or as a whole number
pub span_value : (neg : Bool) (n fs dec : ℕ) → span_z (with_sign neg n) fs dec ≡ span_of neg n fs dec
unfolding span_z span_of
span_value true zero fs dec = refl
span_value true (suc n) fs dec = refl
span_value false n fs dec = ap (λ (b : Bool). span_of b n fs dec) (le-ltb n 0 (omega arith))

module _ (fs dec : ℕ) (ok : Legal fs dec) where
  -- some places, within the 32,768
  pub value_proper : (z : ℤ) → Proper (span_z z fs dec)
  unfolding span_z
  value_proper z = span_proper fs dec ok (is_neg z) (nat_abs z)

  -- what counts as written has the places that its value was given
  pub adjust_span : (z : ℤ) → span_z (adjusted z fs dec) fs dec ≡ span_z z fs dec
  unfolding span_z
  adjust_span z = span_value (span_z z fs dec).neg (span_z z fs dec).mag fs dec ∙ span_again fs dec ok (is_neg z) (nat_abs z)

  -- and is in the domain
  pub adjust_domain : (z : ℤ) → in_domain (adjusted z fs dec) ≡ true
  adjust_domain z = value_range (span_z z fs dec).neg (span_z z fs dec).mag 32767 (value_proper z).small

  -- a reader of one of its places finds it, and its places
  pub locate_span : (z : ℤ) (fm : ℕ) → (span_z z fs dec).fl ≤ fm → fm < (span_z z fs dec).fh → locate fm fs dec ≡ span_z z fs dec
  unfolding span_z
  locate_span z fm l u = span_found fs dec ok (is_neg z) (nat_abs z) fm l u

  -- what is found at a place is in the domain
  pub locate_domain : (fm : ℕ) → fm < 32768 → in_domain (value_in (locate fm fs dec)) ≡ true
  locate_domain fm h = value_range (locate fm fs dec).neg (locate fm fs dec).mag 32767 (found_proper fs dec ok fm h).0.small

  -- and is coded there
  pub locate-value : (fm : ℕ) → fm < 32768 → span_z (value_in (locate fm fs dec)) fs dec ≡ locate fm fs dec
  locate-value fm h = span_value (locate fm fs dec).neg (locate fm fs dec).mag fs dec ∙ found_span fs dec ok fm h

  -- a place belongs to one value only: any value that has it counts as the one that is found there
  pub place_one : (z : ℤ) (fm : ℕ) → (span_z z fs dec).fl ≤ fm → fm < (span_z z fs dec).fh → adjusted z fs dec ≡ value_in (locate fm fs dec)
  place_one z fm l u = ap value_in (sym (locate_span z fm l u))
