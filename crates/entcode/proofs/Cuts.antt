-- What the places fl up to fh of ft take of a range: some, and not more than it has. Assumes nothing.
use Prim.Native.Nat.{ℕ, zero, suc, ◌+◌, ◌-◌, ◌*◌, ◌/◌, ◌≤◌, ◌<◌}
use mathlib.Core.Path.{◌≡◌, refl, ap, ◌∙◌}
use mathlib.Core.Logic.{◌⊎◌, inl, inr}
use native.Mathlib.Nat.{le-div_iff_mul-le, div-mul-le_self, mul-le-mul_left, mul-add, mul-pos, sub-le}
use native.Mathlib.Omega.{arith}
use borrow.Author.Tests.{ne_eqb}
use Rattle.entcode.specs.Range.{cut_start, cut_width}

-- places in order, of at most 2^15
pub record CutOk (fl fh ft : ℕ) : Type 0 where
  pub lt : fl < fh
  pub le : fh ≤ ft
  pub ft-le : ft ≤ 32768

-- what a cut leaves: its part with those below and above it is the range
pub record Cut (r fl fh ft : ℕ) : Type 0 where
  pub sum : cut_start r fl ft + cut_width r fl fh ft + r / ft * (ft - fh) ≡ r
  pub width-pos : 0 < cut_width r fl fh ft
  pub start_is : (fl ≡ 0) ⊎ (cut_start r fl ft + r / ft * (ft - fl) ≡ r)
  pub quot_pos : 0 < r / ft

-- the same by the quotient, as the code computes it
pub record Shares (r fl fh ft : ℕ) : Type 0 where
  pub upper-le : r / ft * (ft - fl) ≤ r
  pub width-pos : 0 < r / ft * (fh - fl)
  pub sum : r / ft * (ft - fl) ≡ r / ft * (ft - fh) + r / ft * (fh - fl)
  pub quot_pos : 0 < r / ft

-- whole shares of the range, in the order of the places
pub shares : (r fl fh ft : ℕ) → fl < fh → fh ≤ ft → ft ≤ r → Shares r fl fh ft
shares r fl fh ft h k m =
    let q : 1 ≤ r / ft = (le-div_iff_mul-le {k = ft} (omega arith)).1 (omega arith) in
    let a = mul-le-mul_left (r / ft) (sub-le ft fl) in
    let b = div-mul-le_self r ft in
    let e : ft - fl ≡ (ft - fh) + (fh - fl) = omega arith in
    record {
      upper-le = omega arith;
      width-pos = mul-pos q (omega arith);
      sum = ap (λ (n : ℕ). r / ft * n) e ∙ mul-add (r / ft) (ft - fh) (fh - fl);
      quot_pos = q;
    }

-- places in order cut a range that is above 2^23 in order
pub cut_in : (r fl fh ft : ℕ) → CutOk fl fh ft → 8388608 < r → Cut r fl fh ft
unfolding cut_start cut_width
cut_in r zero fh ft ok h =
    let p = shares r 0 fh ft ok.lt ok.le (omega arith) in
    record { sum = omega arith; width-pos = omega arith; start_is = inl refl; quot_pos = p.quot_pos }
cut_in r (suc fl) fh ft ok h =
    let p = shares r (suc fl) fh ft ok.lt ok.le (omega arith) in
    let z = ne_eqb (suc fl) 0 (λ e. omega arith) in
    record {
      sum = simp z (omega arith);
      width-pos = simp z p.width-pos;
      start_is = inr (simp z (omega arith));
      quot_pos = p.quot_pos;
    }
