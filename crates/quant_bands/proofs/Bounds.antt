-- The prediction stays within bounds: an energy that was finite is finite again, and what is handed on grows slowly. Assumes nothing.
use Prim.Native.Nat.{ℕ, suc, ◌+◌, ◌*◌, ◌^◌, ◌<◌, ◌≤◌}
use mathlib.Core.Path.{◌≡◌, refl, subst}
use native.Mathlib.Nat.{lt_of_lt_of_le, mul-lt-mul_of_pos_right}
use native.Mathlib.Omega.{arith}
use mathlib.Core.Bool.{true, false}
use lib.Dec.{T, lit<, lit≤}
use lib.IntN.{ℤ, pos, negsuc, nat_abs}
use lib.Ieee.{Float, binary32, fits, lt, add, mul, sub, of_int}
use lib.Ieee.Scale.{finite}
use Rattle.laws.proofs.Tests.{cond-by}
use Rattle.laws.proofs.Within.{Within, within-finite, within_more, f32-within, Whole, round-within, add-within, sub_within, mul-within}
use Rattle.quant_bands.specs.Prediction.{lowest, raised, predicted, handed_on}

-- a multiple of 2^120 below 2^128
high : (q : ℕ) → q < 256 → Whole (q * 2 ^ 120)
high q h =
    let l : q * 2 ^ 120 < 256 * 2 ^ 120 = mul-lt-mul_of_pos_right h (lit< tt) in
    record { q = q; k = 120; is = refl; few = lt_of_lt_of_le h (lit≤ tt); under = lt_of_lt_of_le l (lit≤ tt) }

-- an energy that is raised to -9 is still an f32
raised-within : (x : Float) → T (fits binary32 x) → T (finite x) → Within (raised x) (2 ^ 128) 1
raised-within x f t = cond-by (λ (y : Float). Within y (2 ^ 128) 1) (lt x lowest) (λ e. lit≤ tt) (λ e. f32-within x f t)

-- alpha takes a tenth away, which is more than what is inherited and the step can add
pub predicted-finite : (coef old prev q : Float) → Within coef 230 256 → T (fits binary32 old) → T (finite old) → Within prev 1376256 1 → Within q 32768 1
    → T (finite (predicted coef old prev q))
unfolding predicted
predicted-finite coef old prev q hc f t hp hq =
    let x1 = mul binary32 coef (raised old) in
    let x2 = add binary32 x1 prev in
    let w1 : Within x1 (230 * 2 ^ 120) 1
    = mul-within coef (raised old) 230 (2 ^ 128) 256 (230 * 2 ^ 120) (lit< tt) hc (raised-within old f t) (lit≤ tt) (high 230 (lit< tt)) in
    let w2 : Within x2 (231 * 2 ^ 120) 1
    = add-within x1 prev (230 * 2 ^ 120) (2 ^ 120) w1 (within_more prev 1376256 (2 ^ 120) 1 (lit≤ tt) hp) (high 231 (lit< tt)) in
    let w3 : Within (add binary32 x2 q) (232 * 2 ^ 120) 1
    = add-within x2 q (231 * 2 ^ 120) (2 ^ 120) w2 (within_more q 32768 (2 ^ 120) 1 (lit≤ tt) hq) (high 232 (lit< tt)) in
    within-finite (add binary32 x2 q) (232 * 2 ^ 120) 1 w3

-- what is handed on grows by 2^16 a band at most
pub carried-within : (beta prev q : Float) (k : ℕ) → k ≤ 21 → Within beta 1 1 → Within prev (k * 65536) 1 → Within q 32768 1
    → Within (handed_on beta prev q) (suc k * 65536) 1
unfolding handed_on
carried-within beta prev q k h hb hp hq =
    let w1 : Whole (k * 65536 + 32768)
    = record { q = k * 2 + 1; k = 15; is = omega arith; few = omega arith; under = lt_of_lt_of_le {m = 16777216} (omega arith) (lit≤ tt) } in
    let w2 : Whole 32768 = record { q = 1; k = 15; is = refl; few = lit< tt; under = lit< tt } in
    let w3 : Whole (k * 65536 + 32768 + 32768)
    = record { q = k + 1; k = 16; is = omega arith; few = omega arith; under = lt_of_lt_of_le {m = 16777216} (omega arith) (lit≤ tt) } in
    let a = add-within prev q (k * 65536) 32768 hp hq w1 in
    let b = mul-within beta q 1 32768 1 32768 (lit< tt) hb hq (lit≤ tt) w2 in
    let e : k * 65536 + 32768 + 32768 ≡ suc k * 65536 = omega arith in
    subst (λ (z : ℕ). Within (sub binary32 (add binary32 prev q) (mul binary32 beta q)) z 1) e
    (sub_within (add binary32 prev q) (mul binary32 beta q) (k * 65536 + 32768) 32768 a b w3)

-- a step as an f32
pub step-within : (z : ℤ) → nat_abs z ≤ 32768 → Within (of_int binary32 z) 32768 1
unfolding of_int
step-within (pos n) h = round-within false n 1 32768 (lit< tt) (omega arith) (record { q = 1; k = 15; is = refl; few = lit< tt; under = lit< tt })
step-within (negsuc n) h = round-within true (suc n) 1 32768 (lit< tt) (omega arith) (record { q = 1; k = 15; is = refl; few = lit< tt; under = lit< tt })
