-- A whole number of 256ths up to 32,768 of them is a value of an f32, and dividing by 256 gives it. Assumes nothing.
use Prim.Native.Nat.{ℕ, suc, ◌*◌, ◌^◌, ◌≤◌}
use mathlib.Core.Path.{◌≡◌, sym, ap, ◌∙◌}
use mathlib.Core.Bool.{Bool, true, false, true≢false, false≢true}
use native.Mathlib.Nat.{lt_of_lt_of_le, mul_assoc, mul_comm, mul-lt-mul_of_pos_right, mul-one, mul-pos}
use native.Mathlib.Omega.{arith}
use lib.Dec.{lit<, lit≤}
use lib.IntN.{ℤ, pos, negsuc, nat_abs}
use lib.Pow.{pow_pos}
use lib.Ieee.{Float, nan, inf, fin, binary32, div, down, of_bits, of_int, round, up}
use lib.Ieee.Exact.{HasValue, round_exact}
use lib.Ieee.Fits.{down_pos}
use lib.Ieee.Scale.{round_same}
use borrow.Author.Tests.{le-ltb}
use Rattle.laws.specs.Signs.{is_neg}
use Rattle.stream_saved.specs.Fields.{in256ths}
use Rattle.stream_saved.specs.Back.{NothingRounded}

-- a whole number of 24 digits is a value
whole-value : (s : Bool) (n : ℕ) → n ≤ 32768 → HasValue (round binary32 s n 1) s n 1
whole-value s n h =
    round_exact binary32 s n 1 n 149 (lit< tt) (lt_of_lt_of_le {m = 32769} (omega arith) (lit≤ tt))
    (lt_of_lt_of_le (mul-lt-mul_of_pos_right {m = n} {n = 32769} (omega arith) (pow_pos 149)) (lit≤ tt))
    (sym (mul-one (n * 2 ^ 149)))

-- the same size, as a fraction of 256
scaled : (m u n d : ℕ) → m * u * 1 ≡ n * d → m * u * 1 * 256 ≡ n * (1 * 256 * d)
scaled m u n d h =
    ap (λ (k : ℕ). k * 256) h ∙ mul_assoc n d 256 ∙ ap (λ (k : ℕ). n * k) (mul_comm d 256)

-- a value divided by 256 is the fraction, rounded once
divided : (x : Float) (s : Bool) (n : ℕ) → HasValue x s n 1 → div binary32 x (fin false 1 (pos 8)) ≡ round binary32 s n 256
unfolding div
divided (fin true m e) true n v =
    round_same binary32 true (m * up e * 1) (1 * 256 * down e) n 256 (mul-pos (lit< tt) (down_pos e)) (lit< tt) (scaled m (up e) n (down e) v.1)
divided (fin false m e) false n v =
    round_same binary32 false (m * up e * 1) (1 * 256 * down e) n 256 (mul-pos (lit< tt) (down_pos e)) (lit< tt) (scaled m (up e) n (down e) v.1)
divided (fin true m e) false n v = absurd (true≢false v.0)
divided (fin false m e) true n v = absurd (false≢true v.0)
divided nan s n v = elim v [ ]
divided (inf _) s n v = elim v [ ]

-- the worker's division
pub in_256ths-is : (z : ℤ) → nat_abs z ≤ 32768 → div binary32 (of_int binary32 z) (of_bits binary32 1132462080) ≡ in256ths z
unfolding in256ths of_int of_bits
in_256ths-is (pos n) h =
    divided (round binary32 false n 1) false n (whole-value false n h) ∙ ap (λ (s : Bool). round binary32 s n 256) (sym (le-ltb n 0 (omega arith)))
in_256ths-is (negsuc n) h = divided (round binary32 true (suc n) 1) true (suc n) (whole-value true (suc n) h)

-- z / 256 is a value of an f32: its sign is that of z, and its size is the fraction itself
pub in_256ths-exact : NothingRounded
unfolding in256ths
in_256ths-exact z h =
    round_exact binary32 (is_neg z) (nat_abs z) 256 (nat_abs z) 141 (lit< tt) (lt_of_lt_of_le {m = 32769} (omega arith) (lit≤ tt))
    (lt_of_lt_of_le (mul-lt-mul_of_pos_right {m = nat_abs z} {n = 32769} (omega arith) (pow_pos 141)) (lit≤ tt))
    (sym (mul_assoc (nat_abs z) (2 ^ 141) 256))
