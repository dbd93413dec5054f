-- m / 2^j, for an m of at most 24 digits, is an f32: a division by a power of two is exact. Assumes nothing.
use Prim.Native.Nat.{ℕ, zero, suc, ◌+◌, ◌-◌, ◌*◌, ◌^◌, ◌<◌, ◌≤◌}
use mathlib.Core.Path.{◌≡◌, sym, ap, ◌∙◌, subst}
use mathlib.Core.Logic.{⊎_elim}
use mathlib.Core.Bool.{Bool, false, cond}
use native.Mathlib.Nat.{le_trans, lt_of_le_of_lt, le_of_eq, le_of_lt, lt_irrefl, mul-pos, mul_comm, mul_assoc, mul_left_comm, mul-one, one-mul, eq-or-lt_of_le}
use native.Mathlib.Nat.{mul-le-mul}
use native.Mathlib.Omega.{arith}
use lib.Dec.{T, eqb, ltb→lt, lit<, lit≤, eqb-suc-zero}
use lib.IntN.{pos}
use lib.Pow.{pow_pos, pow-add, pow_mono, pow-lt}
use lib.Ieee.{Float, nan, inf, fin, Format, binary32, round, div, of_int, up, down}
use lib.Ieee.Fits.{up_pos}
use lib.Ieee.Exact.{HasValue, round_exact}
use lib.Ieee.Back.{round_whole}
use lib.Ieee.Scale.{round_same}
use lib.Ieee.Positive.{num, den, positive, den_pos, value→cross, positive_of_value}

-- ---- the quotient of two values above 0

-- its numerator is above 0
pub num-some : (x : Float) → T (positive x) → 0 < num x
num-some nan p = elim p [ ]
num-some (inf _) p = elim p [ ]
num-some (fin mathlib.Core.Bool.true m e) p = elim p [ ]
num-some (fin false m e) p = mul-pos (ltb→lt 0 m p) (up_pos e)

-- the quotient is rounded once
pub div_is : (f : Format) (x y : Float) → T (positive x) → T (positive y) → div f x y ≡ round f false (num x * den y) (num y * den x)
unfolding div
div_is f nan y p q = elim p [ ]
div_is f (inf _) y p q = elim p [ ]
div_is f (fin false m e) nan p q = elim q [ ]
div_is f (fin false m e) (inf _) p q = elim q [ ]
div_is f (fin false m e) (fin mathlib.Core.Bool.true _ d) p q = elim q [ ]
div_is f (fin mathlib.Core.Bool.true m e) y p q = elim p [ ]
div_is f (fin false m e) (fin false zero d) p q = absurd (lt_irrefl 0 (ltb→lt 0 0 q))
div_is f (fin false m e) (fin false (suc n) d) p q =
    ap (λ (b : Bool). cond b (cond (eqb m 0) nan (inf false)) (round f false (m * up e * down d) (suc n * up d * down e))) (eqb-suc-zero n)

-- by any fractions that the two equal
pub div-at : (f : Format) (x y : Float) (a c b d : ℕ) → T (positive x) → T (positive y) → 0 < c → 0 < b → HasValue x false a c
    → HasValue y false b d → div f x y ≡ round f false (a * d) (b * c)
div-at f x y a c b d p q C B h k =
    let u = value→cross x a c h in
    let v = value→cross y b d k in
    div_is f x y p q
    ∙ round_same f false (num x * den y) (num y * den x) (a * d) (b * c) (mul-pos (num-some y q) (den_pos x)) (mul-pos B C)
    (simp (mul_assoc, mul_comm, mul_left_comm)
    (simp (mul_assoc, mul_comm, mul_left_comm) at (ap (λ (z : ℕ). z * (den y * b)) u ∙ ap (λ (z : ℕ). a * den x * z) (mul_comm (den y) b ∙ sym v))))

-- ---- by a power of two

-- so the power of two is an f32
pub pow_most : (j : ℕ) → j ≤ 23 → 2 ^ j ≤ 16777216
pow_most j h = le_trans (pow_mono h) (lit≤ tt)

-- in units of the smallest f32, 2^-149
exact_below : (m j : ℕ) → m < 16777216 → j ≤ 23 → HasValue (round binary32 false m (2 ^ j)) false m (2 ^ j)
exact_below m j h l =
    let k : 149 ≡ 149 - j + j = omega arith in
    round_exact binary32 false m (2 ^ j) m (149 - j) (pow_pos j) h
    (lt_of_le_of_lt (mul-le-mul (le_of_lt h) (pow_mono {i = 149 - j} {j = 149} (omega arith))) (lit< tt))
    (ap (λ (x : ℕ). m * 2 ^ x) k ∙ ap (λ (x : ℕ). m * x) (pow-add 2 (149 - j) j) ∙ sym (mul_assoc m (2 ^ (149 - j)) (2 ^ j)))

-- and at 2^24 in its own
exact-at : (j : ℕ) → j ≤ 23 → HasValue (round binary32 false 16777216 (2 ^ j)) false 16777216 (2 ^ j)
exact-at j l =
    let k : 173 ≡ 173 - j + j = omega arith in
    round_exact binary32 false 16777216 (2 ^ j) 1 (173 - j) (pow_pos j) (lit< tt)
    (lt_of_le_of_lt (le_of_eq (one-mul (2 ^ (173 - j)))) (pow-lt {i = 173 - j} {j = 277} (omega arith)))
    (ap (λ (x : ℕ). 2 ^ x) k ∙ pow-add 2 (173 - j) j ∙ ap (λ (x : ℕ). x * 2 ^ j) (sym (one-mul (2 ^ (173 - j)))))

-- so the quotient is exact
pub exact : (m j : ℕ) → m ≤ 16777216 → j ≤ 23 → HasValue (round binary32 false m (2 ^ j)) false m (2 ^ j)
exact m j h l =
    ⊎_elim (λ e. subst (λ (x : ℕ). HasValue (round binary32 false x (2 ^ j)) false x (2 ^ j)) (sym e) (exact-at j l)) (λ k. exact_below m j k l)
    (eq-or-lt_of_le h)

-- ---- the code's quotient

-- a whole number of 24 digits is an f32
whole-value : (n : ℕ) → n ≤ 16777216 → HasValue (of_int binary32 (pos n)) false n 1
unfolding of_int
whole-value n h = round_whole binary32 false n h

-- the code's division gives the definition's value
pub quotient : (m j : ℕ) → 0 < m → m ≤ 16777216 → j ≤ 23 → div binary32 (of_int binary32 (pos m)) (of_int binary32 (pos (2 ^ j)))
    ≡ round binary32 false m (2 ^ j)
quotient m j p h l =
    let x = whole-value m h in
    let y = whole-value (2 ^ j) (pow_most j l) in
    div-at binary32 (of_int binary32 (pos m)) (of_int binary32 (pos (2 ^ j))) m 1 (2 ^ j) 1 (positive_of_value (of_int binary32 (pos m)) m 1 x p)
    (positive_of_value (of_int binary32 (pos (2 ^ j))) (2 ^ j) 1 y (pow_pos j)) (lit< tt) (pow_pos j) x y
    ∙ rw (mul-one m, mul-one (2 ^ j))
