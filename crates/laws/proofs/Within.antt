-- Sizes of f32: a bound that is itself a value of the format is kept by rounding, and so by the operations. Assumes nothing.
use Prim.Native.Nat.{ℕ, zero, suc, ◌+◌, ◌-◌, ◌*◌, ◌%◌, ◌^◌, ◌<◌, ◌≤◌, zero-le}
use mathlib.Core.Path.{◌≡◌, refl, sym, ap, ◌∙◌, subst}
use mathlib.Core.Logic.{◌⊎◌, inl, inr}
use mathlib.Core.Bool.{Bool, true, false, cond, ◌&&◌, ◌||◌, beq, true≢false, and-eq-true_iff}
use native.Mathlib.Nat.{le_trans, le_of_eq, le_of_lt, lt_of_lt_of_le, mul-pos, mul_comm, mul_assoc, mul_right_comm, mul-mul-mul_comm, mul-one, zero-mul}
use native.Mathlib.Nat.{add-mul, mul-le-mul, mul-le-mul_right, mul-lt-mul_of_pos_right, le_of_mul-le-mul_right}
use native.Mathlib.Omega.{arith}
use lib.Dec.{T, eqb, ltb, leb, ltb→lt, lit<}
use lib.Pow.{pow_pos, pow-add}
use lib.Ieee.{Float, nan, inf, fin, Format, binary32, prec, low, emax, up, down, unlike, odd, units, round, sum, add, sub, mul, neg, lt, eq, le, fits}
use lib.Ieee.Exact.{HasValue, round_exact}
use lib.Ieee.Order.{round_mono}
use lib.Ieee.Fits.{down_pos, and_r}
use lib.Ieee.Scale.{finite}
use denote.Floats.{is_true}
use borrow.Author.Tests.{ltb-true, eqb-true}
use Rattle.laws.proofs.Tests.{or_parts}

-- x is finite, and at most a / c in size
abbrev pub Within : Float → ℕ → ℕ → Type 0
Within nan a c = ⊥
Within (inf s) a c = ⊥
Within (fin s m e) a c = m * up e * c ≤ a * down e

-- a bounded value is finite
pub within-finite : (x : Float) (a c : ℕ) → Within x a c → T (finite x)
within-finite nan a c h = h
within-finite (inf s) a c h = h
within-finite (fin s m e) a c h = tt

-- a larger bound
pub within_more : (x : Float) (a b c : ℕ) → a ≤ b → Within x a c → Within x b c
within_more nan a b c l h = h
within_more (inf s) a b c l h = h
within_more (fin s m e) a b c l h = le_trans h (mul-le-mul_right (down e) l)

-- a minus keeps the size
pub within-neg : (x : Float) (a c : ℕ) → Within x a c → Within (neg x) a c
unfolding neg
within-neg nan a c h = h
within-neg (inf s) a c h = h
within-neg (fin s m e) a c h = h

-- every finite f32 is below 2^128
pub f32-within : (x : Float) → T (fits binary32 x) → T (finite x) → Within x (2 ^ 128) 1
unfolding fits
f32-within nan f t = t
f32-within (inf s) f t = t
f32-within (fin s zero e) f t =
    le_trans (le_of_eq (mul-one (zero * up e))) (subst (λ (z : ℕ). z ≤ 2 ^ 128 * down e) (sym (zero-mul (up e))) zero-le)
f32-within (fin s (suc m) e) f t =
    le_trans (le_of_eq (mul-one (suc m * up e)))
    (le_of_lt
    (ltb→lt (suc m * up e) (2 ^ 128 * down e)
    (and_r (eqb (suc m % 2) 1 && ltb (suc m) (2 ^ 24) && leb (down e) (2 ^ 149)) (ltb (suc m * up e) (2 ^ 128 * down e)) f)))

-- ---- the sign goes through rounding

-- a value of this sign, and no NaN
abbrev pub Signed : Bool → Float → Type 0
Signed s nan = ⊥
Signed s (inf t) = t ≡ s
Signed s (fin t m e) = t ≡ s

-- a normalized value
odd-neg : (d q k l : ℕ) → odd d true q k l ≡ neg (odd d false q k l)
unfolding odd neg
odd-neg d zero k l = refl
odd-neg d (suc q) k l = refl

-- it has its sign
odd-signed : (d q k l : ℕ) → Signed false (odd d false q k l)
unfolding odd
odd-signed d zero k l = refl
odd-signed d (suc q) k l = refl

-- a value within the range of the format
units-neg : (f : Format) (q k : ℕ) → units f true q k ≡ neg (units f false q k)
unfolding units
units-neg f q k = go (ltb (q * 2 ^ k) (2 ^ (low f + suc (emax f))))
  where
    go : (b : Bool) → cond b (odd (suc (prec f)) true q k (low f)) (inf true) ≡ neg (cond b (odd (suc (prec f)) false q k (low f)) (inf false))
    go true = odd-neg (suc (prec f)) q k (low f)
    go false = unfold neg in refl

-- it has its sign
units-signed : (f : Format) (q k : ℕ) → Signed false (units f false q k)
unfolding units
units-signed f q k = go (ltb (q * 2 ^ k) (2 ^ (low f + suc (emax f))))
  where
    go : (b : Bool) → Signed false (cond b (odd (suc (prec f)) false q k (low f)) (inf false))
    go true = odd-signed (suc (prec f)) q k (low f)
    go false = refl

-- rounding a negative fraction
pub round-neg : (f : Format) (n d : ℕ) → round f true n d ≡ neg (round f false n d)
unfolding round
round-neg f n d = units-neg f _ _

-- a rounded fraction has its sign
pub round-signed : (f : Format) (n d : ℕ) → Signed false (round f false n d)
unfolding round
round-signed f n d = units-signed f _ _

-- ---- what is at most a value without a sign

-- below a value that is exactly a
pub le-within : (x y : Float) (a : ℕ) → Signed false x → HasValue y false a 1 → T (le x y) → Within x a 1
unfolding le lt eq
le-within nan y a s v t = elim s [ ]
le-within (inf true) y a s v t = absurd (true≢false s)
le-within (inf false) nan a s v t = absurd v
le-within (inf false) (inf u) a s v t = absurd v
le-within (inf false) (fin u n d) a s v t = absurd t
le-within (fin true m e) y a s v t = absurd (true≢false s)
le-within (fin false m e) nan a s v t = absurd v
le-within (fin false m e) (inf u) a s v t = absurd v
le-within (fin false m e) (fin true n d) a s v t = absurd (true≢false v.0)
le-within (fin false m e) (fin false n d) a s v t =
    le_of_mul-le-mul_right
    (le_trans (le_of_eq (mul_right_comm (m * up e) 1 (down d)))
    (le_trans (mul-le-mul_right 1 (go (or_parts (ltb x y) (eqb x y && true) (is_true (ltb x y || (eqb x y && true)) t))))
    (le_of_eq (mul_right_comm (n * up d) (down e) 1 ∙ ap (λ (z : ℕ). z * down e) v.1 ∙ mul_right_comm a (down d) (down e)))))
    (down_pos d)
  where
    x : ℕ
    x = m * up e * down d

    y : ℕ
    y = n * up d * down e

    go : (ltb x y ≡ true) ⊎ ((eqb x y && true) ≡ true) → m * up e * down d ≤ n * up d * down e
    go (inl l) = le_of_lt (ltb-true x y l)
    go (inr l) = le_of_eq (eqb-true x y ((and-eq-true_iff (eqb x y) true).0 l).0)

-- ---- a whole number that is a value of the format: q * 2^k with a q of 24 digits, below 2^128

-- such a number
pub record Whole (a : ℕ) : Type 0 where
  pub q : ℕ
  pub k : ℕ
  pub is : a ≡ q * 2 ^ k
  pub few : q < 2 ^ 24
  pub under : a < 2 ^ 128

-- rounding keeps it
whole-value : (a : ℕ) → Whole a → HasValue (round binary32 false a 1) false a 1
whole-value a w =
    round_exact binary32 false a 1 w.q (w.k + 149) (lit< tt) w.few
    (subst (λ (z : ℕ). z < 2 ^ 277) e (lt_of_lt_of_le (mul-lt-mul_of_pos_right w.under (pow_pos 149)) (le_of_eq (sym (pow-add 2 128 149)))))
    (e ∙ sym (mul-one (w.q * 2 ^ (w.k + 149))))
  where
    e : a * 2 ^ 149 ≡ w.q * 2 ^ (w.k + 149)
    e = ap (λ (z : ℕ). z * 2 ^ 149) w.is ∙ mul_assoc w.q (2 ^ w.k) (2 ^ 149) ∙ ap (λ (z : ℕ). w.q * z) (sym (pow-add 2 w.k 149))

-- rounding keeps a bound that is a value
pub round-within : (s : Bool) (n d a : ℕ) → 0 < d → n ≤ a * d → Whole a → Within (round binary32 s n d) a 1
round-within s n d a D h w = go s
  where
    plain : Within (round binary32 false n d) a 1
    plain =
        le-within (round binary32 false n d) (round binary32 false a 1) a (round-signed binary32 n d) (whole-value a w)
        (round_mono binary32 n d a 1 D (lit< tt) (le_trans (le_of_eq (mul-one n)) h))

    go : (s : Bool) → Within (round binary32 s n d) a 1
    go true = subst (λ (z : Float). Within z a 1) (sym (round-neg binary32 n d)) (within-neg (round binary32 false n d) a 1 plain)
    go false = plain

-- ---- the operations

-- a bound over a common denominator
scale-le : (x de a dd : ℕ) → x * 1 ≤ a * de → x * dd ≤ a * (de * dd)
scale-le x de a dd h = le_trans (mul-le-mul_right dd (le_trans (le_of_eq (sym (mul-one x))) h)) (le_of_eq (mul_assoc a de dd))

-- a sum or a difference of fractions with one denominator
sum-within : (s t : Bool) (A B C a : ℕ) → 0 < C → A + B ≤ a * C → Whole a → Within (sum binary32 s A t B C) a 1
unfolding sum
sum-within s t A B C a c h w = go (beq s t) (ltb A B)
  where
    go : (p q : Bool) → Within (cond p (round binary32 s (A + B) C) (cond q (round binary32 t (B - A) C) (round binary32 (s && ltb B A) (A - B) C))) a 1
    go true q = round-within s (A + B) C a c h w
    go false true = round-within t (B - A) C a c (omega arith) w
    go false false = round-within (s && ltb B A) (A - B) C a c (omega arith) w

-- the bounds add
pub add-within : (x y : Float) (a b : ℕ) → Within x a 1 → Within y b 1 → Whole (a + b) → Within (add binary32 x y) (a + b) 1
unfolding add
add-within nan y a b h k w = elim h [ ]
add-within (inf _) y a b h k w = elim h [ ]
add-within (fin s m e) nan a b h k w = elim k [ ]
add-within (fin s m e) (inf _) a b h k w = elim k [ ]
add-within (fin s m e) (fin t n d) a b h k w =
    sum-within s t (m * up e * down d) (n * up d * down e) (down e * down d) (a + b) (mul-pos (down_pos e) (down_pos d))
    (let p : m * up e * down d ≤ a * (down e * down d) = scale-le (m * up e) (down e) a (down d) h in
    let q : n * up d * down e ≤ b * (down d * down e) = scale-le (n * up d) (down d) b (down e) k in
    let r : b * (down d * down e) ≡ b * (down e * down d) = ap (λ (z : ℕ). b * z) (mul_comm (down d) (down e)) in
    let u : (a + b) * (down e * down d) ≡ a * (down e * down d) + b * (down e * down d) = add-mul a b (down e * down d) in
    omega arith)
    w

-- and for a difference
pub sub_within : (x y : Float) (a b : ℕ) → Within x a 1 → Within y b 1 → Whole (a + b) → Within (sub binary32 x y) (a + b) 1
unfolding sub
sub_within x y a b h k w = add-within x (neg y) a b h (within-neg y b 1 k) w

-- the bounds multiply
pub mul-within : (x y : Float) (a b c r : ℕ) → 0 < c → Within x a c → Within y b 1 → a * b ≤ r * c → Whole r → Within (mul binary32 x y) r 1
unfolding mul
mul-within nan y a b c r C h k l w = elim h [ ]
mul-within (inf _) y a b c r C h k l w = elim h [ ]
mul-within (fin s m e) nan a b c r C h k l w = elim k [ ]
mul-within (fin s m e) (inf _) a b c r C h k l w = elim k [ ]
mul-within (fin s m e) (fin t n d) a b c r C h k l w =
    round-within (unlike s t) (m * up e * (n * up d)) (down e * down d) r (mul-pos (down_pos e) (down_pos d))
    (le_of_mul-le-mul_right
    (le_trans (le_of_eq (part (m * up e) (n * up d) c))
    (le_trans (mul-le-mul h k)
    (le_trans (le_of_eq (mul-mul-mul_comm a (down e) b (down d)))
    (le_trans (mul-le-mul_right (down e * down d) l) (le_of_eq (mul_right_comm r c (down e * down d)))))))
    C)
    w
  where
    part : (x y c : ℕ) → x * y * c ≡ x * c * (y * 1)
    part x y c = mul_right_comm x y c ∙ ap (λ (z : ℕ). x * c * z) (sym (mul-one y))
