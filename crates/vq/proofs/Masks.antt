-- The collapse mask: a part more, its bound, and its bits. Assumes nothing.
use Prim.Native.Nat.{ℕ, zero, suc, ◌+◌, ◌-◌, ◌*◌, ◌/◌, ◌%◌, ◌^◌, ◌≤◌, ◌<◌}
use mathlib.Core.Path.{◌≡◌, refl, sym, ap, ◌∙◌}
use mathlib.Core.Bool.{Bool, true, false, cond}
use mathlib.Core.List.{List}
use native.Mathlib.Nat.{mul_assoc, zero-mul, one-mul, pow-succ', div-eq_of_lt, add-mul-div_right, add-mul-mod_self_right}
use native.Mathlib.Numerals.{add-one}
use native.Mathlib.Omega.{arith}
use lib.Dec.{lit<}
use lib.IntN.{ℤ}
use lib.Pow.{pow_pos, pow-add}
use Rattle.laws.proofs.Tests.{by_le, cond-le}
use Rattle.vq.specs.Mask.{silent, part, mask_bits}

module _ (m : ℕ) (v : List ℤ) where
  -- no part
  pub bits_none : 0 ≡ mask_bits m 0 v
  unfolding mask_bits
  bits_none = refl

  -- a part more, as the code counts them
  pub bits-next : (i : ℕ) → mask_bits m i v + cond (silent (part m i v)) 0 (2 ^ i) ≡ mask_bits m (i + 1) v
  unfolding mask_bits
  bits-next i = ap (λ (k : ℕ). mask_bits m k v) (sym (add-one i))

  -- the bits of i parts are below 2^i
  pub bits-lt : (i : ℕ) → mask_bits m i v < 2 ^ i
  unfolding mask_bits
  bits-lt zero = lit< tt
  bits-lt (suc i) =
      let b : cond (silent (part m i v)) 0 (2 ^ i) ≤ 2 ^ i = cond-le (silent (part m i v)) (λ e. omega arith) (λ e. omega arith) in
      omega (arith, bits-lt i, pow-succ' 2 i)

-- ---- bit i is set exactly when part i holds a pulse

-- what stands above a lower place does not change its bit
low_bit : (a c i b : ℕ) → i < b → (a + c * 2 ^ b) / 2 ^ i % 2 ≡ a / 2 ^ i % 2
low_bit a c i b h =
    let k = b - suc i in
    let e : b ≡ k + 1 + i = omega arith in
    let f : c * 2 ^ b ≡ c * 2 ^ k * 2 * 2 ^ i =
    ap (λ (x : ℕ). c * 2 ^ x) e ∙ rw (pow-add 2 (k + 1) i, pow-add 2 k 1)
    (sym (mul_assoc c (2 ^ k * 2) (2 ^ i)) ∙ ap (λ (x : ℕ). x * 2 ^ i) (sym (mul_assoc c (2 ^ k) 2)))
    in
    ap (λ (x : ℕ). (a + x) / 2 ^ i % 2) f ∙ ap (λ (x : ℕ). x % 2) (add-mul-div_right a (c * 2 ^ k * 2) (pow_pos i))
    ∙ add-mul-mod_self_right (a / 2 ^ i) (c * 2 ^ k) 2

-- the bit of the last part
top_bit : (a c b : ℕ) → a < 2 ^ b → c < 2 → (a + c * 2 ^ b) / 2 ^ b % 2 ≡ c
top_bit a c b h g = let e : (0 + c) % 2 ≡ c = omega arith in rw (add-mul-div_right a c (pow_pos b), div-eq_of_lt h) e

-- a part's number is its bit, times the power
bit-times : (t : Bool) (x : ℕ) → cond t 0 x ≡ cond t 0 1 * x
bit-times true x = sym (zero-mul x)
bit-times false x = sym (one-mul x)

-- and a bit is 0 or 1
bit-lt : (t : Bool) → cond t 0 1 < 2
bit-lt true = lit< tt
bit-lt false = lit< tt

-- by induction on the parts
pub mask_bit : (m b : ℕ) (v : List ℤ) (i : ℕ) → i < b → mask_bits m b v / 2 ^ i % 2 ≡ cond (silent (part m i v)) 0 1
mask_bit m zero v i h = absurd (omega arith)
mask_bit m (suc b) v i h =
    let c : ℕ = cond (silent (part m b v)) 0 1 in
    let e : mask_bits m (suc b) v ≡ mask_bits m b v + c * 2 ^ b =
    rw (← add-one) (sym (bits-next m v b)) ∙ ap (λ (x : ℕ). mask_bits m b v + x) (bit-times (silent (part m b v)) (2 ^ b))
    in
    by_le b i
    (λ g.
    let q : i ≡ b = omega arith in
    rw (q, e) (top_bit (mask_bits m b v) c b (bits-lt m v b) (bit-lt (silent (part m b v)))))
    (λ g. rw e (low_bit (mask_bits m b v) c i b g ∙ mask_bit m b v i g))
