-- The number that a close chooses: a multiple of 2^(31 - l), with all that may follow it inside the range; and its digits.
use Prim.Native.Nat.{ℕ, suc, ◌+◌, ◌-◌, ◌*◌, ◌/◌, ◌%◌, ◌^◌, ◌<◌, ◌≤◌}
use mathlib.Core.Path.{◌≡◌, refl, ap, sym, ◌∙◌}
use lib.Count.{count_leading_zeros}
use lib.Pow.{pow_pos, pow-add}
use lib.Dec.{ltb}
use native.Mathlib.Omega.{arith}
use native.Mathlib.Nat.{pow-suc, mul-mod_left, add-mul, mul_assoc}
use borrow.Author.Tests.{ltb-false}
use Rattle.laws.proofs.Tests.{split_on, by_le}
use Rattle.laws.proofs.Division.{le-round-up}
use Rattle.entenc.specs.Close.{rounded, tail_bits, tail_end, byte_count}
use Rattle.entenc.proofs.Tails.{rounded-le, rounds}
use Rattle.trip_symbols.proofs.Ideal.{Ideal, shifts_i}

-- rounding up goes up
rounded_ge : (m val : ℕ) → val ≤ rounded m val
unfolding rounded
rounded_ge m val = le-round-up val (pow_pos m)

-- e is what a close writes of the low end val: l bits of it, and what may follow them stays in the range
pub record Chosen (val rng l e : ℕ) : Type 0 where
  pub bits-le : l ≤ 9
  pub from : val ≤ e
  pub to : e + 2 ^ (31 - l) ≤ val + rng
  pub whole : l ≡ 0 → 2147483648 ≤ rng
  pub times : ℕ
  pub many : e ≡ times * 2 ^ (31 - l)

-- it is a multiple
times_of : (m val : ℕ) → rounded m val ≡ (val + (2 ^ m - 1)) / 2 ^ m * 2 ^ m
unfolding rounded
times_of m val = refl

-- by which of the two roundings a close takes
pub chosen : (val rng : ℕ) → 8388608 < rng → val + rng < 2 ^ 32 → Chosen val rng (tail_bits val rng) (tail_end val rng)
unfolding tail_end tail_bits
chosen val rng p q =
    let t = rounds val rng p (omega arith) in
    let o = pow_pos (31 - count_leading_zeros 32 rng) in
    split_on (ltb (val + rng - rounded (31 - count_leading_zeros 32 rng) val) (2 ^ (31 - count_leading_zeros 32 rng)))
    (λ e.
    let a = rounded-le (31 - (count_leading_zeros 32 rng + 1)) val in
    let o = pow_pos (31 - (count_leading_zeros 32 rng + 1)) in
    let z : 31 - count_leading_zeros 32 rng ≡ suc (31 - (count_leading_zeros 32 rng + 1)) = omega (arith, t.zeros) in
    let d : 2 ^ (31 - count_leading_zeros 32 rng) ≡ 2 ^ (31 - (count_leading_zeros 32 rng + 1)) * 2 = ap (λ (n : ℕ). 2 ^ n) z
    ∙ pow-suc 2 (31 - (count_leading_zeros 32 rng + 1)) in
    simp e
    (record {
      bits-le = omega (arith, t.zeros);
      from = rounded_ge (31 - (count_leading_zeros 32 rng + 1)) val;
      to = omega (arith, t.first);
      whole = λ z. absurd (omega arith);
      times = _;
      many = times_of (31 - (count_leading_zeros 32 rng + 1)) val;
    }))
    (λ e.
    let a = ltb-false (val + rng - rounded (31 - count_leading_zeros 32 rng) val) (2 ^ (31 - count_leading_zeros 32 rng)) e in
    let b = rounded-le (31 - count_leading_zeros 32 rng) val in
    simp e
    (record {
      bits-le = omega (arith, t.zeros);
      from = rounded_ge (31 - count_leading_zeros 32 rng) val;
      to = omega (arith, t.first);
      whole = λ z. let k : 2 ^ (31 - count_leading_zeros 32 rng) ≡ 2147483648 = rw z in omega (arith, t.first);
      times = _;
      many = times_of (31 - count_leading_zeros 32 rng) val;
    }))

-- ---- its digits: none where l is 0, one up to 8, two at 9

-- how many bits of the last digit are free
abbrev pub spare_of : ℕ → ℕ
spare_of l = 8 * byte_count l - l

-- by how many digits l bits take
pub by_digits : (P : ℕ → Type 0) → P 0 → ((l : ℕ) → 0 < l → l ≤ 8 → P l) → P 9 → (l : ℕ) → l ≤ 9 → P l
by_digits P a b c l h =
    by_le l 8
    (λ u. by_le l 0 (λ z. let e : l ≡ 0 = omega arith in rw e a) (λ z. b l z u))
    (λ u. let e : l ≡ 9 = omega arith in rw e c)

-- what one digit leaves of 31 bits, and of 8
pub part_one : (l : ℕ) → l ≤ 8 → 2 ^ (31 - l) ≡ 2 ^ (8 - l) * 8388608
part_one l h = let e : 31 - l ≡ 8 - l + 23 = omega arith in ap (λ (n : ℕ). 2 ^ n) e ∙ pow-add 2 (8 - l) 23

-- the bits of one digit
byte_one : (l : ℕ) → l ≤ 8 → 2 ^ l * 2 ^ (8 - l) ≡ 256
byte_one l h = let e : l + (8 - l) ≡ 8 = omega arith in sym (pow-add 2 l (8 - l)) ∙ ap (λ (n : ℕ). 2 ^ n) e

-- a product leaves no remainder
pub multiple : (f n m : ℕ) → f ≡ n * m → f % m ≡ 0
multiple f n m e = rw e (mul-mod_left n m)

-- g with the low end n * 2^31 + k * 2^(31 - l), after its l bits in whole digits: f is its number
pub record LastDigits (l f : ℕ) (g : Ideal) : Type 0 where
  pub range_is : (shifts_i (byte_count l) g).rng ≡ 2 ^ spare_of l * 2147483648
  pub spare : f % 2 ^ spare_of l ≡ 0

-- the statement for l bits
LastDigit : ℕ → Type 0
LastDigit l =
    (n k f : ℕ) (g : Ideal) → g.low ≡ n * 2147483648 + k * 2 ^ (31 - l) → g.rng ≡ 2 ^ (31 - l)
    → (shifts_i (byte_count l) g).low ≡ f * 2147483648 → LastDigits l f g

-- the spare bits of one digit are free
one_spare : (l n k f : ℕ) → l ≤ 8 → f ≡ n * 256 + k * 2 ^ (8 - l) → f % 2 ^ (8 - l) ≡ 0
one_spare l n k f h e =
    multiple f (n * 2 ^ l + k) (2 ^ (8 - l))
    (omega (arith, add-mul (n * 2 ^ l) k (2 ^ (8 - l)), mul_assoc n (2 ^ l) (2 ^ (8 - l)), ap (λ (x : ℕ). n * x) (byte_one l h)))

-- up to 8 bits
one_digit : (l : ℕ) → 0 < l → l ≤ 8 → LastDigit l
unfolding LastDigit shifts_i
one_digit l a h n k f g p q r =
    let t : byte_count l ≡ 1 = omega arith in
    let u : g.low * 256 ≡ f * 2147483648 = rw t at r in
    let z = part_one l h in
    let y : k * 2 ^ (31 - l) ≡ k * 2 ^ (8 - l) * 8388608 = ap (λ (x : ℕ). k * x) z ∙ sym (mul_assoc k (2 ^ (8 - l)) 8388608) in
    record { range_is = rw t (omega arith); spare = rw t (one_spare l n k f h (omega arith)) }

-- by how many digits there are
pub last_digits_lem : (l : ℕ) → l ≤ 9 → (n k f : ℕ) (g : Ideal) → g.low ≡ n * 2147483648 + k * 2 ^ (31 - l) → g.rng ≡ 2 ^ (31 - l)
    → (shifts_i (byte_count l) g).low ≡ f * 2147483648 → LastDigits l f g
unfolding LastDigit shifts_i
last_digits_lem =
    by_digits LastDigit
    (λ n k f g p q r. record { range_is = omega arith; spare = omega arith })
    one_digit
    (λ n k f g p q r. record { range_is = omega arith; spare = multiple f (n * 512 + k) 128 (omega arith) })
