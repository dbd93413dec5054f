-- How long a text is: a line by its fields, and a decimal by the number that it writes. Assumes nothing.
use Prim.Native.Nat.{ℕ, suc, ◌+◌, ◌*◌, ◌^◌, ◌≤◌, ◌<◌}
use mathlib.Core.Path.{◌≡◌, refl, sym, ap, ◌∙◌}
use mathlib.Core.Bool.{Bool, true, false, cond, not, ◌&&◌, true≢false}
use mathlib.Core.List.{List, [], ◌∷◌}
use native.Mathlib.Nat.{mul-le-mul_right, mul-one, one-mul, pow-zero, pow-le-pow_right}
use native.Mathlib.Omega.{arith}
use lib.Dec.{leb, eqb}
use lib.ListN.{length, get_or, drop}
use borrow.Author.Tests.{lt-ltb, le-ltb, eq-eqb}
use Rattle.laws.proofs.Powers.{mul_pow_suc}
use Rattle.laws.proofs.Tests.{by_le}
use Rattle.std.specs.Prelude.{Option, Some, None}
use Rattle.text.specs.Fields.{glue, separated, fields_of}
use Rattle.text.specs.Digits.{digit_of, all_digits, value_after}
use Rattle.text.specs.Numbers.{got_if, no_needless_zero, number_of}
use Rattle.text.proofs.FieldLaws.{separated-some}

-- ---- a line

-- the bytes of the fields, and one more for each
unfoldable pub fields_length : List (List ℕ) → ℕ
fields_length [] = 0
fields_length (f ∷ fs) = suc (length f) + fields_length fs

-- one byte more in the first field
glue-fields-length : (b : ℕ) (fs : List (List ℕ)) → 0 < length fs → fields_length (glue b fs) ≡ suc (fields_length fs)
unfolding glue fields_length
glue-fields-length b [] h = absurd (omega arith)
glue-fields-length b (f ∷ fs) h = omega arith

-- a line has the bytes of its fields, and a tab between any two
pub line-length : (s : List ℕ) → suc (length s) ≡ fields_length (fields_of s)
unfolding separated fields_length
line-length [] = refl
line-length (b ∷ s) = go (eqb b 9) (line-length s)
  where
    go : (t : Bool) → suc (length s) ≡ fields_length (fields_of s) → suc (suc (length s)) ≡ fields_length (cond t ([] ∷ fields_of s) (glue b (fields_of s)))
    go true e = omega arith
    go false e = ap suc e ∙ sym (glue-fields-length b (fields_of s) (separated-some 9 s))

-- the first two fields, and the others
pub two-fields-length : (fs : List (List ℕ)) → 2 ≤ length fs → fields_length fs ≡ length (get_or fs 0 []) + length (get_or fs 1 []) + 2
    + fields_length (drop 2 fs)
unfolding fields_length
two-fields-length [] h = absurd (omega arith)
two-fields-length (f ∷ []) h = absurd (omega arith)
two-fields-length (f ∷ g ∷ fs) h = omega arith

-- ---- a decimal

-- n digits after v make at least v with n zeros
after_pow : (base v : ℕ) (s : List ℕ) → v * base ^ length s ≤ value_after base v s
unfolding value_after
after_pow base v [] = let e : v * base ^ 0 ≡ v = ap (λ (n : ℕ). v * n) (pow-zero base) ∙ mul-one v in omega arith
after_pow base v (c ∷ s) =
    let e : v * base ^ suc (length s) ≡ v * base * base ^ length s = mul_pow_suc base v (length s) in
    let l : v * base * base ^ length s ≤ (v * base + digit_of c) * base ^ length s = mul-le-mul_right (base ^ length s) (omega arith) in
    let h = after_pow base (v * base + digit_of c) s in
    omega arith

-- only the byte 48 writes a zero
zero-digit : (c : ℕ) → digit_of c ≡ 0 → c ≡ 48
unfolding digit_of
zero-digit c e =
    by_le 48 c (λ a. by_le c 57 (λ b. figure a (omega arith)) (λ b. absurd (letter b)))
    (λ a. absurd (let z = rw (lt-ltb c 48 a) at e in omega (arith, z)))
  where
    figure : 48 ≤ c → c < 58 → c ≡ 48
    figure a b = let z = rw (le-ltb c 48 a, lt-ltb c 58 b) at e in omega (arith, z)

    letter : 57 < c → ⊥
    letter b =
        by_le 97 c
        (λ l. by_le c 102 (λ m. let z = rw (le-ltb c 48 (omega arith), le-ltb c 58 b, le-ltb c 97 l, lt-ltb c 103 (omega arith)) at e in omega (arith, z))
        (λ m. let z = rw (le-ltb c 48 (omega arith), le-ltb c 58 b, le-ltb c 97 l, le-ltb c 103 (omega arith)) at e in omega (arith, z)))
        (λ l. let z = rw (le-ltb c 48 (omega arith), le-ltb c 58 b, lt-ltb c 97 (omega arith)) at e in omega (arith, z))

-- the first of several figures is no zero, so that the number is at least 1 with a zero for each of the others
figures-few : (s : List ℕ) → no_needless_zero s ≡ true → all_digits 10 s ≡ true → (k : ℕ) → 0 < k → value_after 10 0 s < 10 ^ k → length s ≤ k
unfolding no_needless_zero all_digits value_after
figures-few [] p q k h g = omega arith
figures-few (b ∷ []) p q k h g = omega arith
figures-few (b ∷ c ∷ s) p q k h g =
    let m : ℕ = suc (length s) in
    let l : 1 * 10 ^ m ≤ (0 * 10 + digit_of b) * 10 ^ m = mul-le-mul_right (10 ^ m)
    (by_le 1 (0 * 10 + digit_of b) (λ n. n) (λ n. absurd (some (omega arith)))) in
    let a = after_pow 10 (0 * 10 + digit_of b) (c ∷ s) in
    let o : 1 * 10 ^ m ≡ 10 ^ m = one-mul (10 ^ m) in
    by_le k m (λ n. absurd (let w : 10 ^ k ≤ 10 ^ m = pow-le-pow_right (omega arith) n in omega arith)) (λ n. omega arith)
  where
    some : digit_of b ≡ 0 → ⊥
    some z = true≢false (sym p ∙ ap not (eq-eqb b 48 (zero-digit b z)))

-- a number of n figures that is below 10^k has at most k of them
abbrev pub FewFigures : ℕ → Option ℕ → Type 0
FewFigures n (Some v) = (k : ℕ) → 0 < k → v < 10 ^ k → n ≤ k
FewFigures n None = Unit {0}

-- a decimal that was read has no more figures than its number needs
pub number-figures : (most : ℕ) (s : List ℕ) → FewFigures (length s) (number_of most s)
number-figures most s = go (no_needless_zero s) (all_digits 10 s) (leb (value_after 10 0 s) most) refl refl
  where
    go : (z t u : Bool) → no_needless_zero s ≡ z → all_digits 10 s ≡ t → FewFigures (length s) (cond z (got_if (t && u) (value_after 10 0 s)) None)
    go false t u p q = tt
    go true false u p q = tt
    go true true false p q = tt
    go true true true p q = figures-few s p q
