-- Digits and the numbers that they write, as the loops of `read` and `hex` meet them. Assumes nothing.
use Prim.Native.Nat.{ℕ, zero, suc, ◌+◌, ◌-◌, ◌*◌, ◌/◌, ◌%◌, ◌<◌, ◌≤◌}
use mathlib.Core.Path.{◌≡◌, refl, sym, ap, ◌∙◌}
use mathlib.Core.Bool.{Bool, true, false, cond, not, ◌&&◌, and-eq-true_iff}
use mathlib.Core.List.{List, [], ◌∷◌}
use native.Mathlib.Nat.{mul-le-mul_left, mul-one}
use native.Mathlib.Numerals.{add-one}
use native.Mathlib.Omega.{arith}
use lib.Dec.{leb, ltb, eqb}
use lib.ListN.{length, get_or, drop, set, drop_of_length-le, length-drop}
use lib.Seq.{sets}
use borrow.Author.Tests.{lt-ltb, le-ltb, le-leb, lt-leb, eq-eqb, ne_eqb, ltb-true, leb-true}
use Rattle.laws.proofs.Lists.{drop-next}
use Rattle.std.specs.Prelude.{Option, Some, None}
use Rattle.std.specs.Bool.{MatchBool}
use Rattle.std.specs.List.{AllWithin, HoldsAt}
use Rattle.text.specs.Digits.{digit_of, all_digits, value_after}
use Rattle.text.specs.Numbers.{got_if, digits_of, no_needless_zero, number_of, AtMost, bytes_of, hex_bytes, bytes_into}

-- a test that fails makes the whole fail
pub and-false : (t : Bool) → (t && false) ≡ false
and-false true = refl
and-false false = refl

-- ---- digits of a base, one after the other

-- a number never gets smaller by a digit more
after_ge : (base v : ℕ) (s : List ℕ) → 0 < base → v ≤ value_after base v s
unfolding value_after
after_ge base v [] h = omega arith
after_ge base v (c ∷ s) h =
    let p : v * 1 ≤ v * base = mul-le-mul_left v h in
    let q = after_ge base (v * base + digit_of c) s h in
    let e : v * 1 ≡ v = mul-one v in
    omega arith

-- what the digits s give after v, where they are digits and the number is at most this
abbrev pub digits_after : ℕ → ℕ → ℕ → List ℕ → Option ℕ
digits_after base most v s = got_if (all_digits base s && leb (value_after base v s) most) (value_after base v s)

module _ (base most v : ℕ) (s : List ℕ) (i : ℕ) where
  -- no digit remains
  pub digits-end : length s ≤ i → v ≤ most → digits_after base most v (drop i s) ≡ Some v
  unfolding all_digits value_after
  digits-end h k = ap (digits_after base most v) (drop_of_length-le s h) ∙ ap (λ (t : Bool). got_if t v) (le-leb v most k)

  module _ (h : i < length s) where
    -- the next byte is no digit of the base
    pub digits_no_digit : base ≤ digit_of (get_or s i 0) → digits_after base most v (drop i s) ≡ None
    unfolding all_digits
    digits_no_digit k = ap (digits_after base most v) (drop-next s i 0 h) ∙ go (get_or s i 0) (drop (i + 1) s) k
      where
        go : (c : ℕ) (t : List ℕ) → base ≤ digit_of c → digits_after base most v (c ∷ t) ≡ None
        go c t k = rw (le-ltb (digit_of c) base k)

    -- w is the number with the next digit
    module _ {d w : ℕ} (p : digit_of (get_or s i 0) ≡ d) (q : w ≡ v * base + d) where
      -- the number gets too large, and stays so
      pub digits-over : 0 < base → most < w → digits_after base most v (drop i s) ≡ None
      unfolding value_after
      digits-over z k = ap (digits_after base most v) (drop-next s i 0 h) ∙ go (get_or s i 0) (drop (i + 1) s) (omega arith)
        where
          go : (c : ℕ) (t : List ℕ) → most < v * base + digit_of c → digits_after base most v (c ∷ t) ≡ None
          go c t k =
              let g = after_ge base (v * base + digit_of c) t z in
              let e : leb (value_after base (v * base + digit_of c) t) most ≡ false = lt-leb (value_after base (v * base + digit_of c) t) most (omega arith) in
              rw (e, and-false)

      -- a digit more
      pub digits-next : d < base → digits_after base most w (drop (i + 1) s) ≡ digits_after base most v (drop i s)
      unfolding all_digits value_after
      digits-next k =
          rw (q, ← p) (sym (ap (digits_after base most v) (drop-next s i 0 h) ∙ go (get_or s i 0) (drop (i + 1) s) (omega arith)))
        where
          go : (c : ℕ) (t : List ℕ) → digit_of c < base → digits_after base most v (c ∷ t) ≡ digits_after base most (v * base + digit_of c) t
          go c t k = simp (lt-ltb (digit_of c) base k)

-- ---- strict decimals

-- no figure is no number
pub number-none : (most : ℕ) (s : List ℕ) → length s ≡ 0 → None ≡ number_of most s
unfolding no_needless_zero
number-none most [] h = refl
number-none most (b ∷ s) h = absurd (omega arith)

-- one figure is any digit
pub number_one : (most : ℕ) (s : List ℕ) → length s ≡ 1 → digits_of 10 most s ≡ number_of most s
unfolding no_needless_zero
number_one most [] h = absurd (omega arith)
number_one most (b ∷ []) h = refl
number_one most (b ∷ c ∷ s) h = absurd (omega arith)

-- of several figures the first must not be 0
several_figures : (s : List ℕ) → (length s ≡ 0 → ⊥) → (length s ≡ 1 → ⊥) → no_needless_zero s ≡ not (eqb (get_or s 0 0) 48)
unfolding no_needless_zero
several_figures [] h k = absurd (h refl)
several_figures (b ∷ []) h k = absurd (k refl)
several_figures (b ∷ c ∷ s) h k = refl

-- a zero in front of another figure
pub number-zero : (most : ℕ) (s : List ℕ) → (length s ≡ 0 → ⊥) → (length s ≡ 1 → ⊥) → get_or s 0 0 ≡ 48 → None ≡ number_of most s
number-zero most s h k e = rw (several_figures s h k, eq-eqb (get_or s 0 0) 48 e)

-- several figures with no zero in front
pub number_more : (most : ℕ) (s : List ℕ) → (length s ≡ 0 → ⊥) → (length s ≡ 1 → ⊥) → (get_or s 0 0 ≡ 48 → ⊥) → digits_of 10 most s ≡ number_of most s
number_more most s h k e = rw (several_figures s h k, ne_eqb (get_or s 0 0) 48 e)

-- a number that was read is at most the bound
pub number-most : (most : ℕ) (s : List ℕ) → AtMost most (number_of most s)
number-most most s = go (no_needless_zero s) (all_digits 10 s) (leb (value_after 10 0 s) most) refl
  where
    go : (z t u : Bool) → leb (value_after 10 0 s) most ≡ u → AtMost most (cond z (got_if (t && u) (value_after 10 0 s)) None)
    go false t u e = tt
    go true false u e = tt
    go true true false e = tt
    go true true true e = leb-true (value_after 10 0 s) most e

-- ---- hex

-- where all are digits each is one
pub digit_at : (base : ℕ) (s : List ℕ) (i : ℕ) → all_digits base s ≡ true → i < length s → digit_of (get_or s i 0) < base
unfolding all_digits
digit_at base [] i h k = absurd (omega arith)
digit_at base (c ∷ s) zero h k = ltb-true (digit_of c) base ((and-eq-true_iff (ltb (digit_of c) base) (all_digits base s)).0 h).0
digit_at base (c ∷ s) (suc i) h k = digit_at base s i ((and-eq-true_iff (ltb (digit_of c) base) (all_digits base s)).0 h).1 (omega arith)

-- where each is one all are
each_digit : (base : ℕ) (s : List ℕ) → ((k : ℕ) (d : ℕ) → 0 ≤ k → k < length s → digit_of (get_or s k d) < base) → all_digits base s ≡ true
unfolding all_digits
each_digit base [] f = refl
each_digit base (c ∷ s) f =
    rw (lt-ltb (digit_of c) base (f 0 0 (omega arith) (omega arith))) (each_digit base s (λ k d h g. f (suc k) d (omega arith) (omega arith)))

-- a test of each byte for a hex digit, as a chain makes it
pub hex_tested : (s : List ℕ) (r : Bool)
    → MatchBool r (AllWithin (λ c. digit_of c < 16) s 0 (length s)) ((k : ℕ) × (k < length s) × HoldsAt (λ c. digit_of c ≡ 16) s k) → r ≡ all_digits 16 s
hex_tested s true f = sym (each_digit 16 s f)
hex_tested s false (k, h, f) = go (all_digits 16 s) refl
  where
    go : (t : Bool) → all_digits 16 s ≡ t → false ≡ t
    go false e = refl
    go true e = let p = digit_at 16 s k e h in absurd (omega (arith, f 0))

-- the next two digits are a byte
bytes_next : (s : List ℕ) (i : ℕ) → 2 * i + 1 < length s
    → bytes_of (drop (2 * i) s) ≡ (digit_of (get_or s (2 * i) 0) * 16 + digit_of (get_or s (2 * i + 1) 0)) ∷ bytes_of (drop (2 * (i + 1)) s)
unfolding bytes_of
bytes_next s i h =
    let e : 2 * i + 1 + 1 ≡ 2 * (i + 1) = omega arith in
    ap bytes_of (drop-next s (2 * i) 0 (omega arith) ∙ ap (λ (l : List ℕ). get_or s (2 * i) 0 ∷ l) (drop-next s (2 * i + 1) 0 h))
    ∙ ap (λ (m : ℕ). (digit_of (get_or s (2 * i) 0) * 16 + digit_of (get_or s (2 * i + 1) 0)) ∷ bytes_of (drop m s)) e

-- a single digit is no byte
no_byte : (t : List ℕ) → length t ≤ 1 → bytes_of t ≡ []
unfolding bytes_of
no_byte [] h = refl
no_byte (a ∷ []) h = refl
no_byte (a ∷ b ∷ t) h = absurd (omega arith)

-- a turn of the loop that stores bytes
pub store-next : (s out : List ℕ) (i : ℕ) {v : ℕ} → 2 * i + 1 < length s → v ≡ digit_of (get_or s (2 * i) 0) * 16 + digit_of (get_or s (2 * i + 1) 0)
    → sets (set out i v) (i + 1) (bytes_of (drop (2 * (i + 1)) s)) ≡ sets out i (bytes_of (drop (2 * i) s))
store-next s out i h e = rw (e, bytes_next s i h, add-one i)

-- after the last byte
pub store-last : (s out : List ℕ) (i : ℕ) → length s / 2 ≤ i → out ≡ sets out i (bytes_of (drop (2 * i) s))
store-last s out i h =
    let k : length (drop (2 * i) s) ≡ length s - 2 * i = length-drop (2 * i) s in
    sym (ap (λ (l : List ℕ). sets out i l) (no_byte (drop (2 * i) s) (omega arith)))

module _ (most : ℕ) (s : List ℕ) where
  -- what was accepted fits
  pub bytes-few : hex_bytes most s ≡ true → length s ≤ 2 * most
  unfolding hex_bytes
  bytes-few h = leb-true (length s) (2 * most) ((and-eq-true_iff (leb (length s) (2 * most)) (eqb (length s % 2) 0 && all_digits 16 s)).0 h).0

  -- what was accepted has digits only
  pub bytes-digits : hex_bytes most s ≡ true → all_digits 16 s ≡ true
  unfolding hex_bytes
  bytes-digits h =
      ((and-eq-true_iff (eqb (length s % 2) 0) (all_digits 16 s)).0
      ((and-eq-true_iff (leb (length s) (2 * most)) (eqb (length s % 2) 0 && all_digits 16 s)).0 h).1).1

-- accepted, and stored
pub bytes-stored : (s out : List ℕ) {last : List ℕ} → hex_bytes (length out) s ≡ true → last ≡ sets out 0 (bytes_of s) → last ≡ bytes_into s out
unfolding bytes_into
bytes-stored s out p q = rw p q

-- refused, and the list stays
pub bytes-refused : (s out : List ℕ) → hex_bytes (length out) s ≡ false → out ≡ bytes_into s out
unfolding bytes_into
bytes-refused s out p = rw p
