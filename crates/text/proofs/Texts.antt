-- Numbers as they are written into a buffer: digit by digit from the last, with a sign, and one text after the other. Assumes nothing.
use Prim.Native.Nat.{ℕ, zero, suc, ◌+◌, ◌-◌, ◌/◌, ◌%◌, ◌<◌, ◌≤◌}
use mathlib.Core.Path.{◌≡◌, refl, sym, ap, ◌∙◌}
use mathlib.Core.List.{List, [], ◌∷◌, ◌++◌}
use native.Mathlib.Nat.{add-zero}
use native.Mathlib.Numerals.{add-one}
use native.Mathlib.Omega.{arith}
use lib.ListN.{length, set, length-append}
use lib.Seq.{sets}
use Rattle.laws.proofs.Lists.{sets_last}
use Rattle.text.specs.Digits.{glyph_of, last_digits}
use Rattle.text.specs.Written.{figures_of, decimal_of, hex_word_of, PlacedText}

-- there are as many digits as were asked for
pub digits-length : (base k n : ℕ) → length (last_digits base k n) ≡ k
unfolding last_digits
digits-length base zero n = refl
digits-length base (suc k) n =
    length-append (last_digits base k (n / base)) (glyph_of (n % base) ∷ []) ∙ ap (λ (m : ℕ). m + 1) (digits-length base k (n / base)) ∙ add-one k

-- ---- the loop that writes them, from the last

-- the last digit, and those before it
last-digit : (base k n : ℕ) → last_digits base (suc k) n ≡ last_digits base k (n / base) ++ glyph_of (n % base) ∷ []
unfolding last_digits
last-digit base k n = refl

-- a turn of the loop: the digit at place i - 1, and the others before it
pub spell_next : (base : ℕ) (buf : List ℕ) (at i n : ℕ) {g : ℕ} → 0 < i → g ≡ glyph_of (n % base)
    → sets (set buf (at + (i - 1)) g) at (last_digits base (i - 1) (n / base)) ≡ sets buf at (last_digits base i n)
spell_next base buf at zero n h e = absurd (omega arith)
spell_next base buf at (suc k) n h e =
    let z : suc k - 1 ≡ k = omega arith in
    let l : length (last_digits base k (n / base)) ≡ k = digits-length base k (n / base) in
    rw (z, e)
    (ap (λ (m : ℕ). sets (set buf (at + m) (glyph_of (n % base))) at (last_digits base k (n / base))) (sym l)
    ∙ sets_last (last_digits base k (n / base)) buf at (glyph_of (n % base)) ∙ sym (ap (sets buf at) (last-digit base k n)))

-- no digit remains
pub spell-none : (base : ℕ) (buf : List ℕ) (at i n : ℕ) → i ≤ 0 → buf ≡ sets buf at (last_digits base i n)
unfolding last_digits
spell-none base buf at zero n h = refl
spell-none base buf at (suc i) n h = absurd (omega arith)

-- ---- texts one after the other

-- two texts one after the other, written at once
pub sets-join : (xs ys buf : List ℕ) (at : ℕ) → sets (sets buf at xs) (at + length xs) ys ≡ sets buf at (xs ++ ys)
sets-join [] ys buf at = ap (λ (m : ℕ). sets buf m ys) (add-zero at)
sets-join (x ∷ xs) ys buf at =
    let e : at + suc (length xs) ≡ suc at + length xs = omega arith in
    ap (λ (m : ℕ). sets (sets (set buf at x) (suc at) xs) m ys) e ∙ sets-join xs ys (set buf at x) (suc at)

-- a text, and one after it
pub put-join : (a b : ℕ) (xs ys : List ℕ) {buf mid last : List ℕ} {at r q : ℕ} → PlacedText a buf at xs r mid → PlacedText b mid r ys q last
    → PlacedText (a + b) buf at (xs ++ ys) q last
put-join a b xs ys {buf} {mid} {last} {at} {r} {q} p s =
    record {
      next = omega (arith, length-append xs ys);
      bytes = s.bytes ∙ ap (λ (m : ℕ). sets mid m ys) p.next ∙ ap (λ (l : List ℕ). sets l (at + length xs) ys) p.bytes ∙ sets-join xs ys buf at;
      short = omega arith;
    }

-- a byte, and a text after it
pub put_byte : (a b : ℕ) (ys buf : List ℕ) (at : ℕ) {last : List ℕ} {q : ℕ} → PlacedText a (set buf at b) (at + 1) ys q last
    → PlacedText (suc a) buf at (b ∷ ys) q last
put_byte a b ys buf at p =
    record {
      next = omega arith;
      bytes = p.bytes ∙ ap (λ (m : ℕ). sets (set buf at b) m ys) (add-one at);
      short = omega arith;
    }

-- eight hex digits are a word
pub put_word : (buf : List ℕ) (at n : ℕ) {last : List ℕ} → last ≡ sets buf at (last_digits 16 8 n) → PlacedText 8 buf at (hex_word_of n) (at + 8) last
put_word buf at n q = record { next = ap (λ (m : ℕ). at + m) (sym (digits-length 16 8 n)); bytes = q; short = omega arith }

-- ---- a number and its sign

-- the figures of a number are its decimal
pub put-decimal : (buf : List ℕ) (at n : ℕ) {k : ℕ} {last : List ℕ} → k ≡ figures_of n → k ≤ 10 → last ≡ sets buf at (last_digits 10 k n)
    → PlacedText 10 buf at (decimal_of n) (at + k) last
put-decimal buf at n {k} p h q =
    record {
      next = ap (λ (m : ℕ). at + m) (p ∙ sym (digits-length 10 (figures_of n) n));
      bytes = q ∙ ap (λ (m : ℕ). sets buf at (last_digits 10 m n)) p;
      short = omega arith;
    }
