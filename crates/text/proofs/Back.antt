-- What is written is read back: decimals and words of eight hex digits, each by itself and as a field of a line. Assumes nothing.
use Prim.Native.Nat.{ℕ, zero, suc, ◌+◌, ◌-◌, ◌*◌, ◌/◌, ◌%◌, ◌^◌, ◌<◌, ◌≤◌}
use mathlib.Core.Path.{◌≡◌, refl, sym, ap, ◌∙◌, subst}
use mathlib.Core.Bool.{Bool, true, false, cond, and-eq-true_iff}
use mathlib.Core.List.{List, [], ◌∷◌, ◌++◌}
use mathlib.Core.Logic.{◌⊎◌, inl, inr}
use native.Mathlib.Nat.{pow-zero, pow-suc, pow-le-pow_right, div-lt_iff_lt-mul, div-add-mod', mod-lt}
use native.Mathlib.Omega.{arith}
use lib.Dec.{ltb, eqb}
use lib.ListN.{length, get_or, get_or-append}
use borrow.Author.Tests.{lt-ltb, le-leb, ltb-true, ltb-false, eq-eqb, ne_eqb, eqb-true}
use Rattle.laws.specs.Lists.{every}
use Rattle.laws.proofs.Tables.{run, below_at}
use Rattle.laws.proofs.Tests.{by_le}
use Rattle.std.specs.Prelude.{Some}
use Rattle.text.specs.Fields.{no_tab}
use Rattle.text.specs.Digits.{digit_of, all_digits, value_after, glyph_of, last_digits}
use Rattle.text.specs.Numbers.{digits_of, number_of, word_of}
use Rattle.text.specs.Written.{figures_of, decimal_of, hex_word_of}
use Rattle.text.proofs.Values.{number_one, number_more}
use Rattle.text.proofs.Texts.{digits-length}

-- ---- digits

-- each of the 16 digits is read as the value that it writes
glyphs : run (λ d. eqb (digit_of (glyph_of d)) d) 0 16 ≡ true
unfolding digit_of glyph_of
glyphs = refl

-- the same of any value below 16
digit_glyph : (d : ℕ) → d < 16 → digit_of (glyph_of d) ≡ d
digit_glyph d h = eqb-true (digit_of (glyph_of d)) d (below_at (λ d. eqb (digit_of (glyph_of d)) d) 16 glyphs d h)

-- the digits of two parts
value-join : (base v : ℕ) (s t : List ℕ) → value_after base v (s ++ t) ≡ value_after base (value_after base v s) t
unfolding value_after
value-join base v [] t = refl
value-join base v (c ∷ s) t = value-join base (v * base + digit_of c) s t

-- a digit more at the end
digits-join : (base : ℕ) (s : List ℕ) (c : ℕ) → all_digits base s ≡ true → digit_of c < base → all_digits base (s ++ c ∷ []) ≡ true
unfolding all_digits
digits-join base [] c h k = rw (lt-ltb (digit_of c) base k)
digits-join base (b ∷ s) c h k =
    let t = (and-eq-true_iff (ltb (digit_of b) base) (all_digits base s)).0 h in
    rw t.0 (digits-join base s c t.1 k)

module _ (base : ℕ) (some : 0 < base) (few : base ≤ 16) where
  -- the last digit of a number is read as its value
  digit-last : (n : ℕ) → digit_of (glyph_of (n % base)) ≡ n % base
  digit-last n = let h = mod-lt n {m = base} some in digit_glyph (n % base) (omega arith)

  -- what is written has digits only
  pub all_digits_lem : (k n : ℕ) → all_digits base (last_digits base k n) ≡ true
  unfolding last_digits all_digits
  all_digits_lem zero n = refl
  all_digits_lem (suc k) n =
      digits-join base (last_digits base k (n / base)) (glyph_of (n % base)) (all_digits_lem k (n / base))
      (subst (λ (d : ℕ). d < base) (sym (digit-last n)) (mod-lt n {m = base} some))

  -- and its value is the number, where that has so many digits at most
  pub value_back : (k n : ℕ) → n < base ^ k → value_after base 0 (last_digits base k n) ≡ n
  unfolding last_digits value_after
  value_back zero n h = let e : base ^ 0 ≡ 1 = pow-zero base in omega arith
  value_back (suc k) n h =
      value-join base 0 (last_digits base k (n / base)) (glyph_of (n % base) ∷ [])
      ∙ ap (λ (v : ℕ). v * base + digit_of (glyph_of (n % base))) (value_back k (n / base) ((div-lt_iff_lt-mul some).1 (rw (pow-suc base k) at h)))
      ∙ ap (λ (d : ℕ). n / base * base + d) (digit-last n) ∙ div-add-mod' n base

  -- no digit is a tab
  pub digits_no_tab : (s : List ℕ) → all_digits base s ≡ true → no_tab s ≡ true
  unfolding all_digits every digit_of
  digits_no_tab [] h = refl
  digits_no_tab (c ∷ s) h =
      let t = (and-eq-true_iff (ltb (digit_of c) base) (all_digits base s)).0 h in
      rw (ne_eqb c 9 (tab_no_digit c (ltb-true (digit_of c) base t.0))) (digits_no_tab s t.1)
    where
      tab_no_digit : (c : ℕ) → digit_of c < base → c ≡ 9 → ⊥
      tab_no_digit c k e = let z : digit_of c ≡ 16 = ap digit_of e in omega arith

-- ---- decimals

-- the first of the figures that a number needs is no zero
first_figure : (k n : ℕ) → 10 ^ k ≤ n → n < 10 ^ suc k → get_or (last_digits 10 (suc k) n) 0 0 ≡ 48 → ⊥
unfolding last_digits glyph_of
first_figure zero n h g e = omega (arith, rw (lt-ltb (n % 10) 10 (omega arith)) at e)
first_figure (suc k) n h g e =
    let p : 10 ^ suc k ≡ 10 ^ k * 10 = pow-suc 10 k in
    let q : 10 ^ suc (suc k) ≡ 10 ^ suc k * 10 = pow-suc 10 (suc k) in
    let l : length (last_digits 10 (suc k) (n / 10)) ≡ suc k = digits-length 10 (suc k) (n / 10) in
    first_figure k (n / 10) (omega arith) (omega arith)
    (sym (get_or-append (last_digits 10 (suc k) (n / 10)) (glyph_of (n % 10) ∷ []) 0 0 (omega arith)) ∙ e)

-- k is the number of figures of n
record FigureCount (n k : ℕ) : Type 0 where
  pub enough : n < 10 ^ k
  pub least : (k ≡ 1) ⊎ ((1 < k) × (10 ^ (k - 1) ≤ n))

-- by a test of the number of figures
more-figures : (n t a b : ℕ) → (n < t → FigureCount n a) → (t ≤ n → FigureCount n b) → FigureCount n (cond (ltb n t) a b)
more-figures n t a b f g = go (ltb n t) refl
  where
    go : (x : Bool) → ltb n t ≡ x → FigureCount n (cond x a b)
    go true e = f (ltb-true n t e)
    go false e = g (ltb-false n t e)

-- by each power of ten
figures-count : (n : ℕ) → n < 4294967296 → FigureCount n (figures_of n)
unfolding figures_of
figures-count n h =
    more-figures n 10 1 _ (λ k. record { enough = omega arith; least = inl refl }) (λ a.
    more-figures n 100 2 _ (λ k. record { enough = omega arith; least = inr (omega arith, omega arith) }) (λ b.
    more-figures n 1000 3 _ (λ k. record { enough = omega arith; least = inr (omega arith, omega arith) }) (λ b.
    more-figures n 10000 4 _ (λ k. record { enough = omega arith; least = inr (omega arith, omega arith) }) (λ b.
    more-figures n 100000 5 _ (λ k. record { enough = omega arith; least = inr (omega arith, omega arith) }) (λ b.
    more-figures n 1000000 6 _ (λ k. record { enough = omega arith; least = inr (omega arith, omega arith) }) (λ b.
    more-figures n 10000000 7 _ (λ k. record { enough = omega arith; least = inr (omega arith, omega arith) }) (λ b.
    more-figures n 100000000 8 _ (λ k. record { enough = omega arith; least = inr (omega arith, omega arith) }) (λ b.
    more-figures n 1000000000 9 10 (λ k. record { enough = omega arith; least = inr (omega arith, omega arith) })
    (λ b. record { enough = omega arith; least = inr (omega arith, omega arith) })))))))))

-- one more than the logarithm
pub figures-log : (n k : ℕ) → n < 4294967296 → 10 ^ k ≤ n → n < 10 * 10 ^ k → k + 1 ≡ figures_of n
figures-log n k h a b = by_le (figures_of n) (k + 1) (λ p. by_le (k + 1) (figures_of n) (λ q. omega arith) (λ q. absurd (few q))) (λ q. absurd (many c.least q))
  where
    c : FigureCount n (figures_of n)
    c = figures-count n h

    few : figures_of n < k + 1 → ⊥
    few q =
        let e = c.enough in
        let w : 10 ^ figures_of n ≤ 10 ^ k = pow-le-pow_right (omega arith) (omega arith) in
        omega arith

    many : (figures_of n ≡ 1) ⊎ ((1 < figures_of n) × (10 ^ (figures_of n - 1) ≤ n)) → k + 1 < figures_of n → ⊥
    many (inl e) q = omega arith
    many (inr p) q =
        let l = p.1 in
        let w : 10 ^ suc k ≤ 10 ^ (figures_of n - 1) = pow-le-pow_right (omega arith) (omega arith) in
        let e : 10 ^ suc k ≡ 10 ^ k * 10 = pow-suc 10 k in
        omega arith

-- the digits of a decimal are read as its number
decimal-digits : (most n : ℕ) → n < 4294967296 → n ≤ most → digits_of 10 most (decimal_of n) ≡ Some n
decimal-digits most n h l =
    rw (
      all_digits_lem 10 (omega arith) (omega arith) (figures_of n) n,
      value_back 10 (omega arith) (omega arith) (figures_of n) n (figures-count n h).enough,
      le-leb n
          most l,
    )

-- a decimal that was written is read as its number
pub decimal_back : (most n : ℕ) → n < 4294967296 → n ≤ most → number_of most (decimal_of n) ≡ Some n
decimal_back most n h l = go (figures-count n h).least
  where
    w : length (decimal_of n) ≡ figures_of n
    w = digits-length 10 (figures_of n) n

    go : (figures_of n ≡ 1) ⊎ ((1 < figures_of n) × (10 ^ (figures_of n - 1) ≤ n)) → number_of most (decimal_of n) ≡ Some n
    go (inl e) = sym (number_one most (decimal_of n) (w ∙ e)) ∙ decimal-digits most n h l
    go (inr p) =
        let e : suc (figures_of n - 1) ≡ figures_of n = omega (arith, p.0) in
        sym
        (number_more most (decimal_of n) (λ (z : length (decimal_of n) ≡ 0). omega (arith, w, p.0)) (λ (z : length (decimal_of n) ≡ 1). omega (arith, w, p.0))
        (λ z.
        first_figure (figures_of n - 1) n p.1 (subst (λ (k : ℕ). n < 10 ^ k) (sym e) (figures-count n h).enough)
        (ap (λ (k : ℕ). get_or (last_digits 10 k n) 0 0) e ∙ z)))
        ∙ decimal-digits most n h l

-- a decimal has no tab
pub decimal_no_tab : (n : ℕ) → no_tab (decimal_of n) ≡ true
decimal_no_tab n = digits_no_tab 10 (omega arith) (omega arith) (decimal_of n) (all_digits_lem 10 (omega arith) (omega arith) (figures_of n) n)

-- ---- hex

-- a word that was written is read as its number
pub word_back : (n : ℕ) → n < 4294967296 → word_of (hex_word_of n) ≡ Some n
word_back n h =
    rw (
      eq-eqb (length (hex_word_of n)) 8 (digits-length 16 8 n),
      all_digits_lem 16 (omega arith) (omega arith) 8 n,
      value_back 16 (omega arith) (omega arith) 8 n h,
      le-leb n 4294967295 (omega arith),
    )

-- nor has a word
pub word_no_tab : (n : ℕ) → no_tab (hex_word_of n) ≡ true
word_no_tab n = digits_no_tab 16 (omega arith) (omega arith) (hex_word_of n) (all_digits_lem 16 (omega arith) (omega arith) 8 n)
