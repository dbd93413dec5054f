-- Bounds of a band's figures as code has them, and its bits by them. Assumes nothing.
use Prim.Native.Nat.{ℕ, ◌+◌, ◌-◌, ◌*◌, ◌/◌, ◌^◌, ◌≤◌, ◌<◌}
use mathlib.Core.List.{List}
use mathlib.Core.Path.{◌≡◌, refl, sym, ◌∙◌, ap, subst⁻¹}
use native.Mathlib.Nat.{mul-le-mul, mul_assoc, mul_comm}
use native.Mathlib.Numerals.{add-one}
use native.Mathlib.Omega.{arith}
use lib.ListN.{get_or}
use lib.Pow.{pow_mono}
use borrow.Author.Tests.{eq-eqb, ne_eqb, le-leb, lt-leb}
use Rattle.modes.proofs.EdgeRule.{width-most}
use Rattle.modes.specs.Edges.{width}
use Rattle.modes.specs.Vectors.{vector_entry}
use Rattle.rate_spec.specs.Types.{AllocIn}
use Rattle.rate_spec.specs.Vectors.{upper_bits, lower_bits, slope, trim_down, trim_up, trimmed, vector_bits}
use Rattle.rate_spec.proofs.Bounds.{slope-le, trimmed-le, up_le}
use Rattle.rate_bands.specs.Inputs.{AllocCountsOk, bare, alloc_in}
use Rattle.rate_bands.specs.Tilts.{gap, scale}
use Rattle.rate_bands.specs.declared.AllocCounts.{AllocCounts}
use Rattle.rate_bands.proofs.Frames.{bare-ok}

-- ---- bounds

-- no band has more than 22 coefficients at LM 0
pub width-le : {w : ℕ} (j : ℕ) → w ≡ width j → w ≤ 22
width-le j e = subst⁻¹ (λ (n : ℕ). n ≤ 22) e (width-most j)

-- a power of 2 by a bound of its exponent
pub power_le : {p k : ℕ} (m : ℕ) → p ≡ 2 ^ k → k ≤ m → p ≤ 2 ^ m
power_le m e h = subst⁻¹ (λ (n : ℕ). n ≤ 2 ^ m) e (pow_mono h)

module _ {f : AllocCounts} (g : AllocCountsOk f) where
  -- a step of the trim
  pub slope-most : {s : ℕ} (j : ℕ) → s ≡ slope (bare f) j → s ≤ 56320
  slope-most j e = subst⁻¹ (λ (n : ℕ). n ≤ 56320) e (slope-le (bare f) (bare-ok g) j)

  -- by up to 10 steps of the trim
  pub tilt_le : {s d : ℕ} (j : ℕ) → s ≡ slope (bare f) j → d ≤ 10 → s * d ≤ 563200
  tilt_le j e h = mul-le-mul {n₂ = 56320} {m₂ = 10} (slope-most j e) h

  -- the trim's part upwards
  pub up-most : {u : ℕ} (j : ℕ) → u ≡ trim_up (bare f) j → u ≤ 4400
  up-most j e = subst⁻¹ (λ (n : ℕ). n ≤ 4400) e (up_le (bare f) (bare-ok g) j)

  -- what the trim adds
  pub trimmed-most : {x : ℕ} (y j : ℕ) → x ≡ trimmed (bare f) y j → x ≤ y + 4400
  trimmed-most y j e = subst⁻¹ (λ (n : ℕ). n ≤ y + 4400) e (trimmed-le (bare f) (bare-ok g) y j)

  scale-le : (j : ℕ) → scale (bare f) j ≤ 352
  unfolding scale
  scale-le j = mul-le-mul {n₂ = 44} {m₂ = 8} (mul-le-mul {n₂ = 2} {m₂ = 22} g.c_le (width-most j)) (pow_mono {j = 3} g.lm-le)

  -- a step of a vector times a band's scale
  pub scaled-le : {s t : ℕ} (j : ℕ) → s ≡ scale (bare f) j → t ≤ 200 → s * t ≤ 70400
  scaled-le j e h = mul-le-mul {n₂ = 352} {m₂ = 200} (subst⁻¹ (λ (n : ℕ). n ≤ 352) e (scale-le j)) h

-- ---- a vector's bits by the band's scale

vector-is : (a : AllocIn) (v j : ℕ) {s t : ℕ} → s ≡ scale a j → t ≡ vector_entry v j → s * t / 4 ≡ vector_bits a v j
unfolding scale vector_bits
vector-is a v j {s} {t} p q =
    let x = a.C * width j in
    let y = 2 ^ a.LM in
    let e : x * y * vector_entry v j ≡ x * vector_entry v j * y =
    mul_assoc x y (vector_entry v j) ∙ ap (λ (n : ℕ). x * n) (mul_comm y (vector_entry v j)) ∙ sym (mul_assoc x (vector_entry v j) y) in
    rw (p, q, e)

module _ (f : AllocCounts) (offsets caps : List ℕ) where
  same-trim : (y j : ℕ) {x : ℕ} → x ≡ trimmed (bare f) y j → x ≡ trimmed (alloc_in f offsets caps) y j
  unfolding trimmed trim_up trim_down slope
  same-trim y j p = p

  same-vector : (v j : ℕ) → vector_bits (bare f) v j ≡ vector_bits (alloc_in f offsets caps) v j
  unfolding vector_bits
  same-vector v j = refl

  module _ (v j : ℕ) {s t x : ℕ} (ps : s ≡ scale (bare f) j) (pt : t ≡ vector_entry v j) (px : x ≡ trimmed (bare f) (s * t / 4) j) where
    trim-is : x ≡ trimmed (alloc_in f offsets caps) (vector_bits (alloc_in f offsets caps) v j) j
    trim-is =
        same-trim (s * t / 4) j px
        ∙ ap (λ (n : ℕ). trimmed (alloc_in f offsets caps) n j) (vector-is (bare f) v j ps pt ∙ same-vector v j)

    -- vector 0 as the lower one of two
    pub low_first : v ≡ 0 → x ≡ lower_bits (alloc_in f offsets caps) v j
    unfolding lower_bits
    low_first e = rw (eq-eqb v 0 e) (omega (arith, trim-is))

    -- any other vector as the lower one
    pub low_other : (v ≡ 0 → ⊥) → x + get_or offsets j 0 ≡ lower_bits (alloc_in f offsets caps) v j
    unfolding lower_bits
    low_other e = rw (ne_eqb v 0 e) (omega (arith, trim-is))

    -- a vector as the upper one
    pub high-vector : v < 11 → x + get_or offsets j 0 ≡ upper_bits (alloc_in f offsets caps) v j
    unfolding upper_bits
    high-vector h = rw (lt-leb 11 v h) (omega (arith, trim-is))

  -- the caps as the upper one
  pub high-caps : (v j : ℕ) {x : ℕ} → 11 ≤ v → x ≡ trimmed (bare f) (get_or caps j 0) j → x + get_or offsets j 0 ≡ upper_bits (alloc_in f offsets caps) v j
  unfolding upper_bits
  high-caps v j h p = rw (le-leb 11 v h) (omega (arith, same-trim (get_or caps j 0) j p))

  -- what the upper one has above the lower one
  pub gap_is : (v j : ℕ) {l h r : ℕ} → l ≡ lower_bits (alloc_in f offsets caps) v j → h ≡ upper_bits (alloc_in f offsets caps) (v + 1) j → r ≡ h - l
      → r ≡ gap (alloc_in f offsets caps) v j
  unfolding gap
  gap_is v j p q e = e ∙ rw (p, q, add-one)
