-- A row's entries as costs: an entry is one less than what its index costs, and the figure one less than the bits. Assumes nothing.
use Prim.Native.Nat.{ℕ, suc, ◌+◌, ◌-◌, ◌*◌, ◌≤◌}
use mathlib.Core.Path.{◌≡◌, refl, sym, ap, ◌∙◌}
use mathlib.Core.Bool.{Bool, true, false, cond}
use native.Mathlib.Omega.{arith}
use lib.Dec.{leb, ltb, eqb}
use lib.IntN.{ℤ, pos, negsuc, sub_ℕ, ◌-ℤ◌}
use lib.Signed.{le_z, lt_z}
use mathlib.Core.Logic.{inl}
use borrow.Author.Tests.{le-leb, le-ltb, eq-eqb, ne_eqb}
use Rattle.laws.specs.Signs.{clip}
use Rattle.laws.proofs.Tests.{by_le}
use Rattle.laws.proofs.Differences.{sub-pos, sub-neg, pos_less, sub_less}
use Rattle.modes.specs.CacheBits.{row_length, row_entry, CacheRow}
use Rattle.rate_cache.specs.Nearest.{high, nearer, nearest}
use Rattle.rate_cache.specs.Rows.{signed_entry, pulses_for, bits_for}
use Rattle.rate_cache.proofs.Subs.{leb-same, ltb-same, le_subs, lt_subs, subs_less}
use Rattle.rate_cache.proofs.Near.{low-is}

module _ (start : ℕ) where
  -- an entry is a cost less one, index 0 too
  entry-is : (i : ℕ) → signed_entry start i ≡ sub_ℕ (bits_for start i) 1
  unfolding signed_entry bits_for
  entry-is i = go (eqb i 0) (row_entry start i)
    where
      go : (t : Bool) (e : ℕ) → cond t (negsuc 0) (pos e) ≡ sub_ℕ (cond t 0 (e + 1)) 1
      go true e = refl
      go false e = let p : e ≡ e + 1 - 1 = omega arith in ap pos p ∙ sym (sub-pos (e + 1) 1 (omega arith))

  -- no pulses
  pub cost_none : (i : ℕ) → i ≡ 0 → bits_for start i ≡ 0
  unfolding bits_for
  cost_none i h = rw (eq-eqb i 0 h)

  -- any other index
  pub cost_some : (i : ℕ) → 1 ≤ i → bits_for start i ≡ row_entry start i + 1
  unfolding bits_for
  cost_some i h = rw (ne_eqb i 0 (λ e. omega arith))

  -- costs never fall
  pub cost_le : CacheRow start → (i j : ℕ) → i ≤ j → j ≤ row_length start → bits_for start i ≤ bits_for start j
  cost_le r i j h g =
      by_le 1 i (λ p. omega (arith, cost_some i p, cost_some j (omega arith), r.entry-le i j p h g))
      (λ p. omega (arith, cost_none i (omega arith)))

  -- ---- the tests of `nearest`, at b = bits - 1

  module _ (bits : ℕ) where
    -- the figure that bits2pulses looks for
    abbrev pub figure : ℤ
    figure = pos bits -ℤ pos 1

    -- as a difference of counts
    figure_is : figure ≡ sub_ℕ bits 1
    figure_is = pos_less bits 1

    -- an entry is below the figure where its cost is below the bits
    pub below : (i : ℕ) → lt_z (signed_entry start i) figure ≡ ltb (bits_for start i) bits
    below i =
        rw (entry-is i, figure_is, lt_subs (bits_for start i) 1 bits 1)
        (ltb-same (bits_for start i + 1) (bits + 1) (bits_for start i) bits (λ p. omega arith) (λ p. omega arith))

    -- and at or above it where its cost is
    pub at_least : (i : ℕ) → le_z figure (signed_entry start i) ≡ leb bits (bits_for start i)
    at_least i =
        rw (entry-is i, figure_is, le_subs bits 1 (bits_for start i) 1)
        (leb-same (bits + 1) (bits_for start i + 1) bits (bits_for start i) (λ p. omega arith) (λ p. omega arith))

    -- and the nearer of two by twice the bits and the sum of their costs
    pub near_is : (lo hi : ℕ) → le_z (figure -ℤ signed_entry start lo) (signed_entry start hi -ℤ figure)
        ≡ leb (2 * bits) (bits_for start lo + bits_for start hi)
    near_is lo hi =
        let x = bits_for start lo in
        let y = bits_for start hi in
        rw (entry-is lo, entry-is hi, figure_is, subs_less bits 1 x 1, subs_less y 1 bits 1, le_subs (bits + 1) (1 + x) (y + 1) (1 + bits))
        (leb-same (bits + 1 + (1 + bits)) (y + 1 + (1 + x)) (2 * bits) (x + y) (λ p. omega arith) (λ p. omega arith))

  -- ---- bits below 0 are nearest to index 0, as 0 bits are

  module _ (m : ℕ) where
    -- the figure for bits that are m below 0
    abbrev under : ℤ
    under = sub_ℕ 0 m -ℤ pos 1

    -- as a difference of counts
    under-is : under ≡ sub_ℕ 0 (m + 1)
    under-is = sub_less 0 m 1

    -- no entry is below it
    none_below : (i : ℕ) → lt_z (signed_entry start i) under ≡ false
    none_below i = rw (entry-is i, under-is, lt_subs (bits_for start i) 1 0 (m + 1)) (le-ltb (bits_for start i + (m + 1)) (0 + 1) (omega arith))

    -- and index 0 is the nearest
    first_near : (hi : ℕ) → le_z (under -ℤ signed_entry start 0) (signed_entry start hi -ℤ under) ≡ true
    first_near hi =
        let x = bits_for start 0 in
        let y = bits_for start hi in
        rw (entry-is 0, entry-is hi, under-is, subs_less 0 (m + 1) x 1, subs_less y 1 0 (m + 1), le_subs (0 + 1) (m + 1 + x) (y + (m + 1)) (1 + 0))
        (le-leb (0 + 1 + (1 + 0)) (y + (m + 1) + (m + 1 + x)) (omega arith))

    -- so it is found
    none : pulses_for start (sub_ℕ 0 m) ≡ 0
    unfolding pulses_for nearest nearer
    none =
        rw (
          low-is (signed_entry start) under (row_length start) 0 (omega arith) (inl refl) (λ i p q. none_below i),
          first_near
              (high (signed_entry start) under 1 (row_length start - 1)),
        )

  -- the code may read negative bits as 0
  pub pulses-clip : (z : ℤ) → pulses_for start (pos (clip z)) ≡ pulses_for start z
  pulses-clip (pos n) = refl
  pulses-clip (negsuc m) =
      let e : suc m - suc 0 ≡ m = omega arith in
      none 0 ∙ sym (none (suc m)) ∙ ap (pulses_for start) (sub-neg 0 (suc m) (omega arith) ∙ ap negsuc e)
