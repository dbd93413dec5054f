-- The nearest index, from the two indices that a search has brought together. Assumes nothing.
use Prim.Native.Nat.{ℕ, ◌+◌, ◌-◌, ◌*◌, ◌≤◌, ◌<◌}
use mathlib.Core.Path.{◌≡◌, refl, sym, ◌∙◌}
use mathlib.Core.Bool.{Bool, true, false, cond}
use mathlib.Core.Logic.{◌⊎◌, inl, inr, ⊎_elim}
use native.Mathlib.Nat.{eq-or-lt_of_le}
use native.Mathlib.Omega.{arith}
use lib.Dec.{leb}
use lib.IntN.{pos}
use borrow.Author.Tests.{lt-ltb, le-ltb, le-leb, lt-leb}
use Rattle.laws.proofs.Tests.{by_le}
use Rattle.modes.specs.CacheBits.{row_length, CacheRow}
use Rattle.rate_cache.specs.Nearest.{low, high, nearer, nearest}
use Rattle.rate_cache.specs.Rows.{signed_entry, pulses_for, bits_for}
use Rattle.rate_cache.proofs.Near.{low-is, high_is}
use Rattle.rate_cache.proofs.Costs.{cost_le, figure, below, at_least, near_is}

-- what a search keeps: lo is 0 or costs less than the bits, hi is the last or costs no less
pub record Between (start bits lo hi : ℕ) : Type 0 where
  pub some : 1 ≤ hi
  pub order : lo ≤ hi
  pub inside : hi ≤ row_length start
  pub low-side : (lo ≡ 0) ⊎ (bits_for start lo < bits)
  pub high-side : (hi ≡ row_length start) ⊎ (bits ≤ bits_for start hi)

-- one of them comes to a place between them, by what that costs
module _ (start bits lo hi mid : ℕ) (w : Between start bits lo hi) (above : lo ≤ mid) (under : mid ≤ hi) (some : 1 ≤ mid) where
  -- what costs less than the bits is the new lower one
  pub low_up : bits_for start mid < bits → Between start bits mid hi
  low_up h = record { some = w.some; order = under; inside = w.inside; low-side = inr h; high-side = w.high-side }

  -- what costs no less is the new upper one
  pub high_down : bits ≤ bits_for start mid → Between start bits lo mid
  high_down h = record { some = some; order = above; inside = omega (arith, w.inside); low-side = w.low-side; high-side = inr h }

-- they have met, or stand next to each other
module _ (start bits lo hi : ℕ) (r : CacheRow start) (w : Between start bits lo hi) (close : hi ≤ lo + 1) where
  -- what an index costs
  abbrev cost : ℕ → ℕ
  cost = bits_for start

  -- the last index
  abbrev len : ℕ
  len = row_length start

  -- `low` at the figure
  abbrev lowest : ℕ → ℕ
  lowest = low (signed_entry start) (figure start bits)

  -- `high` at the figure
  abbrev highest : ℕ → ℕ → ℕ
  highest = high (signed_entry start) (figure start bits)

  -- low and high, where their costs are known
  low-at : (x : ℕ) → x ≤ len → (x ≡ 0) ⊎ (cost x < bits) → ((i : ℕ) → x < i → i ≤ len → bits ≤ cost i) → lowest len ≡ x
  low-at x h z above =
      low-is (signed_entry start) (figure start bits) len x h (⊎_elim inl (λ p. inr (below start bits x ∙ lt-ltb (cost x) bits p)) z)
      (λ i p q. below start bits i ∙ le-ltb (cost i) bits (above i p q))

  -- high too
  high-at : (x : ℕ) → 1 ≤ x → x ≤ len → (x ≡ len) ⊎ (bits ≤ cost x) → ((i : ℕ) → 1 ≤ i → i < x → cost i < bits) → highest 1 (len - 1) ≡ x
  high-at x g h z under =
      high_is (signed_entry start) (figure start bits) (len - 1) 1 x g (omega arith)
      (⊎_elim (λ p. inl (omega arith)) (λ p. inr (at_least start bits x ∙ le-leb bits (cost x) p)) z)
      (λ i p q. at_least start bits i ∙ lt-leb bits (cost i) (under i p q))

  -- hi costs no less than the bits: lo is low, hi is high
  apart : bits ≤ cost hi → pulses_for start (pos bits) ≡ cond (leb (2 * bits) (cost lo + cost hi)) lo hi
  unfolding pulses_for nearest nearer
  apart h = rw (low-at lo (omega (arith, w.inside, w.order)) w.low-side above, high-at hi w.some w.inside (inr h) under, near_is start bits lo hi)
    where
      next : (lo ≡ 0) ⊎ (cost lo < bits) → lo + 1 ≡ hi
      next (inl o) = omega (arith, w.some)
      next (inr o) = ⊎_elim (λ e. absurd (omega (arith, rw e at o))) (λ e. omega arith) (eq-or-lt_of_le w.order)

      above : (i : ℕ) → lo < i → i ≤ len → bits ≤ cost i
      above i p q = let e = next w.low-side in omega (arith, cost_le start r hi i (omega arith) q)

      under : (i : ℕ) → 1 ≤ i → i < hi → cost i < bits
      under i p q =
          let e = next w.low-side in
          ⊎_elim (λ o. absurd (omega arith)) (λ o. omega (arith, cost_le start r i lo (omega arith) (omega (arith, w.inside)))) w.low-side

  -- every index costs less than the bits: both are the last
  last : cost len < bits → pulses_for start (pos bits) ≡ len
  unfolding pulses_for nearest nearer
  last h =
      rw (
        low-at len (omega arith) (inr h) (λ i p q. absurd (omega arith)),
        high-at len (omega (arith, w.some, w.inside)) (omega arith) (inl refl) (λ i p q. omega (arith, cost_le start r i len (omega arith) (omega arith))),
        near_is start bits len len,
      )
      (same (leb (2 * bits) (cost len + cost len)))
    where
      same : (t : Bool) → cond t len len ≡ len
      same true = refl
      same false = refl

  -- what the search answers
  pub takes_low : 2 * bits ≤ cost lo + cost hi → lo ≡ pulses_for start (pos bits)
  takes_low h =
      by_le bits (cost hi) (λ p. sym (apart p ∙ rw (le-leb (2 * bits) (cost lo + cost hi) h)))
      (λ p. absurd (omega (arith, cost_le start r lo hi w.order w.inside)))

  -- the upper one, also where it is the last and every index costs less
  pub takes-high : cost lo + cost hi < 2 * bits → hi ≡ pulses_for start (pos bits)
  takes-high h = by_le bits (cost hi) (λ p. sym (apart p ∙ rw (lt-leb (2 * bits) (cost lo + cost hi) h))) (λ p. beyond p w.high-side)
    where
      beyond : cost hi < bits → (hi ≡ len) ⊎ (bits ≤ cost hi) → hi ≡ pulses_for start (pos bits)
      beyond p (inl o) = o ∙ sym (last (rw o at p))
      beyond p (inr o) = absurd (omega arith)
