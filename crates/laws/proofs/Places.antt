-- A state that goes over places: one place on, and what stays true on the way. Assumes nothing.
use Prim.Native.Nat.{ℕ, zero, suc, ◌+◌, ◌-◌, ◌≤◌, ◌<◌}
use mathlib.Core.Path.{◌≡◌}
use native.Mathlib.Omega.{arith}
use Rattle.laws.specs.Places.{over_places}

module _ {S : Type 0} (f : ℕ → S → S) where
  -- nothing is done where a loop begins
  pub places-none : (start : ℕ) (s : S) → s ≡ over_places f start (start - start) s
  unfolding over_places
  places-none start s = let e : start - start ≡ 0 = omega arith in rw e

  -- one place more
  pub places-up : (start i : ℕ) (s : S) {t r : S} → start ≤ i → t ≡ over_places f start (i - start) s → r ≡ f i t → r ≡ over_places f start (i + 1 - start) s
  unfolding over_places
  places-up start i s h p q =
      let e : i + 1 - start ≡ suc (i - start) = omega arith in
      let g : start + (i - start) ≡ i = omega arith in
      rw (e, g, ← p) q

  -- what holds of k places done, and is carried from k to k + 1
  pub places-keep : (P : ℕ → S → Type 0) (start n : ℕ) (s : S) → P 0 s → ((k : ℕ) (t : S) → k < n → P k t → P (suc k) (f (start + k) t))
      → P n (over_places f start n s)
  unfolding over_places
  places-keep P start zero s h g = h
  places-keep P start (suc n) s h g =
      g n (over_places f start n s) (omega arith) (places-keep P start n s h (λ k t l p. g k t (omega arith) p))
