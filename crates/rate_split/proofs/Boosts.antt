-- The split does not look at the boosts: the contracts hold for the question with any. Assumes nothing.
use Prim.Native.Nat.{ℕ, zero, suc, ◌+◌, ◌-◌}
use mathlib.Core.Bool.{Bool}
use mathlib.Core.List.{List, []}
use mathlib.Core.Path.{◌≡◌, refl, ap}
use Rattle.rate_spec.specs.Alloc.{band_of, carried, degrees, skipped, split_band, spread}
use Rattle.rate_spec.specs.Skips.{width_up_to}
use Rattle.rate_bands.specs.Inputs.{alloc_in}
use Rattle.rate_bands.specs.declared.AllocCounts.{AllocCounts}

module _ (f : AllocCounts) (offsets caps : List ℕ) (bits : ℕ → ℕ) (coded left intensity : ℕ) (dual : Bool) where
  -- the balance that reaches a band
  pub carried_any : (n : ℕ) → carried (alloc_in f offsets caps) bits coded left intensity dual n ≡ carried (alloc_in f [] caps) bits coded left intensity dual n
  unfolding carried split_band spread degrees width_up_to
  carried_any zero = refl
  carried_any (suc n) = ap (λ (b : ℕ). (split_band (alloc_in f [] caps) bits coded left intensity dual (f.start + n) b).balance) (carried_any n)

  -- a band of the answer
  pub band_any : (kept : List ℕ) (j : ℕ)
      → band_of (alloc_in f offsets caps) bits coded left intensity dual kept j ≡ band_of (alloc_in f [] caps) bits coded left intensity dual kept j
  unfolding band_of split_band spread degrees width_up_to skipped
  band_any kept j = rw (carried_any (j - f.start))
