-- What is reserved does not depend on the lists. Assumes nothing.
use mathlib.Core.List.{List}
use mathlib.Core.Path.{◌≡◌}
use Prim.Native.Nat.{ℕ}
use Rattle.rate_spec.specs.Reserves.{budget, dual_reserve, intensity_reserve, skip_reserve, stereo_fits}
use Rattle.rate_bands.specs.Inputs.{bare, alloc_in}
use Rattle.rate_bands.specs.Reserved.{Reserved}
use Rattle.rate_bands.specs.declared.AllocCounts.{AllocCounts}
use Rattle.rate_bands.specs.declared.Reserves.{Reserves}

module _ (f : AllocCounts) (offsets caps : List ℕ) {k : Reserves} (r : Reserved (bare f) k) where
  -- the budget after the reserves
  pub budget_any : k.budget ≡ budget (alloc_in f offsets caps)
  unfolding budget skip_reserve intensity_reserve dual_reserve stereo_fits
  budget_any = r.budget-is

  -- every reserve, from no lists to any
  pub reserved_any : Reserved (alloc_in f offsets caps) k
  unfolding budget skip_reserve intensity_reserve dual_reserve stereo_fits
  reserved_any = record { skip_is = r.skip_is; intensity-is = r.intensity-is; dual-is = r.dual-is; budget-is = r.budget-is }

module _ (f : AllocCounts) (offsets caps : List ℕ) {k : Reserves} (r : Reserved (alloc_in f offsets caps) k) where
  -- every reserve, from any lists to none
  pub reserved-bare : Reserved (bare f) k
  unfolding budget skip_reserve intensity_reserve dual_reserve stereo_fits
  reserved-bare = record { skip_is = r.skip_is; intensity-is = r.intensity-is; dual-is = r.dual-is; budget-is = r.budget-is }
