-- A frame in its domain asks a question in the definition's domain; what depends on neither list is the same for all lists. Assumes nothing.
use Prim.Native.Nat.{ℕ}
use mathlib.Core.List.{List, []}
use mathlib.Core.Path.{◌≡◌, refl}
use native.Mathlib.Omega.{arith}
use Rattle.rate_spec.specs.Domain.{AllocInOk}
use Rattle.rate_spec.specs.Reserves.{budget, dual_reserve, intensity_reserve, skip_reserve, stereo_fits}
use Rattle.rate_spec.specs.Vectors.{threshold}
use Rattle.rate_bands.specs.Inputs.{AllocCountsOk, AllocListsOk, bare, alloc_in}
use Rattle.rate_bands.specs.declared.AllocCounts.{AllocCounts}

-- numbers and lists of the code's domain
pub in_ok : {f : AllocCounts} (offsets caps : List ℕ) → AllocCountsOk f → AllocListsOk offsets caps → AllocInOk (alloc_in f offsets caps)
in_ok offsets caps g l =
    record {
      C_low = g.c_low;
      C_le = g.c_le;
      LM-le = g.lm-le;
      start-lt = g.start-lt;
      end-le = g.end-le;
      trim-le = g.trim-le;
      total-le = g.total-le;
      offset-le = l.offsets-le;
      cap-le = l.caps-le;
    }

-- without lists
pub bare-ok : {f : AllocCounts} → AllocCountsOk f → AllocInOk (bare f)
bare-ok g = in_ok [] [] g (record { offsets-le = λ i. omega arith; caps-le = λ i. omega arith })

module _ (f : AllocCounts) (offsets caps : List ℕ) where
  -- the budget
  pub budget-bare : budget (bare f) ≡ budget (alloc_in f offsets caps)
  unfolding budget skip_reserve intensity_reserve dual_reserve stereo_fits
  budget-bare = refl

  -- the thresholds
  pub threshold-bare : threshold (bare f) ≡ threshold (alloc_in f offsets caps)
  unfolding threshold
  threshold-bare = refl
