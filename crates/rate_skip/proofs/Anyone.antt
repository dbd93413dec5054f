-- Skipping looks at no boost and no cap, and asks for flags only; each stereo question looks at its own answer only. So the contracts hold for
-- the question with any lists, and whatever the other answers are. Assumes nothing.
use Prim.Native.Nat.{ℕ, zero, suc}
use mathlib.Core.List.{List}
use mathlib.Core.Path.{◌≡◌, refl}
use Rattle.rate_spec.specs.Types.{Ask}
use Rattle.rate_spec.specs.Alloc.{ask_dual, ask_intensity, dual_asked}
use Rattle.rate_spec.specs.Reserves.{dual_reserve, intensity_reserve, skip_reserve, stereo_fits}
use Rattle.rate_spec.specs.Skips.{Round, asks, dropped, flag_of, keep, paid, reserve_next, skip, top_bits, width_up_to}
use Rattle.rate_spec.specs.Trials.{floored}
use Rattle.rate_spec.specs.Vectors.{threshold}
use Rattle.rate_bands.specs.Inputs.{bare, alloc_in}
use Rattle.rate_bands.specs.declared.AllocCounts.{AllocCounts}

module _ (f : AllocCounts) (offsets caps : List ℕ) (bits : ℕ → ℕ) where
  asks-bare : (r : Round) → asks (alloc_in f offsets caps) bits r ≡ asks (bare f) bits r
  unfolding asks top_bits width_up_to threshold
  asks-bare r = refl

  top-bare : (r : Round) → top_bits (alloc_in f offsets caps) bits r ≡ top_bits (bare f) bits r
  unfolding top_bits width_up_to
  top-bare r = refl

  dropped-bare : (r : Round) → dropped (alloc_in f offsets caps) bits r ≡ dropped (bare f) bits r
  unfolding dropped keep paid asks top_bits width_up_to threshold reserve_next floored
  dropped-bare r = refl

module _ (f : AllocCounts) (offsets caps : List ℕ) (bits : ℕ → ℕ) {σ : Type 0} (A B : Ask σ) where
  flag_same : A.skip ≡ B.skip → (r : Round) (s : σ) → flag_of (alloc_in f offsets caps) bits A r s ≡ flag_of (bare f) bits B r s
  unfolding flag_of
  flag_same e r s = rw (asks-bare f offsets caps bits r, top-bare f offsets caps bits r, e)

  -- skipping
  pub skip-same : A.skip ≡ B.skip → (n : ℕ) (r : Round) (s : σ) → skip (alloc_in f offsets caps) bits A n r s ≡ skip (bare f) bits B n r s
  unfolding skip
  skip-same e zero r s = refl
  skip-same e (suc n) r s =
      rw (
        flag_same e r s,
        asks-bare f offsets caps bits r,
        dropped-bare f offsets caps bits r,
        skip-same e n (dropped (bare f) bits r) (flag_of (bare f) bits B r s).1,
      )

  -- the intensity question
  pub intensity-same : A.intensity ≡ B.intensity → (r : Round) (s : σ) → ask_intensity (alloc_in f offsets caps) A r s ≡ ask_intensity (bare f) B r s
  unfolding ask_intensity
  intensity-same e r s = rw e

  -- the dual stereo question
  pub dual-same : A.dual ≡ B.dual → (intensity : ℕ) (s : σ) → ask_dual (alloc_in f offsets caps) A intensity s ≡ ask_dual (bare f) B intensity s
  unfolding ask_dual dual_asked dual_reserve stereo_fits skip_reserve intensity_reserve
  dual-same e intensity s = rw e
