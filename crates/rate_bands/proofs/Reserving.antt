-- The reservations by case. Assumes nothing.
use Prim.Native.Nat.{ℕ, ◌-◌, ◌≤◌, ◌<◌}
use mathlib.Core.Bool.{true, false, cond}
use mathlib.Core.Path.{◌≡◌}
use native.Mathlib.Omega.{arith}
use lib.Dec.{leb}
use borrow.Author.Tests.{eq-eqb, ne_eqb, le-leb, lt-leb}
use Rattle.modes.specs.Fractions.{fraction}
use Rattle.rate_spec.specs.Types.{AllocIn}
use Rattle.rate_spec.specs.Reserves.{budget, dual_reserve, intensity_reserve, skip_reserve, stereo_fits}
use Rattle.rate_bands.specs.Reserved.{Reserved}

module _ (a : AllocIn) {s : ℕ} (p : s ≡ cond (leb 8 a.total) 8 0) where
  -- one channel has no stereo symbols
  pub one_channel : a.C < 2 → stereo_fits a ≡ false
  unfolding stereo_fits
  one_channel h = rw (ne_eqb a.C 2 (λ e. omega arith))

  module _ (two : a.C ≡ 2) {t : ℕ} (q : t ≡ fraction (a.end - a.start)) where
    -- the intensity parameter costs more than is left
    pub not-paid : a.total - s < t → stereo_fits a ≡ false
    unfolding stereo_fits skip_reserve
    not-paid h = rw (eq-eqb a.C 2 two, ← p, ← q) (lt-leb t (a.total - s) h)

    -- it does not
    pub is-paid : t ≤ a.total - s → stereo_fits a ≡ true
    unfolding stereo_fits skip_reserve
    is-paid h = rw (eq-eqb a.C 2 two, ← p, ← q) (le-leb t (a.total - s) h)

    -- then both stereo symbols are looked at
    pub all_three : {d : ℕ} → stereo_fits a ≡ true → d ≡ cond (leb 8 (a.total - s - t)) 8 0
        → Reserved a (record { skip = s; intensity = t; dual = d; budget = a.total - s - t - d })
    unfolding skip_reserve intensity_reserve dual_reserve budget
    all_three e r =
        record { skip_is = p; intensity-is = rw e q; dual-is = rw (e, ← p, ← q) r; budget-is = rw (e, ← p, ← q, ← r) }

  -- else nothing is reserved for them
  pub skip-alone : stereo_fits a ≡ false → Reserved a (record { skip = s; intensity = 0; dual = 0; budget = a.total - s })
  unfolding skip_reserve intensity_reserve dual_reserve budget
  skip-alone e = record { skip_is = p; intensity-is = rw e; dual-is = rw e; budget-is = rw (e, ← p) (omega arith) }
