-- What is set aside before bits are shared: for the skip flag, and with two channels for the intensity parameter and the dual stereo flag.
-- The names in parentheses, here and below, are rate.rs's.
use Rattle.std.specs.Prelude.{ℕ, ◌-◌, ◌*◌, Bool, cond, ◌&&◌, leb, eqb}
use Rattle.modes.specs.Fractions.{fraction}
use Rattle.rate_spec.specs.Types.{AllocIn}

module _ (a : AllocIn) where
  -- the floor (alloc_floor), one bit for each channel: no threshold is less, a band above the highest that has its threshold counts for this or for
  -- nothing, and a band that is skipped keeps this or nothing. A band can be coded with less
  abbrev pub alloc_floor : ℕ
  alloc_floor = 8 * a.C

  -- a bit for the flag that ends the skipping, if the total has one (skip_rsv)
  unfoldable pub skip_reserve : ℕ
  skip_reserve = cond (leb 8 a.total) 8 0

  -- there are two channels, and what is left of the total pays for one of end - start + 1 values
  unfoldable pub stereo_fits : Bool
  stereo_fits = eqb a.C 2 && leb (fraction (a.end - a.start)) (a.total - skip_reserve)

  -- for the first band whose channels are coded as one (intensity_rsv)
  unfoldable pub intensity_reserve : ℕ
  intensity_reserve = cond stereo_fits (fraction (a.end - a.start)) 0

  -- a bit for whether the other bands have separate channels, if it is left after the intensity parameter (dual_stereo_rsv)
  unfoldable pub dual_reserve : ℕ
  dual_reserve = cond (stereo_fits && leb 8 (a.total - skip_reserve - intensity_reserve)) 8 0

  -- what the bands share (total, after the three reservations)
  unfoldable pub budget : ℕ
  budget = a.total - skip_reserve - intensity_reserve - dual_reserve
