-- A band's threshold, its tilt by the trim, and its bits at an allocation vector and between two. In ℕ, x - y is 0 where y is above x; Signed has
-- the formulas of the RFC that can be negative, and states that they are these.
use Rattle.std.specs.Prelude.{ℕ, suc, ◌+◌, ◌-◌, ◌*◌, ◌/◌, ◌^◌, max, cond, leb, eqb}
use Rattle.modes.specs.Edges.{width}
use Rattle.modes.specs.Vectors.{vector_entry}
use Rattle.rate_spec.specs.Types.{AllocIn}
use Rattle.rate_spec.specs.Reserves.{alloc_floor}

module _ (a : AllocIn) where
  -- below its threshold (thresh) a band is not worth coding: 3/16 of a bit for each coefficient, and no less than a floor
  unfoldable pub threshold : ℕ → ℕ
  threshold j = max (alloc_floor a) (3 * width j * 2 ^ a.LM * 8 / 16)

  -- what a step of the trim adds to band j, in 64ths: more for lower bands
  unfoldable pub slope : ℕ → ℕ
  slope j = a.C * width j * (a.end - suc j) * 2 ^ (a.LM + 3)

  -- The trim moves a band by ⌊slope · (trim - 5 - LM) / 64⌋, less a floor where the band has one coefficient (trim_offset): that is
  -- trim_up - trim_down. This is the part upwards.
  unfoldable pub trim_up : ℕ → ℕ
  trim_up j = slope j * (a.trim - (5 + a.LM)) / 64

  -- the part downwards, rounded up, and the floor of a single coefficient
  unfoldable pub trim_down : ℕ → ℕ
  trim_down j = (slope j * (5 + a.LM - a.trim) + 63) / 64 + cond (eqb (width j * 2 ^ a.LM) 1) (alloc_floor a) 0

  -- x bits of band j after the trim: none stay none, and none go below 0
  unfoldable pub trimmed : ℕ → ℕ → ℕ
  trimmed x j = cond (eqb x 0) 0 (x + trim_up j - trim_down j)

  -- vector v's bits for band j, before the trim (bitsj)
  unfoldable pub vector_bits : ℕ → ℕ → ℕ
  vector_bits v j = a.C * width j * vector_entry v j * 2 ^ a.LM / 4

  -- vector v's bits for band j as the lower one of two (bits1); vector 0 takes no boost
  unfoldable pub lower_bits : ℕ → ℕ → ℕ
  lower_bits v j = trimmed (vector_bits v j) j + cond (eqb v 0) 0 (a.offset j)

  -- as the upper one of two (bits2, which has them less bits1); past the last vector, 10, stand the caps
  unfoldable pub upper_bits : ℕ → ℕ → ℕ
  upper_bits v j = trimmed (cond (leb 11 v) (a.cap j) (vector_bits v j)) j + a.offset j

  -- band j's bits q 64ths of the way from vector v to the next
  unfoldable pub interpolated : ℕ → ℕ → ℕ → ℕ
  interpolated v q j = lower_bits v j + q * (upper_bits (suc v) j - lower_bits v j) / 64
