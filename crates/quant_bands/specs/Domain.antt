-- What the workers ask. They run behind the gate and test nothing, so their callers show this.
use Rattle.std.specs.Prelude.{ℕ, ◌≤◌, ◌<◌}

-- C 1..2, and the bands start..end-1 of 21
pub record BandsIn (c start end : ℕ) : Type 0 where
  pub c_low : 1 ≤ c
  pub c_le : c ≤ 2
  pub start-lt : start < end
  pub end-le : end ≤ 21
