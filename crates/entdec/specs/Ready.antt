-- What the workers ask of a reader. They run behind the gate and test nothing, so their callers show that the numbers stay in 32 bits.
use Rattle.std.specs.Prelude.{ℕ, ◌+◌, ◌*◌, ◌≤◌, ◌<◌}
use Rattle.entdec.specs.declared.Reader.{Reader}

-- Between symbols, with k more symbols to read. A symbol adds at most 49 to the bit count, 3 to the place at the front and 4 to the one at
-- the end: 64 leaves room for it
pub record Ready (k : ℕ) (d : Reader) : Type 0 where
  pub range_gt : 8388608 < d.rng
  pub range_le : d.rng ≤ 2147483648
  pub val-lt : d.val < d.rng
  pub waiting-le : d.waiting ≤ 32
  pub total-le : d.total + 64 * k ≤ 1048576
  pub offs-le : d.offs + 64 * k ≤ 1048576
  pub ends-le : d.ends + 64 * k ≤ 1048576

-- Within a symbol, before the range is brought above 2^23 again
pub record MidSymbol (d : Reader) : Type 0 where
  pub range_pos : 0 < d.rng
  pub range_le : d.rng ≤ 2147483648
  pub val-lt : d.val < d.rng
  pub total-le : d.total ≤ 1048576
  pub offs-le : d.offs ≤ 1048576
