-- The two lookups in the row of the pulse cache that starts at a place.
use Rattle.std.specs.Prelude.{ℕ, ◌+◌, cond, eqb, ℤ, pos, negsuc, ◌-ℤ◌}
use Rattle.modes.specs.CacheBits.{row_length, row_entry}
use Rattle.rate_cache.specs.Nearest.{nearest}

-- the row's entries, one less than a cost: index 0 costs nothing, so its entry is -1
unfoldable pub signed_entry : ℕ → ℕ → ℤ
signed_entry start i = cond (eqb i 0) (negsuc 0) (pos (row_entry start i))

-- which index costs what is nearest to the bits (bits2pulses)
unfoldable pub pulses_for : ℕ → ℤ → ℕ
pulses_for start bits = nearest (signed_entry start) (bits -ℤ pos 1) (row_length start)

-- what an index costs (pulses2bits): no pulses nothing, any other one more than its entry
unfoldable pub bits_for : ℕ → ℕ → ℕ
bits_for start pulses = cond (eqb pulses 0) 0 (row_entry start pulses + 1)
