-- How the code keeps the pulse cache: several entries in one number. No public contract cites this; modes/specs/CacheBits.antt says which form of
-- the cache is for what.
use Rattle.std.specs.Prelude.{ℕ, ◌+◌, ◌-◌, ◌*◌, cond, eqb, get_or}
use Rattle.modes.specs.CacheBits.{cache_bits, row_length}
use Rattle.modes.specs.CacheIndex.{cache_index}

-- the mark of the row at a place of the index: its length, and in nine bits one more than its start; 0 where there is no row
unfoldable pub mark_at : ℕ → ℕ
mark_at j = let p = get_or cache_index j 0 in p + 512 * cond (eqb p 0) 0 (row_length (p - 1))

-- that of a band, where lm is LM + 1
abbrev pub row_mark : ℕ → ℕ → ℕ
row_mark lm band = mark_at (21 * lm + band)

-- four marks from place 4k on, 16 bits each
unfoldable pub four_marks : ℕ → ℕ
four_marks k = mark_at (4 * k) + 65536 * (mark_at (4 * k + 1) + 65536 * (mark_at (4 * k + 2) + 65536 * mark_at (4 * k + 3)))

-- two entries of the cache, a byte each
abbrev two : ℕ → ℕ
two p = get_or cache_bits p 0 + 256 * get_or cache_bits (p + 1) 0

-- eight from place 8k on
unfoldable pub eight_entries : ℕ → ℕ
eight_entries k = two (8 * k) + 65536 * (two (8 * k + 2) + 65536 * (two (8 * k + 4) + 65536 * two (8 * k + 6)))
