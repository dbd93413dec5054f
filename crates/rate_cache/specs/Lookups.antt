-- The public lookups, for every input.
use Rattle.std.specs.Prelude.{ℕ, ◌≤◌, ◌<◌, Bool, true, cond, ◌&&◌, eqb, ℤ, pos, negsuc, ◌+ℤ◌}
use Rattle.laws.specs.Signs.{clip, in_range}
use Rattle.modes.specs.CacheBits.{row_length}
use Rattle.modes.specs.CacheIndex.{index_entry, row_start}
use Rattle.entcode.specs.Refusal.{refusal}
use Rattle.entcode.specs.Said.{Said, answer}
use Rattle.rate_cache.specs.Pulses.{get_pulses}
use Rattle.rate_cache.specs.Rows.{pulses_for, bits_for}

-- a call that lends no list and no coder: only its numbers (1) and its own rule can refuse it
abbrev pub refusal_of : Bool → ℕ → ℕ
refusal_of numbers special = refusal true numbers true special true true

-- the row of the index for LM, -1..3
abbrev pub level_of : ℤ → ℕ
level_of lm = clip (lm +ℤ pos 1)

-- band 0..20 and LM -1..3
unfoldable pub band_ok : ℤ → ℤ → Bool
band_ok band lm = in_range (pos 0) (pos 20) band && in_range (negsuc 0) (pos 3) lm

-- -81,600..81,600
unfoldable pub bits_ok : ℤ → Bool
bits_ok bits = in_range (negsuc 81599) (pos 81600) bits

-- there is a row for this band and this LM
pub record HasRow (band lm : ℤ) : Type 0 where
  pub level-lt : level_of lm < 5
  pub band-lt : clip band < 21
  pub some : 1 ≤ index_entry (level_of lm) (clip band)

-- 5: this band has no row for this LM
unfoldable pub no_row : ℕ → ℕ → ℕ
no_row lm band = cond (eqb (index_entry lm band) 0) 5 0

-- 5, and then 6: the index is outside 0..row length
unfoldable pub no_entry : ℕ → ℕ → ℤ → ℕ
no_entry lm band pulses = cond (eqb (index_entry lm band) 0) 5 (cond (in_range (pos 0) (pos (row_length (row_start lm band))) pulses) 0 6)

-- the number of pulses of an index 0..40
unfoldable pub pulses_at : ℤ → Said ℕ
pulses_at i = answer (refusal_of (in_range (pos 0) (pos 40) i) 0) (get_pulses (clip i))

-- the index for these bits
unfoldable pub bits_to_pulses : ℤ → ℤ → ℤ → Said ℕ
bits_to_pulses band lm bits =
    answer (refusal_of (band_ok band lm && bits_ok bits) (no_row (level_of lm) (clip band))) (pulses_for (row_start (level_of lm) (clip band)) bits)

-- the cost of an index
unfoldable pub pulses_to_bits : ℤ → ℤ → ℤ → Said ℕ
pulses_to_bits band lm pulses =
    answer (refusal_of (band_ok band lm) (no_entry (level_of lm) (clip band) pulses)) (bits_for (row_start (level_of lm) (clip band)) (clip pulses))
