-- The numbers that hold several entries of the cache: the arms of a match, and one entry out of a number, by a test of each place that antt
-- computes. Assumes nothing.
use Prim.Native.Nat.{ℕ, ◌*◌, ◌/◌, ◌%◌, ◌^◌, ◌<◌}
use mathlib.Core.Path.{◌≡◌, refl, ◌∙◌}
use native.Mathlib.Omega.{arith}
use lib.Dec.{eqb}
use lib.ListN.{get_or}
use borrow.Author.Tests.{eqb-true, ne_eqb}
use Rattle.laws.proofs.Tables.{below_at}
use Rattle.modes.specs.CacheBits.{cache_bits, row_length}
use Rattle.modes.specs.CacheIndex.{cache_index, index_entry, row_start}
use Rattle.modes.proofs.CacheRule.{place-most}
use Rattle.rate_cache.specs.Packed.{mark_at, row_mark, four_marks, eight_entries}

-- ---- the arms of a match on k, 0..n

-- an arm
pub hit : (f : ℕ → ℕ) (k : ℕ) {n w : ℕ} → k ≡ n → w ≡ f n → w ≡ f k
hit f k e h = rw e h

-- ---- one of them

-- the computed test of the 105 marks
pub mark_in : (j : ℕ) → j < 105 → four_marks (j / 4) / 2 ^ (16 * (j % 4)) % 65536 ≡ mark_at j
unfolding four_marks mark_at row_length cache_index cache_bits
mark_in j h = eqb-true _ _ (below_at (λ j. eqb (four_marks (j / 4) / 2 ^ (16 * (j % 4)) % 65536) (mark_at j)) 105 refl j h)

-- the computed test of the 392 entries
pub entry_in : (p : ℕ) → p < 392 → eight_entries (p / 8) / 2 ^ (8 * (p % 8)) % 256 ≡ get_or cache_bits p 0
unfolding eight_entries cache_bits
entry_in p h = eqb-true _ _ (below_at (λ p. eqb (eight_entries (p / 8) / 2 ^ (8 * (p % 8)) % 256) (get_or cache_bits p 0)) 392 refl p h)

-- ---- the two parts of a mark

-- the lower nine bits are the entry of the index
pub mark-place : (lm band : ℕ) → row_mark lm band % 512 ≡ index_entry lm band
unfolding mark_at index_entry
mark-place lm band = omega (arith, place-most lm band)

-- the upper ones are the row's length
pub mark-length : (lm band : ℕ) → (index_entry lm band ≡ 0 → ⊥) → row_mark lm band / 512 ≡ row_length (row_start lm band)
unfolding mark_at index_entry
mark-length lm band h = rw (ne_eqb (index_entry lm band) 0 h) (omega (arith, place-most lm band))

-- it is 0 where there is no row
pub mark-none : (lm band : ℕ) → index_entry lm band ≡ 0 → row_mark lm band ≡ 0
unfolding mark_at index_entry
mark-none lm band e = rw e

-- and only there
pub none-mark : (lm band : ℕ) {m : ℕ} → m ≡ row_mark lm band → m ≡ 0 → index_entry lm band ≡ 0
none-mark lm band e z = omega (arith, mark-place lm band, e)

-- so a mark that is not 0 tells of a row
pub some-mark : (lm band : ℕ) {m : ℕ} → m ≡ row_mark lm band → (m ≡ 0 → ⊥) → index_entry lm band ≡ 0 → ⊥
some-mark lm band e h z = h (e ∙ mark-none lm band z)
