-- What the tables keep, each rule shown by one computed test: an auditor need not read the numbers for it.
use Rattle.std.specs.Prelude.{ℕ, suc, ◌≤◌, ◌<◌, ◌≡◌, true}
use Rattle.modes.specs.CacheBits.{CacheRow}
use Rattle.modes.specs.CacheIndex.{index_entry, row_start}
use Rattle.modes.specs.Edges.{edge, width}
use Rattle.modes.specs.Eighths.{is_log}
use Rattle.modes.specs.EnergyModel.{zero_at, decay_at}
use Rattle.modes.specs.Fractions.{fraction}
use Rattle.modes.specs.Laplace.{legal}
use Rattle.modes.specs.LogWidths.{log_width}
use Rattle.modes.specs.Vectors.{vector_entry}

-- the tables keep their rules
pub record TablesKeepRules : Type 0 where
  -- the 21 bands lie one after the other, from 0 up to 100, none of them empty
  pub first_edge : edge 0 ≡ 0
  pub edges_rise : (i j : ℕ) → i < j → j ≤ 21 → edge i < edge j
  pub last-edge : edge 21 ≡ 100
  -- a width's logarithm and the cost of a choice are logarithms in eighths of a bit, rounded up
  pub widths_logged : (j : ℕ) → j < 21 → is_log (width j) (log_width j) ≡ true
  pub choices_logged : (n : ℕ) → n < 24 → is_log (suc n) (fraction n) ≡ true
  -- the first allocation vector is zero, and no later one gives a band less
  pub vectors-begin : (j : ℕ) → j < 21 → vector_entry 0 j ≡ 0
  pub vectors_rise : (j : ℕ) → j < 21 → (v w : ℕ) → v ≤ w → w ≤ 10 → vector_entry v j ≤ vector_entry w j
  -- an entry of the cache's index is 0 or one more than the start of a row whose entries never fall
  pub rows_start : (lm band : ℕ) → lm < 5 → band < 21 → 1 ≤ index_entry lm band → CacheRow (row_start lm band)
  -- each pair of the coarse-energy model makes a Laplace model: f comes to 0 within 32 steps
  pub pairs_legal : (k : ℕ) → k < 168 → legal (zero_at k) (decay_at k) ≡ true
