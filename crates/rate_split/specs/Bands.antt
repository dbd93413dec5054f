-- The bands of the definition, at a question as code has it. `bits` is each band's bits before the spread, `kept` what each skipped band kept.
use Rattle.std.specs.Prelude.{ℕ, ◌+◌, ◌-◌, ◌≤◌, ◌<◌, Bool, List, [], get_or, take, drop}
use Rattle.laws.specs.Places.{sum_of}
use Rattle.rate_spec.specs.Types.{Band}
use Rattle.rate_spec.specs.Alloc.{band_of, carried, split_band}
use Rattle.rate_bands.specs.Inputs.{AllocCountsOk, alloc_in}
use Rattle.rate_bands.specs.declared.AllocCounts.{AllocCounts}

module _ (f : AllocCounts) (caps bits : List ℕ) (coded left intensity : ℕ) (dual : Bool) where
  -- the balance that reaches the band n above the first
  abbrev pub carried_at : ℕ → ℕ
  carried_at n = carried (alloc_in f [] caps) (λ j. get_or bits j 0) coded left intensity dual n

  -- the coded band j
  abbrev pub coded_at : ℕ → Band
  coded_at j = split_band (alloc_in f [] caps) (λ j. get_or bits j 0) coded left intensity dual j (carried_at (j - f.start))

  -- band j, coded or skipped; entry j of `kept` is what the skipped band j kept
  abbrev pub band_at : List ℕ → ℕ → Band
  band_at kept j = band_of (alloc_in f [] caps) (λ j. get_or bits j 0) coded left intensity dual (take (f.end - coded) (drop coded kept)) j

-- what the split is asked: the coded bands are start..coded-1, and all that they share is part of the total
pub record SplitIn (f : AllocCounts) (bits : List ℕ) (coded left : ℕ) : Type 0 where
  pub frame : AllocCountsOk f
  pub start-lt : f.start < coded
  pub coded-le : coded ≤ f.end
  pub within : sum_of (λ j. get_or bits j 0) f.start (coded - f.start) + left ≤ 81600
