-- The question of an allocation as code has it, a frame and two lists of counts, and its domain: document 01, "Domain in numbers".
use Rattle.std.specs.Prelude.{ℕ, ◌≤◌, ◌<◌, List, [], get_or}
use Rattle.laws.specs.Lists.{AllLe}
use Rattle.rate_spec.specs.Types.{AllocIn}
use Rattle.rate_bands.specs.declared.AllocCounts.{AllocCounts}

-- the definition's question: band j's boost and cap are entry j of a list
abbrev pub alloc_in : AllocCounts → List ℕ → List ℕ → AllocIn
alloc_in f offsets caps =
    record {
      C = f.c;
      LM = f.lm;
      start = f.start;
      end = f.end;
      trim = f.trim;
      total = f.total;
      offset = λ j. get_or offsets j 0;
      cap = λ j. get_or caps j 0;
    }

-- the question for what depends on neither list
abbrev pub bare : AllocCounts → AllocIn
bare f = alloc_in f [] []

-- the numbers are those of the domain
pub record AllocCountsOk (f : AllocCounts) : Type 0 where
  pub c_low : 1 ≤ f.c
  pub c_le : f.c ≤ 2
  pub lm-le : f.lm ≤ 3
  pub start-lt : f.start < f.end
  pub end-le : f.end ≤ 21
  pub trim-le : f.trim ≤ 10
  pub total-le : f.total ≤ 81600

-- so are the boosts and the caps
pub record AllocListsOk (offsets caps : List ℕ) : Type 0 where
  pub offsets-le : AllLe 81600 offsets
  pub caps-le : AllLe 32767 caps
