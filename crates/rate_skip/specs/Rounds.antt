-- Rounds as code has them, and what skipping gives.
use Rattle.std.specs.Prelude.{ℕ, ◌+◌, ◌-◌, ◌≤◌, ◌<◌, Bool, List, [], ◌⊎◌, ◌≡◌, get_or, take, drop}
use Rattle.laws.specs.Places.{sum_of}
use Rattle.modes.specs.Fractions.{fraction}
use Rattle.rate_spec.specs.Types.{AllocIn}
use Rattle.rate_spec.specs.Alloc.{left_of}
use Rattle.rate_spec.specs.Skips.{Round, Skipped, asks, dropped, keep, top_bits}
use Rattle.rate_bands.specs.Inputs.{AllocCountsOk}
use Rattle.rate_bands.specs.declared.AllocCounts.{AllocCounts}
use Rattle.rate_skip.specs.declared.RoundFigures.{RoundFigures}

-- a round by its figures
abbrev pub round_of : ℕ → ℕ → ℕ → List ℕ → Round
round_of coded left reserve kept = record { coded = coded; left = left; reserve = reserve; kept = kept }

-- what the bands coded..end-1 kept, in a list with an entry for each band
abbrev pub kept_of : ℕ → ℕ → List ℕ → List ℕ
kept_of end coded l = take (end - coded) (drop coded l)

-- a round's figures by the definition
abbrev pub round_figures : AllocIn → (ℕ → ℕ) → Round → RoundFigures
round_figures a bits r =
    record { top = top_bits a bits r; asked = asks a bits r; keep = keep a bits r; left = (dropped a bits r).left; reserve = (dropped a bits r).reserve }

-- what later steps need of skipping: the round that it ended before, whether a flag said stop, and the state after the answers
abbrev pub skip_ending : {σ : Type 0} → Skipped × σ → Round × Bool × σ
skip_ending k = (k.0.last, k.0.stopped, k.1)

-- what is left after skipping and the stereo symbols, by the definition
abbrev pub left_at : AllocIn → ℕ → Bool → ℕ → ℕ
left_at a left stopped intensity = left_of a (record { last = round_of 0 left 0 []; flags = []; stopped = stopped }) intensity

-- what the code of a round is asked: the top band is coded-1, and its bits, what is left and the reservation are part of the total
pub record RoundIn (f : AllocCounts) (bits : List ℕ) (coded left reserve : ℕ) : Type 0 where
  pub frame : AllocCountsOk f
  pub start-lt : f.start < coded
  pub coded-le : coded ≤ 21
  pub within : get_or bits (coded - 1) 0 + left + reserve ≤ 81600

-- what the code of skipping is asked: neither band low nor one below it is skipped, and what all bands have, what is left and the reservation are
-- part of the total
pub record SkipIn (f : AllocCounts) (bits : List ℕ) (low left reserve : ℕ) : Type 0 where
  pub frame : AllocCountsOk f
  pub start-le : f.start ≤ low
  pub low-lt : low < f.end
  pub reserve-is : (reserve ≡ fraction (f.end - f.start)) ⊎ (reserve ≡ 0)
  pub within : left + sum_of (λ j. get_or bits j 0) f.start (f.end - f.start) + reserve ≤ 81600
