-- A point between two allocation vectors as code has it, and a trial at it in two parts, at the highest band that has its threshold.
use Rattle.std.specs.Prelude.{ℕ, ◌+◌, ◌-◌, ◌*◌, ◌/◌, ◌≤◌, ◌<◌, min, true, false, List, ◌≡◌, get_or}
use Rattle.laws.specs.Places.{sum_of}
use Rattle.rate_spec.specs.Types.{AllocIn}
use Rattle.rate_spec.specs.Trials.{floored, reached}
use Rattle.rate_bands.specs.declared.AllocCounts.{AllocCounts}

-- band j's bits: its entry of `lows`, and q 64ths of its entry of `gaps`
abbrev pub point_bits : List ℕ → List ℕ → ℕ → ℕ → ℕ
point_bits lows gaps q j = get_or lows j 0 + q * get_or gaps j 0 / 64

-- what the code is asked: figures no larger than those of the domain, for the bands start..end-1
pub record PointOk (f : AllocCounts) (lows gaps : List ℕ) (q : ℕ) : Type 0 where
  pub q_le : q ≤ 64
  pub lows_le : (j : ℕ) → f.start ≤ j → j < f.end → get_or lows j 0 ≤ 103600
  pub gaps_le : (j : ℕ) → f.start ≤ j → j < f.end → get_or gaps j 0 ≤ 118767

-- x bits of band j, up to its cap
abbrev pub capped : List ℕ → (ℕ → ℕ) → ℕ → ℕ
capped caps x j = min (x j) (get_or caps j 0)

-- no band from b up has its threshold, the one below b has it if there is one, and the bands from b up take s
pub record TopOf (a : AllocIn) (x : ℕ → ℕ) (b s : ℕ) : Type 0 where
  pub start-le : a.start ≤ b
  pub le-end : b ≤ a.end
  pub none_above : reached a x b (a.end - b) ≡ false
  pub one_below : a.start < b → reached a x (b - 1) (a.end - (b - 1)) ≡ true
  pub sum_is : s ≡ sum_of (λ j. floored a (x j)) b (a.end - b)
  pub sum-le : s ≤ 16 * (a.end - b)
