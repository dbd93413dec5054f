-- A trial and the last pass at a point: they look at no boost, and at the bands start..end-1 only. Assumes nothing.
use Prim.Native.Nat.{ℕ, zero, suc, ◌-◌, ◌≤◌, ◌<◌}
use mathlib.Core.Bool.{Bool}
use mathlib.Core.List.{List, []}
use mathlib.Core.Path.{◌≡◌, refl, ◌∙◌, ap}
use native.Mathlib.Omega.{arith}
use lib.Dec.{ltb}
use Rattle.laws.proofs.Sums.{sum_same}
use Rattle.rate_spec.specs.Reserves.{budget, dual_reserve, intensity_reserve, skip_reserve, stereo_fits}
use Rattle.rate_spec.specs.Trials.{floored, kept_bits, over, reached, trial_takes}
use Rattle.rate_spec.specs.Vectors.{interpolated, lower_bits, threshold}
use Rattle.rate_spec.proofs.Bounds.{high_le, low-le}
use Rattle.rate_spec.proofs.Same.{keeps_same, over-same}
use Rattle.rate_bands.specs.Inputs.{AllocCountsOk, AllocListsOk, alloc_in}
use Rattle.rate_bands.specs.Tilts.{Holds, Neighbours, gap}
use Rattle.rate_bands.specs.declared.AllocCounts.{AllocCounts}
use Rattle.rate_bands.proofs.Frames.{in_ok}
use Rattle.rate_trial.specs.Points.{PointOk, point_bits}

-- whether a band has its threshold depends on neither list
pub reached_any : (f : AllocCounts) (o p c d : List ℕ) (x : ℕ → ℕ) (n j : ℕ) → reached (alloc_in f o c) x j n ≡ reached (alloc_in f p d) x j n
unfolding reached threshold
reached_any f o p c d x zero j = refl
reached_any f o p c d x (suc n) j = rw (reached_any f o p c d x n (suc j))

-- a trial and the last pass do not look at the boosts
module _ (f : AllocCounts) (offsets caps : List ℕ) (x : ℕ → ℕ) where
  takes_any : (j : ℕ) → trial_takes (alloc_in f [] caps) x j ≡ trial_takes (alloc_in f offsets caps) x j
  unfolding trial_takes floored
  takes_any j = rw (reached_any f [] offsets caps caps x (f.end - j) j)

  keeps_any : (j : ℕ) → kept_bits (alloc_in f [] caps) x j ≡ kept_bits (alloc_in f offsets caps) x j
  unfolding kept_bits floored
  keeps_any j = rw (reached_any f [] offsets caps caps x (f.end - j) j)

  over_any : over (alloc_in f [] caps) x ≡ over (alloc_in f offsets caps) x
  unfolding over budget skip_reserve intensity_reserve dual_reserve stereo_fits
  over_any =
      ap (ltb (budget (alloc_in f [] caps)))
      (sum_same (trial_takes (alloc_in f [] caps) x) (trial_takes (alloc_in f offsets caps) x) (f.end - f.start) f.start (λ i p q. takes_any i))

module _ (f : AllocCounts) (offsets caps : List ℕ) (g : AllocCountsOk f) (k : AllocListsOk offsets caps) (v : ℕ) where
  -- at vector v: `lows` holds its bits, and no part of a gap is added
  module _ (lows : List ℕ) (h : Holds (alloc_in f offsets caps) (lower_bits (alloc_in f offsets caps) v) lows) where
    low_small : (j : ℕ) → f.start ≤ j → j < f.end → lower_bits (alloc_in f offsets caps) v j ≤ 103600
    low_small j p q = low-le (alloc_in f offsets caps) (in_ok offsets caps g k) v j

    -- the figures are small enough for a trial
    pub vector_ok : PointOk f lows lows 0
    vector_ok =
        record {
          q_le = omega arith;
          lows_le = λ j p q. rw (h j p q) (low_small j p q);
          gaps_le = λ j p q. rw (h j p q) (omega (arith, low_small j p q));
        }

  -- what a trial with `lows` says is what a trial of vector v says
  pub vector_says : {r : Bool} (lows : List ℕ) → Holds (alloc_in f offsets caps) (lower_bits (alloc_in f offsets caps) v) lows
      → r ≡ over (alloc_in f [] caps) (point_bits lows lows 0) → r ≡ over (alloc_in f offsets caps) (lower_bits (alloc_in f offsets caps) v)
  vector_says lows h p =
      p ∙ over_any f offsets caps (point_bits lows lows 0)
      ∙ over-same (alloc_in f offsets caps) (point_bits lows lows 0) (lower_bits (alloc_in f offsets caps) v) (omega (arith, g.start-lt))
      (λ i u w. omega (arith, h i u w))

  -- q 64ths of the way from vector v to the next
  module _ {lows gaps : List ℕ} (h : Neighbours (alloc_in f offsets caps) v lows gaps) (q : ℕ) where
    point_is : (j : ℕ) → f.start ≤ j → j < f.end → point_bits lows gaps q j ≡ interpolated (alloc_in f offsets caps) v q j
    unfolding interpolated gap
    point_is j p r = rw (h.lows_are j p r, h.gaps_are j p r)

    gap-small : (j : ℕ) → gap (alloc_in f offsets caps) v j ≤ 118767
    unfolding gap
    gap-small j = omega (arith, high_le (alloc_in f offsets caps) (in_ok offsets caps g k) (suc v) j)

    -- the figures are small enough for a trial
    pub point_ok : q ≤ 64 → PointOk f lows gaps q
    point_ok w =
        record {
          q_le = w;
          lows_le = λ j p r. rw (h.lows_are j p r) (low-le (alloc_in f offsets caps) (in_ok offsets caps g k) v j);
          gaps_le = λ j p r. rw (h.gaps_are j p r) (gap-small j);
        }

    -- what the trial says is what a trial of the interpolated bits says
    pub point_says : {r : Bool} → r ≡ over (alloc_in f [] caps) (point_bits lows gaps q)
        → r ≡ over (alloc_in f offsets caps) (interpolated (alloc_in f offsets caps) v q)
    point_says u =
        u ∙ over_any f offsets caps (point_bits lows gaps q)
        ∙ over-same (alloc_in f offsets caps) (point_bits lows gaps q) (interpolated (alloc_in f offsets caps) v q) (omega (arith, g.start-lt)) point_is

    -- what a band keeps of its bits there is what it keeps of the interpolated bits
    pub point_keeps : (j : ℕ) → f.start ≤ j → j < f.end
        → kept_bits (alloc_in f [] caps) (point_bits lows gaps q) j ≡ kept_bits (alloc_in f offsets caps) (interpolated (alloc_in f offsets caps) v q) j
    point_keeps j p r =
        keeps_any f offsets caps (point_bits lows gaps q) j
        ∙ keeps_same (alloc_in f offsets caps) (point_bits lows gaps q) (interpolated (alloc_in f offsets caps) v q) j r (λ i s t. point_is i (omega arith) t)
