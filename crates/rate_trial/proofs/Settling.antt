-- The lists that were filled are those that the next step asks for, and its sum is within the budget. Assumes nothing.
use Prim.Native.Nat.{ℕ, ◌-◌, ◌≤◌, ◌<◌}
use mathlib.Core.List.{List, []}
use mathlib.Core.Path.{◌≡◌, refl, ap, ◌∙◌, subst⁻¹}
use native.Mathlib.Omega.{arith}
use lib.ListN.{replicate}
use Rattle.laws.proofs.Lists.{fill-same}
use Rattle.laws.proofs.Sums.{sum_same}
use Rattle.laws.specs.Lists.{fill}
use Rattle.laws.specs.Places.{sum_of}
use Rattle.rate_spec.specs.Alloc.{first_round}
use Rattle.rate_spec.specs.Types.{AllocIn}
use Rattle.rate_spec.specs.Reserves.{budget}
use Rattle.rate_spec.specs.Trials.{bits_of, kept_bits, sixtyfourths, vector}
use Rattle.rate_spec.specs.Vectors.{threshold, trim_down, trim_up}
use Rattle.rate_spec.proofs.Within.{first-within}
use Rattle.rate_bands.specs.Inputs.{AllocCountsOk, AllocListsOk, bare, alloc_in}
use Rattle.rate_bands.specs.Tilts.{Neighbours, Tilts, scale}
use Rattle.rate_bands.specs.declared.AllocCounts.{AllocCounts}
use Rattle.rate_bands.proofs.Frames.{in_ok, threshold-bare}
use Rattle.rate_bands.proofs.Listed.{filled}
use Rattle.rate_trial.specs.Points.{point_bits}
use Rattle.rate_trial.proofs.Points.{point_keeps}

-- a list of 21 zeros
abbrev pub zeros : List ℕ
zeros = replicate 21 0

-- thresholds look at no list
pub thresholds_are : (f : AllocCounts) (offsets caps l₀ : List ℕ) {l : List ℕ} → l ≡ fill (threshold (bare f)) f.start (f.end - f.start) l₀
    → l ≡ fill (threshold (alloc_in f offsets caps)) f.start (f.end - f.start) l₀
thresholds_are f offsets caps l₀ e = e ∙ ap (λ (h : ℕ → ℕ). fill h f.start (f.end - f.start) l₀) (threshold-bare f offsets caps)

-- the lists of scales and trims
pub tilts_are : (a : AllocIn) → a.end ≤ 21 → {scales ups downs : List ℕ} → scales ≡ fill (scale a) a.start (a.end - a.start) zeros
    → ups ≡ fill (trim_up a) a.start (a.end - a.start) zeros → downs ≡ fill (trim_down a) a.start (a.end - a.start) zeros
    → Tilts a scales ups downs
tilts_are a end-le p q r =
    record {
      scales_are = filled a (scale a) zeros end-le refl p;
      ups_are = filled a (trim_up a) zeros end-le refl q;
      downs_are = filled a (trim_down a) zeros end-le refl r;
    }

module _ (f : AllocCounts) (offsets caps : List ℕ) (g : AllocCountsOk f) (k : AllocListsOk offsets caps) where
  -- the bits that the two searches lead to
  module _ {v q : ℕ} {lows gaps : List ℕ} (h : Neighbours (alloc_in f offsets caps) v lows gaps) (p : v ≡ (vector (alloc_in f offsets caps)).0)
      (e : q ≡ sixtyfourths (alloc_in f offsets caps) v) where
    bits_are : (j : ℕ) → f.start ≤ j → j < f.end → kept_bits (alloc_in f [] caps) (point_bits lows gaps q) j ≡ bits_of (alloc_in f offsets caps) j
    unfolding bits_of
    bits_are j u w = point_keeps f offsets caps g k v h q j u w ∙ rw (e, p)

    -- the list of them
    pub written : (l : List ℕ) {b : List ℕ} → b ≡ fill (kept_bits (alloc_in f [] caps) (point_bits lows gaps q)) f.start (f.end - f.start) l
        → b ≡ fill (bits_of (alloc_in f offsets caps)) f.start (f.end - f.start) l
    written l r = r ∙ fill-same _ (bits_of (alloc_in f offsets caps)) (f.end - f.start) f.start l (λ i u w. bits_are i u (omega (arith, g.start-lt)))

    module _ {s : ℕ} (r : s ≡ sum_of (kept_bits (alloc_in f [] caps) (point_bits lows gaps q)) f.start (f.end - f.start)) where
      sum_is : s ≡ sum_of (bits_of (alloc_in f offsets caps)) f.start (f.end - f.start)
      sum_is = r ∙ sum_same _ (bits_of (alloc_in f offsets caps)) (f.end - f.start) f.start (λ i u w. bits_are i u (omega (arith, g.start-lt)))

      -- their sum is within the budget
      pub sum-within : s ≤ budget (alloc_in f offsets caps)
      sum-within = subst⁻¹ (λ (n : ℕ). n ≤ budget (alloc_in f offsets caps)) sum_is (first-within (alloc_in f offsets caps) (in_ok offsets caps g k))

      -- what is left of it
      pub left_is : {m : ℕ} → m ≡ budget (alloc_in f offsets caps) → m - s ≡ (first_round (alloc_in f offsets caps) (bits_of (alloc_in f offsets caps))).left
      unfolding first_round
      left_is w = rw (w, sum_is)
