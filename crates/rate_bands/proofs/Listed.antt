-- A list that was filled over a frame's bands holds the figures there. Assumes nothing.
use Prim.Native.Nat.{ℕ, ◌-◌, ◌≤◌}
use mathlib.Core.List.{List}
use mathlib.Core.Path.{◌≡◌, ap, ◌∙◌}
use native.Mathlib.Omega.{arith}
use lib.ListN.{get_or, length}
use Rattle.laws.proofs.Lists.{fill_in, fill-length}
use Rattle.laws.specs.Lists.{fill}
use Rattle.rate_spec.specs.Types.{AllocIn}
use Rattle.rate_bands.specs.Tilts.{Holds}

-- a filled list is as long as it was
pub filled-length : {A : Type 0} (f : ℕ → A) (n start : ℕ) (m : List A) {l : List A} → l ≡ fill f start n m → length l ≡ length m
filled-length f n start m e = ap length e ∙ fill-length f n start m

module _ (a : AllocIn) where
  -- a list of 21 that was filled holds the figures of the bands
  pub filled : (h : ℕ → ℕ) (l₀ : List ℕ) {l : List ℕ} → a.end ≤ 21 → length l₀ ≡ 21 → l ≡ fill h a.start (a.end - a.start) l₀ → Holds a h l
  filled h l₀ g n e j p q =
      ap (λ (k : List ℕ). get_or k j 0) e ∙ fill_in h (a.end - a.start) a.start j l₀ 0 p (omega arith) (omega arith)
