-- One round of skipping, by what its flag says. Assumes nothing.
use Prim.Native.Nat.{ℕ, suc}
use mathlib.Core.Bool.{true, false}
use mathlib.Core.List.{[], ◌∷◌}
use mathlib.Core.Path.{◌≡◌}
use Rattle.rate_spec.specs.Types.{Ask, AllocIn}
use Rattle.rate_spec.specs.Skips.{Round, Skipped, asks, dropped, flag_of, skip, top_bits}

-- a flag said stop
abbrev pub stop_at : Round → Skipped
stop_at r = record { last = r; flags = true ∷ []; stopped = true }

-- a flag said go on, before all that came after
abbrev pub go_on : Skipped → Skipped
go_on k = record { last = k.last; flags = false ∷ k.flags; stopped = k.stopped }

module _ (a : AllocIn) (bits : ℕ → ℕ) {σ : Type 0} (A : Ask σ) (n : ℕ) (r : Round) (s : σ) where
  -- no flag: the band is dropped
  pub skip_unasked : asks a bits r ≡ false → skip a bits A (suc n) r s ≡ skip a bits A n (dropped a bits r) s
  unfolding skip flag_of
  skip_unasked p = rw p

  module _ (t : σ) (p : asks a bits r ≡ true) where
    -- it says stop
    pub skip_stop : A.skip r.coded (top_bits a bits r) s ≡ (true, t) → skip a bits A (suc n) r s ≡ (stop_at r, t)
    unfolding skip flag_of
    skip_stop q = rw (p, q)

    -- it says go on
    pub skip_on : A.skip r.coded (top_bits a bits r) s ≡ (false, t)
        → skip a bits A (suc n) r s ≡ (go_on (skip a bits A n (dropped a bits r) t).0, (skip a bits A n (dropped a bits r) t).1)
    unfolding skip flag_of
    skip_on q = rw (p, q)
