-- The symbols of an allocation, in the order coded: its skip flags, then intensity and dual stereo where they are coded. `bit` writes a flag,
-- `uniform` one of n values.
use Rattle.std.specs.Prelude.{ℕ, suc, ◌-◌, Bool, cond, List, [], ◌∷◌}
use Rattle.rate_spec.specs.Types.{AllocIn, AllocOut}

module _ {σ : Type 0} (bit : Bool → σ → σ) where
  -- the flags one after the other
  abbrev pub flags_written : List Bool → σ → σ
  flags_written [] s = s
  flags_written (f ∷ fs) s = flags_written fs (bit f s)

  -- dual stereo is a flag, after the others
  abbrev pub dual_written : AllocOut → σ → σ
  dual_written o s = cond o.dual_coded (bit o.dual s) s

module _ {σ : Type 0} (bit : Bool → σ → σ) (uniform : ℕ → ℕ → σ → σ) where
  -- intensity is one of the coded bands or the end of them, counted from start
  abbrev pub intensity_written : AllocIn → AllocOut → σ → σ
  intensity_written a o s = cond o.intensity_coded (uniform (suc o.coded - a.start) (o.intensity - a.start) s) s

  -- all symbols, in this order
  abbrev pub written : AllocIn → AllocOut → σ → σ
  written a o s = dual_written bit o (intensity_written a o (flags_written bit o.flags s))
