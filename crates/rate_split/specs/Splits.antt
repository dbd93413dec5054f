-- A band's part and a share as the definition has them, and the sizes of a band.
use Rattle.std.specs.Prelude.{ℕ, ◌+◌, ◌-◌, ◌*◌, ◌/◌, ◌%◌, ◌≤◌, min, Bool, cond, not, ◌&&◌, ltb, eqb}
use Rattle.modes.specs.Edges.{edge}
use Rattle.rate_spec.specs.Types.{Band}
use Rattle.rate_split.specs.declared.BandSplit.{BandSplit}
use Rattle.rate_split.specs.declared.Share.{Share}

-- the code's struct as the definition's record
abbrev pub as_band : BandSplit → Band
as_band p = record { pulses = p.pulses; fine = p.fine; prio = p.prio; balance = p.balance }

-- channels, degrees of freedom and logarithm of a band
pub record Sized (c den lg : ℕ) : Type 0 where
  pub c_low : 1 ≤ c
  pub c_le : c ≤ 2
  pub den-low : 1 ≤ den
  pub den-le : den ≤ 353
  pub lg_le : lg ≤ 60

-- what is left, over the coefficients of the bands start..coded-1
abbrev pub share_of : ℕ → ℕ → ℕ → Share
share_of start coded left = record { each = left / (edge coded - edge start); rest = left % (edge coded - edge start); first = edge start }

-- b bits and the share of the coefficients from lo up to hi
abbrev pub with_share : Share → ℕ → ℕ → ℕ → ℕ
with_share g b lo hi = b + g.each * (hi - lo) + min (g.rest - (lo - g.first)) (hi - lo)

-- the definition's degrees of freedom, of band j with n coefficients
abbrev pub degrees_of : ℕ → ℕ → ℕ → Bool → ℕ → ℕ
degrees_of c n intensity dual j = c * n + cond (eqb c 2 && ltb 2 n && not dual && ltb j intensity) 1 0
