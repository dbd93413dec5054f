-- Document 01, "Domain in numbers": the pair of a Laplace value is one of the coarse-energy model's. This is what the contracts cite;
-- modes/specs/EnergyModel.antt says which other forms of the pairs there are.
use Rattle.std.specs.Prelude.{ℕ, zero, suc, Bool, false, ◌&&◌, ◌||◌, eqb}
use Rattle.modes.specs.EnergyModel.{zero_at, decay_at}

-- the model's pair k
abbrev pub is_pair : ℕ → ℕ → ℕ → Bool
is_pair fs dec k = eqb (zero_at k) fs && eqb (decay_at k) dec

-- one of its first n pairs
unfoldable pub among : ℕ → ℕ → ℕ → Bool
among zero fs dec = false
among (suc n) fs dec = is_pair fs dec n || among n fs dec

-- one of its 168 pairs
unfoldable pub pair_known : ℕ → ℕ → Bool
pair_known fs dec = among 168 fs dec
