-- The three-way table of the coarse energies, RFC 6716, section 4.3.2.1 (small_energy_icdf), for when too few bits are left for a Laplace value:
-- read with ftb 2.
use Rattle.std.specs.Prelude.{ℕ, List, [], ◌∷◌}

-- how much of 4 lies above each symbol
unfoldable pub small_energy : List ℕ
small_energy = 2 ∷ 1 ∷ 0 ∷ []
