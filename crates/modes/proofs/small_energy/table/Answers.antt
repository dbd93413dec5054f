-- `modes::small_energy::table`: the const is the list of the definition, by computing. Assumes nothing.
use mathlib.Core.Path.{refl}
use Rattle.modes.specs.SmallEnergy.{small_energy}
use Rattle.modes.proofs.small_energy.table.Goals as goal

pub returns : goal.returns
unfolding small_energy
returns c = refl
