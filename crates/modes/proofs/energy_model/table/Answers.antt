-- `modes::energy_model::table`: the const is the list of the definition, by computing. Assumes nothing.
use mathlib.Core.Path.{refl}
use Rattle.modes.specs.EnergyModel.{energy_model}
use Rattle.modes.proofs.energy_model.table.Goals as goal

pub returns : goal.returns
unfolding energy_model
returns c = refl
