-- `modes::energy_model::pair_of`: the sum of the definition, by whether the frame is intra. Assumes nothing.
use borrow.Author.Rules.{rules}
use Rattle.modes.specs.EnergyModel.{pair_index}
use Rattle.modes.proofs.energy_model.pair_of.Goals as goal

pub returns-then-intra : goal.returns-then-intra
unfolding pair_index
returns-then-intra c = rw c.if-intra.true (search rules)

pub returns-else-intra : goal.returns-else-intra
unfolding pair_index
returns-else-intra c = rw c.if-intra.false (search rules)
