-- `laplace::pairs::decays_of`: the last arm is reached where there is no row. Assumes nothing.
use borrow.Author.Rules.{rules}
use Rattle.laplace.specs.Rows.{decay_rows}
use Rattle.laplace.proofs.Looked.{missed}
use Rattle.laplace.proofs.pairs.decays_of.Goals as goal

pub returns-in_default : goal.returns-in_default
unfolding decay_rows
returns-in_default c = missed c.args.z (search rules)
