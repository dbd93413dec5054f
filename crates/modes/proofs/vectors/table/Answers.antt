-- `modes::vectors::table`: the const is the list of the definition, by computing. Assumes nothing.
use mathlib.Core.Path.{refl}
use Rattle.modes.specs.Vectors.{vectors}
use Rattle.modes.proofs.vectors.table.Goals as goal

pub returns : goal.returns
unfolding vectors
returns c = refl
