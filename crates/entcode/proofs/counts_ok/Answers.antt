-- `entcode::counts_ok`: the code has the tests in the order of the definition. Assumes nothing.
use mathlib.Core.Path.{refl}
use Rattle.entcode.specs.Counts.{counts_ok}
use Rattle.entcode.proofs.counts_ok.Goals as goal

pub returns : goal.returns
unfolding counts_ok
returns c = refl
