-- `stream::Record::fresh`: the definition itself, a zero by its bits. Assumes nothing.
use mathlib.Core.Path.{refl}
use lib.Ieee.{of_bits}
use Rattle.stream.specs.Frame.{fresh}
use Rattle.stream.proofs.Record.fresh.Goals as goal

pub returns : goal.returns
unfolding fresh of_bits
returns c = refl
