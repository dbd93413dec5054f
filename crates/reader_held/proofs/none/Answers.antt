-- `reader_held::none`: the numbers of a reader whose packet was refused. Assumes nothing.
use mathlib.Core.Path.{refl}
use Rattle.reader_held.specs.Held.{no_reader}
use Rattle.reader_held.proofs.none.Goals as goal

pub returns : goal.returns
unfolding no_reader
returns c = refl
