-- `stream_saved::writes::field`: the bits of a finite energy. Assumes nothing.
use mathlib.Core.Path.{sym, subst}
use lib.Dec.{T}
use Rattle.laws.proofs.Floats.{finite_no_nan}
use Rattle.stream_saved.proofs.writes.field.Goals as goal

pub float_to_bits-x : goal.float_to_bits-x
float_to_bits-x c = finite_no_nan _ (subst T (sym c.requires.1) tt)
