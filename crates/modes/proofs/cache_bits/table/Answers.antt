-- `modes::cache_bits::table`: the const is the list of the definition, by computing. Assumes nothing.
use mathlib.Core.Path.{refl}
use Rattle.modes.specs.CacheBits.{cache_bits}
use Rattle.modes.proofs.cache_bits.table.Goals as goal

pub returns : goal.returns
unfolding cache_bits
returns c = refl
