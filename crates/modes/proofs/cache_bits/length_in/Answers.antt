-- `modes::cache_bits::length_in`: the lent table is the definition's list, and every entry of that is a byte. Assumes nothing.
use mathlib.Core.Path.{ap}
use native.Mathlib.Omega.{arith}
use lib.ListN.{length}
use Rattle.modes.specs.CacheBits.{row_length}
use Rattle.modes.proofs.Entries.{lent, read}
use Rattle.modes.proofs.CacheRule.{cache_bits-length, row-length-most}
use Rattle.modes.proofs.cache_bits.length_in.Goals as goal

pub bounds-t-start : goal.bounds-t-start
bounds-t-start c = omega (arith, ap length c.requires.0, cache_bits-length)

pub returns : goal.returns
unfolding row_length
returns c =
    let a = c.args in
    read (lent a.start c.requires.0 c.long.ensures) (row-length-most a.start)
