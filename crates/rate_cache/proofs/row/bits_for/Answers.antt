-- `rate_cache::row::bits_for`: 0, or one entry of the number that has it, and one. Assumes nothing.
use Prim.Native.Nat.{◌+◌}
use mathlib.Core.Path.{sym}
use native.Mathlib.Omega.{arith}
use Rattle.modes.specs.CacheBits.{row_entry}
use Rattle.rate_cache.proofs.Costs.{cost_none, cost_some}
use Rattle.rate_cache.proofs.Packings.{entry_in}
use Rattle.rate_cache.proofs.row.bits_for.Goals as goal

pub returns-then-pulses-eq0 : goal.returns-then-pulses-eq0
returns-then-pulses-eq0 c = let a = c.args in sym (cost_none a.start a.pulses c.if-pulses-eq0.true)

pub returns : goal.returns
unfolding row_entry
returns c =
    let a = c.args in
    rw (c.eight_entries-w.ensures, entry_in (a.start + a.pulses) c.requires) (sym (cost_some a.start a.pulses (omega arith)))
