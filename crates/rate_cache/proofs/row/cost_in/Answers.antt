-- `rate_cache::row::cost_in`: 0, or the entry and one. Assumes nothing.
use mathlib.Core.Path.{sym}
use native.Mathlib.Omega.{arith}
use Rattle.rate_cache.proofs.Costs.{cost_none, cost_some}
use Rattle.rate_cache.proofs.row.cost_in.Goals as goal

pub returns-then-i-eq0 : goal.returns-then-i-eq0
returns-then-i-eq0 c = let s = c.args in (sym (cost_none s.start s.i c.if-i-eq0.true), omega arith)

pub returns : goal.returns
returns c =
    let s = c.args in
    (rw c.entry_in.ensures.0 (sym (cost_some s.start s.i (omega arith))), omega (arith, c.entry_in.ensures.1))
