-- `entcode::table::falls_from`: what is left of the table falls from the last entry passed exactly when the whole falls from top. Assumes nothing.
use mathlib.Core.Path.{◌≡◌}
use lib.ListN.{drop}
use Rattle.entcode.specs.Sym.{falls}
use Rattle.entcode.proofs.table.falls_from.Given as goal

abbrev pub invariant-loop-b : goal.invariant-loop-b
invariant-loop-b l = falls l.top l.t ≡ falls l.p (drop l.b-index l.t)
