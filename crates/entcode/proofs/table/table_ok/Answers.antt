-- `entcode::table::table_ok`: from 2^8 on the bound on the first byte says nothing. Assumes nothing.
use mathlib.Core.Path.{◌∙◌}
use native.Mathlib.Omega.{arith}
use Rattle.entcode.proofs.Falling.{falls-top}
use Rattle.entcode.proofs.table.table_ok.Goals as goal

pub returns-else-ftb-lt8 : goal.returns-else-ftb-lt8
returns-else-ftb-lt8 c =
    let a = c.args in
    c.falls_from-else-ftb-lt8.ensures ∙ falls-top a.ftb a.t.now (omega arith) (omega (arith, c.shared_slice_known-1.given 0))
