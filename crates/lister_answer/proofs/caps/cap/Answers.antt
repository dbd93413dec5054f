-- `lister_answer::caps::cap`: the product stays within 32 bits by the bounds of its factors. Assumes nothing.
use mathlib.Core.Path.{ap, ◌∙◌}
use native.Mathlib.Omega.{arith}
use lib.IntN.{pos}
use mir.Syntax.{w32}
use mir.ValLaws.{to_z_pos}
use Rattle.lister_answer.proofs.CapLaws.{CapProducts, cap_products, cap-is}
use Rattle.lister_answer.proofs.caps.cap.Goals as goal
use Rattle.lister_answer.proofs.caps.cap.Goals.{After-pow2}

-- the products of this cap, by what the three calls give
products : (c : After-pow2)
    → CapProducts c.cap_of-entry.result c.args.c c.width_of.result c.pow2.result
products c =
    let a = c.args in
    let e = c.cap_of-entry.ensures in
    let k = c.width_of.ensures in
    rw c.pow2.ensures
    (cap_products c.cap_of-entry.result a.c c.width_of.result a.lm (omega arith) (omega arith) (omega arith) (omega arith))

pub returns : goal.returns
returns c =
    let a = c.args in
    to_z_pos w32 _ (omega (arith, (products (goal.at.returns c).After-pow2).whole))
    ∙ ap pos (cap-is a.c a.lm a.j c.cap_of-entry.ensures.0 c.width_of.ensures.0 c.pow2.ensures)
