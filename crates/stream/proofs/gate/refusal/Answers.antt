-- `stream::gate::refusal`: the tests, in the order of the refusals. Assumes nothing.
use mathlib.Core.Bool.{true}
use mathlib.Core.Path.{◌≡◌}
use mir.Facts.{to_z-of_z}
use Rattle.entdec.specs.Rule.{read_refusal}
use Rattle.entcode.specs.Said.{verdict}
use Rattle.stream.proofs.gate.refusal.Goals as goal

-- found without it too: it stands so that a wrong edit fails by this fact, and not by a limit of the search
pub returns : goal.returns
returns c =
    let f = c.ranges in
    let a = c.args in
    let e = rw (to_z-of_z f.c, to_z-of_z f.lm, to_z-of_z f.start, to_z-of_z f.end, to_z-of_z f.intra) at c.numbers_ok-known.ensures in
    let r : verdict c.refusal.result
    ≡ read_refusal a.bytes a.d true c.numbers_ok-known.result c.all_finite-finite.result (verdict c.order_of-special.result) =
    c.refusal.ensures in
    rw (e, c.all_finite-finite.ensures, c.order_of-special.ensures) at r
