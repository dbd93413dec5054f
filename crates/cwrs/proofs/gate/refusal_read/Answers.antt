-- `cwrs::gate::refusal_read`: the test of the count matters only where lengths and numbers are right. Assumes nothing.
use mathlib.Core.Path.{◌∙◌}
use lib.Dec.{eqb}
use Rattle.cwrs.specs.Answer.{in_domain, special_read}
use Rattle.cwrs.proofs.Refusing.{late_read}
use Rattle.cwrs.proofs.gate.refusal_read.Goals as goal

pub returns : goal.returns
returns c =
    let a = c.args in
    c.refusal.ensures
    ∙ late_read a.bytes a.d (eqb a.places 176) (in_domain a.n a.k) (special_read a.n a.k) c.in_domain.ensures
    c.special_read-special.ensures
