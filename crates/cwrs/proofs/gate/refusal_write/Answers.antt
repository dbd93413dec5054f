-- `cwrs::gate::refusal_write`: the vector is looked at only where its length is right, and the order of the refusals is the definition's. Assumes nothing.
use mathlib.Core.Path.{sym, ◌∙◌}
use Rattle.cwrs.specs.Answer.{in_domain, places_sized, special_write}
use Rattle.cwrs.proofs.Refusing.{late_write}
use Rattle.entenc.proofs.Lengths.{wrong_lengths}
use Rattle.cwrs.proofs.gate.refusal_write.Goals as goal

pub returns-then-sized : goal.returns-then-sized
returns-then-sized c =
    let a = c.args in
    let y = a.y.now in
    c.refusal.ensures
    ∙ late_write a.bytes a.w (places_sized y) (in_domain a.n a.k) (special_write y a.n a.k) c.in_domain.ensures
    c.special_write-special.ensures

pub returns : goal.returns
returns c = sym (wrong_lengths _ _ _ _ _ _ (sym c.sized.ensures ∙ c.if-sized.false))
