-- `rate::gate::refusal_read`: the lengths, and then the tests in the order of the refusals. Assumes nothing.
use mathlib.Core.Path.{sym, ◌∙◌}
use Rattle.entdec.proofs.Lengths.{wrong_lengths}
use Rattle.rate.proofs.gate.refusal_read.Goals as goal

pub returns : goal.returns
returns c =
    let l = c.lengths_ok-lengths.ensures in
    let t = rw l at c.sized.ensures in
    sym (wrong_lengths _ _ _ _ _ _ (sym t ∙ c.if-sized.false))
