-- `entenc::Writer::refusal_table`: the lengths, and then the tests in the order of the refusals. Assumes nothing.
use mathlib.Core.Path.{sym, ◌∙◌}
use Rattle.entenc.proofs.Lengths.{wrong_lengths}
use Rattle.entenc.proofs.Writer.refusal_table.Goals as goal

pub returns : goal.returns
returns c = sym (wrong_lengths _ _ _ _ _ _ (sym c.sized.ensures ∙ c.if-sized.false))
