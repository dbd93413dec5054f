-- `stream_saved::restore`: a line of more than 390 bytes is malformed, and so is one without 44 fields. Assumes nothing.
use mathlib.Core.Path.{sym, ◌∙◌}
use Rattle.stream_saved.proofs.Energies.{malformed}
use Rattle.stream_saved.proofs.Short.{long-malformed}
use Rattle.stream_saved.proofs.restore.Goals as goal

pub returns-then-s-gt390 : goal.returns-then-s-gt390
returns-then-s-gt390 c = c.refused.ensures ∙ sym (long-malformed c.args.s.now c.if-s-gt390.true)

pub returns-else-count-eq44 : goal.returns-else-count-eq44
returns-else-count-eq44 c =
    c.refused-else-count-eq44.ensures ∙ malformed c.args.s.now (λ e. c.if-count-eq44.false (c.count.ensures ∙ e))
