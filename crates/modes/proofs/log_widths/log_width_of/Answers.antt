-- `modes::log_widths::log_width_of`: the const is the list of the definition, whose greatest entry is 36. Assumes nothing.
use Rattle.modes.specs.LogWidths.{log_widths, log_width}
use Rattle.modes.proofs.Entries.{read}
use Rattle.modes.proofs.LogWidthRule.{log_width-most}
use Rattle.modes.proofs.log_widths.log_width_of.Goals as goal

pub returns : goal.returns
unfolding log_width log_widths
returns c = read c.wide.ensures.0 (log_width-most c.args.j)
