-- `modes::fractions::fraction_of`: the const is the list of the definition, whose greatest entry is 37. Assumes nothing.
use Rattle.modes.specs.Fractions.{fractions, fraction}
use Rattle.modes.proofs.Entries.{read}
use Rattle.modes.proofs.FractionRule.{fraction-most}
use Rattle.modes.proofs.fractions.fraction_of.Goals as goal

pub returns : goal.returns
unfolding fraction fractions
returns c = read c.wide.ensures.0 (fraction-most c.args.n)
