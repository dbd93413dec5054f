-- `rate_split::shares::share_of`: the coded bands have coefficients, so that there is no division by 0. Assumes nothing.
use native.Mathlib.Omega.{arith}
use Rattle.modes.proofs.EdgeRule.{edge-lt}
use Rattle.rate_split.proofs.shares.share_of.Goals as goal

pub overflow_sub-w : goal.overflow_sub-w
overflow_sub-w c = omega (arith, edge-lt c.args.start c.args.coded (omega arith) (omega arith))

pub nonzero_div-result : goal.nonzero_div-result
nonzero_div-result c = omega (arith, edge-lt c.args.start c.args.coded (omega arith) (omega arith))

pub nonzero_rem-result : goal.nonzero_rem-result
nonzero_rem-result c = omega (arith, edge-lt c.args.start c.args.coded (omega arith) (omega arith))
