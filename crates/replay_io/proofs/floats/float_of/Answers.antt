-- `replay_io::floats::float_of`: up to the infinity's bits there is no NaN. Assumes nothing.
use lib.Ieee.{nan_bits}
use Rattle.laws.proofs.Floats.{bits_no_nan}
use Rattle.replay_io.proofs.floats.float_of.Goals as goal

pub float_from_bits-result : goal.float_from_bits-result
float_from_bits-result c = bits_no_nan c.args.bits c.if-bits-le2139095040.true

pub float_from_bits-top : goal.float_from_bits-top
unfolding nan_bits
float_from_bits-top c = tt
