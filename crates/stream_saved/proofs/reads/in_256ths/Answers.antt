-- `stream_saved::reads::in_256ths`: the number and the quotient are exact. Assumes nothing.
use mir.Facts.{to_z-of_z}
use Rattle.stream_saved.proofs.Exact.{in_256ths-is}
use Rattle.stream_saved.proofs.reads.in_256ths.Goals as goal

pub returns : goal.returns
returns c = rw (to_z-of_z c.ranges.z) (in_256ths-is c.args.z c.requires)
