-- `trip_call::shares::same_ints`: slices are equal where all entries are. Assumes nothing.
use mathlib.Core.Path.{◌∙◌}
use Rattle.trip_call.proofs.Sharing.{ints-eq}
use Rattle.trip_call.proofs.shares.same_ints.Goals as goal

pub returns : goal.returns
returns c = c.eq.ensures ∙ ints-eq c.args.x.now c.args.y.now
