-- `cwrs_counts::pvq_u`: rows and columns may change places, so the lower of the two picks the row. Assumes nothing.
use mathlib.Core.Path.{◌∙◌}
use native.Mathlib.Omega.{arith}
use Rattle.cwrs_counts.proofs.Recurrence.{U_sym}
use Rattle.cwrs_counts.proofs.pvq_u.Goals as goal

pub entry-requires-else-n-k : goal.entry-requires-else-n-k
entry-requires-else-n-k c = omega (arith, U_sym c.args.k c.args.n)

pub returns-else-n-k : goal.returns-else-n-k
returns-else-n-k c = c.entry-else-n-k.ensures ∙ U_sym c.args.k c.args.n
