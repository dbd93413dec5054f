-- `cwrs_counts::fits`: rows and columns may change places, so the lower of the two picks the row. Assumes nothing.
use Prim.Native.Nat.{ℕ}
use mathlib.Core.Path.{◌∙◌, ap}
use lib.Dec.{ltb}
use Rattle.cwrs_counts.proofs.Recurrence.{U_sym}
use Rattle.cwrs_counts.proofs.fits.Goals as goal

pub returns-else-n-k : goal.returns-else-n-k
returns-else-n-k c = c.held-else-n-k.ensures ∙ ap (λ (x : ℕ). ltb x 4294967296) (U_sym c.args.k c.args.n)
