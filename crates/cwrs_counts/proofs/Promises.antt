-- The promises of specs/Promises.antt, by the laws of the counts and the test of the table. Assumes nothing.
use Prim.Native.Nat.{zero, suc}
use mathlib.Core.Path.{refl}
use native.Mathlib.Omega.{arith}
use borrow.Author.Tests.{le-ltb}
use Rattle.cwrs_counts.specs.Count.{Vn, count32}
use Rattle.cwrs_counts.specs.Promises.{fewer, UCountsFewer, TableObeys, StoredAreCounts, StoredWhereFits, FitsDecided}
use Rattle.cwrs_counts.proofs.Recurrence.{U_s0, U_ss, V_is, V_some, count-is}
use Rattle.cwrs_counts.proofs.Table.{recurrence, value, held_iff}

-- a pulse more: the vectors with as many as there were may be among them too
pub u_counts_fewer : UCountsFewer
unfolding fewer
u_counts_fewer n zero = U_s0 n
u_counts_fewer n (suc k) = omega (arith, U_ss n k, V_is n k, u_counts_fewer n k)

-- by computing
pub table-obeys : TableObeys
table-obeys = recurrence

-- what the test tells of a place
pub stored_are_counts : StoredAreCounts
stored_are_counts a b h q = (value a b h q).0

-- a row ends where the next count would not fit
pub stored_where_fits : StoredWhereFits
stored_where_fits = held_iff

-- by the definition; one place or more has a vector
pub fits_decided : FitsDecided
unfolding count32
fits_decided n k p =
    (λ h. let e = count-is n k refl h in (e, omega (arith, e, V_some n k p)), λ h. rw (le-ltb (Vn n k) 4294967296 h))
