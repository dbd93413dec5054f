-- What was read from a table: the entry, and its bounds. Assumes nothing.
use Prim.Native.Nat.{ℕ, ◌≤◌}
use mathlib.Core.Path.{◌≡◌}
use mathlib.Core.List.{List}
use lib.ListN.{get_or}

-- from a lent list that is the table
pub lent : {l t : List ℕ} {r : ℕ} (k : ℕ) → l ≡ t → r ≡ get_or l k 0 → r ≡ get_or t k 0
lent k e h = rw e at h

-- with an upper bound
pub read : {r x m : ℕ} → r ≡ x → x ≤ m → (r ≡ x) × (r ≤ m)
read e h = (e, rw e h)

-- with a bound on each side
pub read_between : {r x n m : ℕ} → r ≡ x → n ≤ x → x ≤ m → (r ≡ x) × (n ≤ r) × (r ≤ m)
read_between e g h = (e, rw e g, rw e h)
