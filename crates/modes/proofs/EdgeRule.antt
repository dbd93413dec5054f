-- The edges rise strictly from 0 to 100, and no band is wider than 22. Assumes nothing.
use Prim.Native.Nat.{ℕ, suc, ◌+◌, ◌≤◌, ◌<◌}
use mathlib.Core.Path.{◌≡◌, refl}
use mathlib.Core.Bool.{true}
use native.Mathlib.Omega.{arith}
use lib.Dec.{leb, ltb}
use lib.ListN.{get_or-eq_default}
use borrow.Author.Tests.{leb-true}
use Rattle.laws.specs.Lists.{every}
use Rattle.laws.proofs.Lists.{entry-le}
use Rattle.laws.proofs.Tables.{run, below_at, rises_from, rises_strictly}
use Rattle.laws.proofs.Tests.{by_le}
use Rattle.modes.specs.Edges.{edges, edge, width}

-- the computed test: each edge is below the next
edges_rise : run (λ i. ltb (edge i) (edge (suc i))) 0 21 ≡ true
unfolding edge edges
edges_rise = refl

-- so any edge is below any later one
pub edge-lt : (i j : ℕ) → i < j → j ≤ 21 → edge i < edge j
edge-lt = rises_strictly edge 21 edges_rise

-- the same with equal edges allowed
pub edge-le : (i j : ℕ) → i ≤ j → j ≤ 21 → edge i ≤ edge j
edge-le = rises_from edge 21 (λ i h. omega (arith, edge-lt i (suc i) (omega arith) h))

-- the last edge is the greatest
pub edge-most : (j : ℕ) → edge j ≤ 100
unfolding edge edges every
edge-most = entry-le 100 edges refl

-- the next band begins where this one ends
pub edge-next : (j : ℕ) → j < 21 → edge (suc j) ≡ edge j + width j
unfolding width
edge-next j h = omega (arith, edge-lt j (suc j) (omega arith) h)

-- no band is empty
pub width_some : (j : ℕ) → j < 21 → 1 ≤ width j
unfolding width
width_some j h = omega (arith, edge-lt j (suc j) (omega arith) h)

-- the widest band has 22 coefficients
band-most : (j : ℕ) → j < 21 → width j ≤ 22
unfolding width edge edges
band-most j h = leb-true (width j) 22 (below_at (λ i. leb (width i) 22) 21 refl j h)

-- past the last edge 0 is read
edge-past : (j : ℕ) → 22 ≤ j → edge j ≡ 0
unfolding edge edges
edge-past j h = get_or-eq_default edges 0 h

-- past the last band too, where the width reads as 0
pub width-most : (j : ℕ) → width j ≤ 22
unfolding width
width-most j = by_le 21 j (λ h. omega (arith, edge-past (suc j) (omega arith))) (λ h. band-most j h)
