-- The allocation vectors: the first is zero, none has more than 200 for a band, and no later one has less. Assumes nothing.
use Prim.Native.Nat.{ℕ, suc, ◌+◌, ◌*◌, ◌≤◌, ◌<◌}
use mathlib.Core.Path.{◌≡◌, refl}
use mathlib.Core.Bool.{true}
use lib.Dec.{leb, eqb}
use lib.ListN.{length}
use borrow.Author.Tests.{eqb-true}
use Rattle.laws.specs.Lists.{every}
use Rattle.laws.proofs.Lists.{entry-le}
use Rattle.laws.proofs.Tables.{run, below_at, rises}
use Rattle.modes.specs.Vectors.{vectors, vector_entry}

-- 11 rows of 21
pub vectors-length : length vectors ≡ 231
unfolding vectors
vectors-length = refl

-- the first vector is zero
pub step-first : (j : ℕ) → j < 21 → vector_entry 0 j ≡ 0
unfolding vector_entry vectors
step-first j h = eqb-true (vector_entry 0 j) 0 (below_at (λ i. eqb (vector_entry 0 i) 0) 21 refl j h)

-- no entry is above 200
pub step-most : (v j : ℕ) → vector_entry v j ≤ 200
unfolding vector_entry vectors every
step-most v j = entry-le 200 vectors refl (21 * v + j)

-- band j's steps from one vector to the next never fall
rows_rise : run (λ j. run (λ v. leb (vector_entry v j) (vector_entry (suc v) j)) 0 10) 0 21 ≡ true
unfolding vector_entry vectors
rows_rise = refl

-- so a later vector gives a band no less
pub step-le : (j : ℕ) → j < 21 → (v w : ℕ) → v ≤ w → w ≤ 10 → vector_entry v j ≤ vector_entry w j
step-le j h = rises (λ v. vector_entry v j) 10 (below_at (λ j. run (λ v. leb (vector_entry v j) (vector_entry (suc v) j)) 0 10) 21 rows_rise j h)
