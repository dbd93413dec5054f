-- The rows of the stored counts, and their lengths, as the arms of a match. Assumes nothing.
use Prim.Native.Nat.{ℕ, ◌*◌, ◌≤◌}
use mathlib.Core.Path.{◌≡◌, sym, ap}
use mathlib.Core.Bool.{true}
use mathlib.Core.List.{List, []}
use native.Mathlib.Omega.{arith}
use lib.Dec.{leb}
use lib.ListN.{length, drop, drop_of_length-le, get_or-eq_default}
use borrow.Author.Tests.{leb-true}
use Rattle.cwrs_counts.specs.Table.{counts}
use Rattle.cwrs_counts.specs.Rows.{row_at, len_at, packed_pair, packed_at}

-- an arm of a row: g is its number
pub hit : (a g : ℕ) {k w : ℕ} → g ≡ k → w ≡ packed_at a k → w ≡ packed_at a g
hit a g e h = rw e h

-- an arm of the lengths
pub long : (a : ℕ) {k w : ℕ} → a ≡ k → w ≡ len_at k → w ≡ len_at a
long a e h = rw e h

-- the last arm of a row: m pairs are the whole of it, and g is none of them
pub missed : (a m : ℕ) → leb (length (row_at a)) (2 * m) ≡ true → (g : ℕ) → m ≤ g → 0 ≡ packed_at a g
unfolding packed_at
missed a m t g h =
    let e : drop (2 * g) (row_at a) ≡ [] =
    drop_of_length-le (row_at a) {i = 2 * g} (omega (arith, leb-true (length (row_at a)) (2 * m) t))
    in
    sym (ap packed_pair e)

-- the last arm of the lengths: a is none of the rows
pub no_row : (a : ℕ) → 15 ≤ a → 0 ≡ len_at a
unfolding counts
no_row a h = sym (ap (λ (r : List ℕ). length r) (get_or-eq_default counts [] {n = a} h))
