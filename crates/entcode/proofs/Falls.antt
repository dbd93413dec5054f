-- A table that falls strictly to 0: each entry is below the one before it. Assumes nothing.
use Prim.Native.Nat.{ℕ, zero, suc, ◌≤◌, ◌<◌}
use mathlib.Core.Path.{◌≡◌}
use mathlib.Core.Bool.{true, and-eq-true_iff}
use mathlib.Core.List.{List, [], ◌∷◌}
use native.Mathlib.Omega.{arith}
use lib.ListN.{length, get_or}
use lib.Dec.{ltb}
use borrow.Author.Tests.{ltb-true}
use Rattle.entcode.specs.Sym.{falls}

-- entry v is below the one before it, and that is at most p
pub record Entry (p : ℕ) (t : List ℕ) (v : ℕ) : Type 0 where
  pub lt : get_or t v 0 < get_or (p ∷ t) v 0
  pub le : get_or (p ∷ t) v 0 ≤ p

-- every entry of such a table
pub entry : (p : ℕ) (t : List ℕ) (v : ℕ) → falls p t ≡ true → v < length t → Entry p t v
unfolding falls
entry p [] v e h = absurd (omega arith)
entry p (x ∷ xs) zero e h = record { lt = ltb-true x p ((and-eq-true_iff (ltb x p) (falls x xs)).0 e).0; le = omega arith }
entry p (x ∷ xs) (suc v) e h =
    let b = (and-eq-true_iff (ltb x p) (falls x xs)).0 e in
    let a = ltb-true x p b.0 in
    let n = entry x xs v b.1 (omega arith) in
    record { lt = n.lt; le = omega (arith, n.le) }
