-- A Laplace value and its count, and a part of a list. Assumes nothing.
use Prim.Native.Nat.{ℕ, ◌+◌, ◌-◌, ◌/◌, ◌%◌, ◌≤◌}
use mathlib.Core.Path.{◌≡◌, sym, ◌∙◌}
use mathlib.Core.Bool.{true, false}
use mathlib.Core.List.{List}
use native.Mathlib.Omega.{arith}
use lib.ListN.{length, length-take, take}
use borrow.Author.Tests.{eq-eqb, ne_eqb}
use Rattle.laws.specs.Signs.{with_sign}
use Rattle.laws.proofs.Signs.{neg_value}
use Rattle.laplace.specs.Model.{value_at}

-- ---- values

-- an even count is of half of it, not negative
pub value_even : (v : ℕ) → v % 2 ≡ 0 → with_sign false (v / 2) ≡ value_at v
unfolding value_at
value_even v h = rw (eq-eqb (v % 2) 0 h)

-- an odd one of a negative value
pub value-odd : (v : ℕ) → (v % 2 ≡ 0 → ⊥) → with_sign true (v / 2 + 1) ≡ value_at v
unfolding value_at
value-odd v h =
    let e : v / 2 + 1 - 1 ≡ v / 2 = omega arith in
    rw (ne_eqb (v % 2) 0 h) (sym (neg_value (v / 2 + 1) (omega arith)) ∙ rw e)

-- ---- parts

-- a part of room for 1,275
pub room-part : (n : ℕ) (l : List ℕ) → length l ≡ 1275 → n ≤ 1275 → n ≡ length (take n l)
room-part n l e h = simp length-take (omega arith)
