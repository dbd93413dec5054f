-- The steps to a band's fine bits and priority, put together. Assumes nothing.
use Prim.Native.Nat.{ℕ, ◌+◌, ◌-◌, ◌*◌, ◌/◌, min}
use mathlib.Core.Bool.{cond}
use mathlib.Core.Path.{◌≡◌}
use lib.Dec.{leb, ltb}
use Rattle.rate_spec.specs.Split.{with_offset, wanted, fine_of, prio_of}

module _ (c n den lg b : ℕ) {x w e : ℕ} (x-is : x ≡ with_offset n den lg b) (w-is : w ≡ (x - 17 * den) / den / 8)
    (e-is : e ≡ min 8 (cond (ltb (b / 8) (c * w)) (b / (8 * c)) w)) where
  -- the fine bits
  pub fine-is : e ≡ fine_of c n den lg b
  unfolding fine_of wanted
  fine-is = rw (← x-is, ← w-is) e-is

  -- the priority
  pub prio-is : {p : ℕ} → p ≡ cond (leb x (8 * den * e + 21 * den)) 1 0 → p ≡ prio_of c n den lg b
  unfolding prio_of
  prio-is h = rw (← x-is, ← fine-is) h
