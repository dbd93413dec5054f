-- The index whose entry is nearest to a figure b, in a row that does not fall and in which an entry may stand several times. This says which index
-- it is, not how it is found.
use Rattle.std.specs.Prelude.{ℕ, zero, suc, ◌-◌, cond, ℤ, ◌-ℤ◌}
use Rattle.std.specs.Int.Signed.{lt_z, le_z}

module _ (entry : ℕ → ℤ) (b : ℤ) where
  -- the last index up to n that still has an entry below b; index 0 stands for none
  unfoldable pub low : ℕ → ℕ
  low zero = 0
  low (suc n) = cond (lt_z (entry (suc n)) b) (suc n) (low n)

  -- the first of the n indices from i on that has an entry of b or more; i + n stands for none
  unfoldable pub high : ℕ → ℕ → ℕ
  high i zero = i
  high i (suc n) = cond (le_z b (entry i)) i (high (suc i) n)

  -- of an index with an entry below b and one with an entry above, the nearer; at the same distance the first
  unfoldable pub nearer : ℕ → ℕ → ℕ
  nearer lo hi = cond (le_z (b -ℤ entry lo) (entry hi -ℤ b)) lo hi

  -- over the indices 0..n of a row; above b index 0 is not looked at, and the last stands for none
  unfoldable pub nearest : ℕ → ℕ
  nearest n = nearer (low n) (high 1 (n - 1))
