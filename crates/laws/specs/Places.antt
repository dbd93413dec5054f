-- What is done at each of n places from a start on.
use Rattle.std.specs.Prelude.{ℕ, zero, suc, ◌+◌}

-- f at each of them, one after the other
unfoldable pub over_places : {S : Type 0} → (ℕ → S → S) → ℕ → ℕ → S → S
over_places f start zero s = s
over_places f start (suc n) s = f (start + n) (over_places f start n s)

-- f summed over them
unfoldable pub sum_of : (ℕ → ℕ) → ℕ → ℕ → ℕ
sum_of f start zero = 0
sum_of f start (suc n) = f start + sum_of f (suc start) n
