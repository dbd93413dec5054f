-- A logarithm to the base 2 in eighths, rounded up, as the coder counts bits.
use Rattle.std.specs.Prelude.{ℕ, ◌-◌, ◌^◌, Bool, ◌&&◌, ◌||◌, leb, ltb, eqb}

-- l is the least figure with x ≤ 2 ^ (l / 8)
unfoldable pub is_log : ℕ → ℕ → Bool
is_log x l = leb (x ^ 8) (2 ^ l) && (eqb l 0 || ltb (2 ^ (l - 1)) (x ^ 8))
