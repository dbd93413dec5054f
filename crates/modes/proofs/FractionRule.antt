-- The costs of a choice are logarithms in eighths, rounded up; so they never fall. Assumes nothing.
use Prim.Native.Nat.{ℕ, suc, ◌≤◌, ◌<◌}
use mathlib.Core.Path.{◌≡◌, refl}
use mathlib.Core.Bool.{true}
use Rattle.laws.specs.Lists.{every}
use Rattle.laws.proofs.Lists.{entry-le}
use Rattle.laws.proofs.Tables.{below_at, rises}
use Rattle.modes.specs.Eighths.{is_log}
use Rattle.modes.specs.Fractions.{fractions, fraction}

-- entry n is log2 (n + 1) in eighths, rounded up
pub fraction-is : (n : ℕ) → n < 24 → is_log (suc n) (fraction n) ≡ true
unfolding fraction fractions is_log
fraction-is = below_at (λ n. is_log (suc n) (fraction n)) 24 refl

-- a choice among more values costs no less
pub fraction-le : (m n : ℕ) → m ≤ n → n ≤ 23 → fraction m ≤ fraction n
unfolding fraction fractions
fraction-le = rises fraction 23 refl

-- none costs more than 37 eighths
pub fraction-most : (n : ℕ) → fraction n ≤ 37
unfolding fraction fractions every
fraction-most = entry-le 37 fractions refl
