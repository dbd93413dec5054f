-- The logarithms of the bands' widths are logarithms in eighths, rounded up. Assumes nothing.
use Prim.Native.Nat.{ℕ, ◌≤◌, ◌<◌}
use mathlib.Core.Path.{◌≡◌, refl}
use mathlib.Core.Bool.{true}
use Rattle.laws.specs.Lists.{every}
use Rattle.laws.proofs.Lists.{entry-le}
use Rattle.laws.proofs.Tables.{below_at}
use Rattle.modes.specs.Edges.{edges, edge, width}
use Rattle.modes.specs.Eighths.{is_log}
use Rattle.modes.specs.LogWidths.{log_widths, log_width}

-- entry j is log2 of band j's width in eighths, rounded up
pub log_width-is : (j : ℕ) → j < 21 → is_log (width j) (log_width j) ≡ true
unfolding log_width log_widths width edge edges is_log
log_width-is = below_at (λ j. is_log (width j) (log_width j)) 21 refl

-- the widest band has the greatest
pub log_width-most : (j : ℕ) → log_width j ≤ 36
unfolding log_width log_widths every
log_width-most = entry-le 36 log_widths refl
