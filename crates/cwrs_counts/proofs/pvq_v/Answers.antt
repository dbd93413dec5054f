-- `cwrs_counts::pvq_v`: V is the sum of two neighbours of U, and the second of them is the greater. Assumes nothing.
use Prim.Native.Nat.{ℕ, ◌+◌, ◌≤◌, ◌<◌}
use mathlib.Core.Path.{◌≡◌, sym, ◌∙◌}
use native.Mathlib.Omega.{arith}
use borrow.Author.Tests.{ltb-true, ltb-false, lt-ltb, le-ltb}
use Rattle.cwrs_counts.specs.Count.{U, Vn, count32}
use Rattle.cwrs_counts.proofs.Recurrence.{up1', V_is'}
use Rattle.cwrs_counts.proofs.pvq_v.Goals as goal
use Rattle.cwrs_counts.proofs.pvq_v.Goals.{Then-fits}

count_fits : {r : ℕ} (n k : ℕ) → Vn n k < 4294967296 → r ≡ Vn n k → r ≡ count32 n k
unfolding count32
count_fits n k h e = rw (lt-ltb (Vn n k) 4294967296 h) e

count_large : (n k : ℕ) → 4294967296 ≤ Vn n k → 0 ≡ count32 n k
unfolding count32
count_large n k h = rw (le-ltb (Vn n k) 4294967296 h)

small : (c : Then-fits) → U c.args.n (c.args.k + 1) < 4294967296
small c = ltb-true _ _ (sym c.fits.ensures ∙ c.if-fits.true)

pub pvq_u-a-requires : goal.pvq_u-a-requires
pvq_u-a-requires c =
    let a = c.args in
    omega (arith, small (goal.at.pvq_u-a-requires c).Then-fits, up1' a.n a.k c.requires.0)

pub returns-then-a-b : goal.returns-then-a-b
returns-then-a-b c =
    let a = c.args in
    count_fits a.n a.k (omega (arith, V_is' a.n a.k)) (omega (arith, V_is' a.n a.k))

pub returns-else-a-b : goal.returns-else-a-b
returns-else-a-b c =
    let a = c.args in
    count_large a.n a.k (omega (arith, V_is' a.n a.k))

pub returns-else-fits : goal.returns-else-fits
returns-else-fits c =
    let a = c.args in
    let l = ltb-false (U a.n (a.k + 1)) 4294967296 (sym c.fits.ensures ∙ c.if-fits.false) in
    count_large a.n a.k (omega (arith, V_is' a.n a.k))
