-- Raw bits: fetching, one byte at a time, and what it leaves alone. Assumes nothing.
use Prim.Native.Nat.{ℕ, zero, suc, ◌+◌, ◌-◌, ◌*◌, ◌/◌, ◌%◌, ◌^◌, ◌≤◌, ◌<◌}
use mathlib.Core.Path.{◌≡◌, refl, ap}
use mathlib.Core.List.{List}
use native.Mathlib.Omega.{arith}
use lib.Pow.{shl_exact}
use Rattle.entdec.specs.declared.Reader.{Reader}
use Rattle.entdec.specs.Read.{fetch, fetches}

-- a byte above at most 24 bits fits
pub shl_byte : (b w : ℕ) → b < 256 → w ≤ 24 → b * 2 ^ w % 2 ^ 32 ≡ b * 2 ^ w
shl_byte b w h l = shl_exact 8 w 32 h (omega arith)

-- ---- bytes as long as the window has room: done, and one byte

-- bytes fetched as long as there is room
abbrev pub filled : List ℕ → Reader → Reader
filled s d = fetches ((32 - d.waiting) / 8) s d

-- none, where more than 24 bits wait
pub filled-done : (s : List ℕ) (d : Reader) → 24 < d.waiting → filled s d ≡ d
unfolding fetches
filled-done s d h = let e : (32 - d.waiting) / 8 ≡ 0 = omega arith in rw e

-- one, and then those of the state after it
pub filled-step : (s : List ℕ) (d : Reader) → d.waiting ≤ 24 → filled s d ≡ filled s (fetch s d)
unfolding fetches fetch
filled-step s d h =
    let e : (32 - d.waiting) / 8 ≡ suc ((32 - (d.waiting + 8)) / 8) = omega arith in
    ap (λ (k : ℕ). fetches k s d) e

-- ---- how many bits wait, and what stays

-- eight bits more for each byte
pub fetches-waiting : (k : ℕ) (s : List ℕ) (d : Reader) → (fetches k s d).waiting ≡ d.waiting + 8 * k
unfolding fetches fetch
fetches-waiting zero s d = omega arith
fetches-waiting (suc k) s d = omega (arith, fetches-waiting k s (fetch s d))

-- the bit count stays
pub fetches-total : (k : ℕ) (s : List ℕ) (d : Reader) → (fetches k s d).total ≡ d.total
unfolding fetches fetch
fetches-total zero s d = refl
fetches-total (suc k) s d = fetches-total k s (fetch s d)
