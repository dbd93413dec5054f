-- The lister's caps: their products fit in 32 bits, and the loop over the bands fills the list. Assumes nothing.
use Prim.Native.Nat.{ℕ, ◌+◌, ◌-◌, ◌*◌, ◌/◌, ◌^◌, ◌≤◌}
use mathlib.Core.Path.{◌≡◌, sym}
use mathlib.Core.List.{List}
use native.Mathlib.Nat.{mul-le-mul, pow-le-pow_right}
use native.Mathlib.Omega.{arith}
use lib.IntN.{ℤ, pos}
use lib.ListN.{set}
use Rattle.laws.specs.Lists.{fill}
use Rattle.laws.proofs.Lists.{fill_none, fill-up}
use Rattle.modes.specs.Caps.{cap_entry}
use Rattle.modes.specs.Edges.{width}
use Rattle.rate_spec.specs.Caps.{cap_of}
use Rattle.rate.specs.Question.{no_entries}

-- the products of a cap, within 32 bits
pub record CapProducts (entry c w p : ℕ) : Type 0 where
  pub coefs : w * p ≤ 176
  pub share : (entry + 64) * c ≤ 608
  pub whole : (entry + 64) * c * (w * p) ≤ 107008

-- by the bounds of a table entry, of the channels, of a band's width and of LM
pub cap_products : (entry c w lm : ℕ) → entry ≤ 240 → c ≤ 2 → w ≤ 22 → lm ≤ 3 → CapProducts entry c w (2 ^ lm)
cap_products entry c w lm h g k l =
    let p : 2 ^ lm ≤ 2 ^ 3 = pow-le-pow_right {n = 2} (omega arith) l in
    let a : w * 2 ^ lm ≤ 22 * 8 = mul-le-mul {n₂ = 22} {m₂ = 8} k (omega arith) in
    let b : (entry + 64) * c ≤ 304 * 2 = mul-le-mul {n₂ = 304} {m₂ = 2} (omega arith) g in
    let d : (entry + 64) * c * (w * 2 ^ lm) ≤ 608 * 176 = mul-le-mul {n₂ = 608} {m₂ = 176} (omega arith) (omega arith) in
    record { coefs = omega arith; share = omega arith; whole = omega arith }

-- the product of the code is the definition's cap
pub cap-is : (c lm j : ℕ) {entry w p : ℕ} → entry ≡ cap_entry c lm j → w ≡ width j → p ≡ 2 ^ lm → (entry + 64) * c * (w * p) / 4 ≡ cap_of c lm j
unfolding cap_of
cap-is c lm j e f g = rw (e, f, g)

-- before the first band
pub caps-none : (c lm : ℕ) → no_entries ≡ fill (λ j. pos (cap_of c lm j)) 0 0 no_entries
caps-none c lm = fill_none (λ j. pos (cap_of c lm j)) 0 no_entries

-- one band more
pub caps-up : (c lm j : ℕ) {out : List ℤ} {r : ℤ} → out ≡ fill (λ j. pos (cap_of c lm j)) 0 j no_entries → r ≡ pos (cap_of c lm j)
    → set out j r ≡ fill (λ j. pos (cap_of c lm j)) 0 (j + 1) no_entries
caps-up c lm j p q =
    let e : j - 0 ≡ j = omega arith in
    let g : j + 1 - 0 ≡ j + 1 = omega arith in
    rw g at (fill-up (λ j. pos (cap_of c lm j)) 0 j no_entries (omega arith) (rw (sym e) at p) q)
