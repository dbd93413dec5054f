-- Number 0 says that every test holds. Assumes nothing.
use Prim.Native.Nat.{ℕ, zero, suc}
use mathlib.Core.Path.{◌≡◌, refl}
use mathlib.Core.Bool.{Bool, true, false}
use native.Mathlib.Omega.{arith}
use borrow.Author.Tests.{ne_eqb}
use Rattle.entcode.specs.Refusal.{refusal}

-- no refusal applies: each test by its number
pub record Passed (lengths numbers lists : Bool) (special : ℕ) (unclosed tell_fits : Bool) : Type 0 where
  pub no_2 : lengths ≡ true
  pub no_1 : numbers ≡ true
  pub no_3 : lists ≡ true
  pub no_special : special ≡ 0
  pub no_12 : unclosed ≡ true
  pub no_4 : tell_fits ≡ true

-- by the cases of the definition
pub passed : (a b c : Bool) (n : ℕ) (d e : Bool) → refusal a b c n d e ≡ 0 → Passed a b c n d e
unfolding refusal
passed true true true zero true true h = record { no_2 = refl; no_1 = refl; no_3 = refl; no_special = refl; no_12 = refl; no_4 = refl }
passed true true true zero true false h = absurd (omega arith)
passed true true true zero false e h = absurd (omega arith)
passed true true true (suc n) d e h = absurd (let z = simp (ne_eqb (suc n) 0 (λ e. omega arith)) at h in omega (arith, z))
passed true true false n d e h = absurd (omega arith)
passed true false c n d e h = absurd (omega arith)
passed false b c n d e h = absurd (omega arith)
