-- gurthapen::lookups: any two results that a contract allows are equal. Written by tools/decided.
use Prim.Native.Nat.{ℕ}
use Rattle.decided.proofs.One.{one}
use Rattle.gurthapen.specs.Lookups.{looks}
use Rattle.gurthapen_answer.specs.Result.{Result}
use Rattle.rate_cache.specs.Lookups.{bits_to_pulses, pulses_at, pulses_to_bits}
use Rattle.std.specs.Prelude.{◌≡◌}
use lib.IntN.{ℤ}
use mathlib.Core.List.{List}
use mathlib.Core.Path.{ap}
use Rattle.gurthapen_answer.specs.Result as answer

-- lookups::gurthapen_get_pulses
pub lookups_gurthapen_get_pulses : (i : ℤ) (value : List ℕ) (r₁ r₂ : ℕ) (value_after₁ value_after₂ : List ℕ)
    → answer.result r₁ value_after₁ ≡ looks (pulses_at i) value → answer.result r₂ value_after₂ ≡ looks (pulses_at i) value
    → (r₁ ≡ r₂) × (value_after₁ ≡ value_after₂)
lookups_gurthapen_get_pulses i value r₁ r₂ value_after₁ value_after₂ e₁ e₂ =
    (ap (λ (x : Result (List ℕ)). x.number) (one e₁ e₂), ap (λ (x : Result (List ℕ)). x.lent) (one e₁ e₂))

-- lookups::gurthapen_bits2pulses
pub lookups_gurthapen_bits2pulses : (band : ℤ) (lm : ℤ) (bits : ℤ) (value : List ℕ) (r₁ r₂ : ℕ) (value_after₁ value_after₂ : List ℕ)
    → answer.result r₁ value_after₁ ≡ looks (bits_to_pulses band lm bits) value → answer.result r₂ value_after₂ ≡ looks (bits_to_pulses band lm bits) value
    → (r₁ ≡ r₂) × (value_after₁ ≡ value_after₂)
lookups_gurthapen_bits2pulses band lm bits value r₁ r₂ value_after₁ value_after₂ e₁ e₂ =
    (ap (λ (x : Result (List ℕ)). x.number) (one e₁ e₂), ap (λ (x : Result (List ℕ)). x.lent) (one e₁ e₂))

-- lookups::gurthapen_pulses2bits
pub lookups_gurthapen_pulses2bits : (band : ℤ) (lm : ℤ) (pulses : ℤ) (value : List ℕ) (r₁ r₂ : ℕ) (value_after₁ value_after₂ : List ℕ)
    → answer.result r₁ value_after₁ ≡ looks (pulses_to_bits band lm pulses) value → answer.result r₂ value_after₂ ≡ looks (pulses_to_bits band lm pulses) value
    → (r₁ ≡ r₂) × (value_after₁ ≡ value_after₂)
lookups_gurthapen_pulses2bits band lm pulses value r₁ r₂ value_after₁ value_after₂ e₁ e₂ =
    (ap (λ (x : Result (List ℕ)). x.number) (one e₁ e₂), ap (λ (x : Result (List ℕ)). x.lent) (one e₁ e₂))
