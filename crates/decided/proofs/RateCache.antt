-- rate_cache: any two results that a contract allows are equal. Written by tools/decided.
use Prim.Native.Nat.{ℕ}
use Rattle.decided.proofs.One.{one}
use Rattle.entcode.proofs.Said.{said_same as entcode_said_same}
use Rattle.entcode.specs.Said.{said}
use Rattle.entcode.specs.declared.reasons.Refusal.{Refusal}
use Rattle.rate_cache.specs.Lookups.{bits_to_pulses, pulses_at, pulses_to_bits}
use Rattle.std.specs.Prelude.{Result, ◌≡◌}
use lib.IntN.{ℤ}

-- get_pulses
pub get_pulses_decided : (i : ℤ) (r₁ r₂ : Result ℕ Refusal)
    → said r₁ ≡ pulses_at i → said r₂ ≡ pulses_at i
    → r₁ ≡ r₂
get_pulses_decided i r₁ r₂ e₁ e₂ =
    entcode_said_same (one e₁ e₂)

-- bits2pulses
pub bits2pulses : (band : ℤ) (lm : ℤ) (bits : ℤ) (r₁ r₂ : Result ℕ Refusal)
    → said r₁ ≡ bits_to_pulses band lm bits → said r₂ ≡ bits_to_pulses band lm bits
    → r₁ ≡ r₂
bits2pulses band lm bits r₁ r₂ e₁ e₂ =
    entcode_said_same (one e₁ e₂)

-- pulses2bits
pub pulses2bits : (band : ℤ) (lm : ℤ) (pulses : ℤ) (r₁ r₂ : Result ℕ Refusal)
    → said r₁ ≡ pulses_to_bits band lm pulses → said r₂ ≡ pulses_to_bits band lm pulses
    → r₁ ≡ r₂
pulses2bits band lm pulses r₁ r₂ e₁ e₂ =
    entcode_said_same (one e₁ e₂)
