-- quant_bands: any two results that a contract allows are equal. Written by tools/decided.
use Prim.Native.Nat.{ℕ}
use Rattle.decided.proofs.One.{one}
use Rattle.entcode.proofs.Said.{said_same as entcode_said_same}
use Rattle.entcode.specs.declared.reasons.Refusal.{Refusal}
use Rattle.entdec.specs.declared.Reader.{Reader}
use Rattle.quant_bands.specs.Answer.{After, after, coarse_reading, finalise_reading}
use Rattle.std.specs.Prelude.{Result, ◌≡◌}
use lib.Ieee.{Float}
use lib.IntN.{ℤ}
use mathlib.Core.List.{List}
use mathlib.Core.Path.{ap}

-- unquant_coarse_energy
pub unquant_coarse_energy : (d : Reader) (s : List ℕ) (energies : List Float) (c : ℤ) (lm : ℤ) (start : ℤ) (end : ℤ) (intra : ℤ) (r₁ r₂ : Result Reader Refusal) (energies_after₁ energies_after₂ : List Float)
    → after r₁ energies_after₁ ≡ coarse_reading c lm start end intra s d energies → after r₂ energies_after₂ ≡ coarse_reading c lm start end intra s d energies
    → (r₁ ≡ r₂) × (energies_after₁ ≡ energies_after₂)
unquant_coarse_energy d s energies c lm start end intra r₁ r₂ energies_after₁ energies_after₂ e₁ e₂ =
    (entcode_said_same (ap (λ (x : After). x.said) (one e₁ e₂)), ap (λ (x : After). x.energies) (one e₁ e₂))

-- unquant_energy_finalise
pub unquant_energy_finalise : (d : Reader) (s : List ℕ) (energies : List Float) (c : ℤ) (start : ℤ) (end : ℤ) (fine : List ℤ) (priorities : List ℤ) (left : ℤ) (r₁ r₂ : Result Reader Refusal) (energies_after₁ energies_after₂ : List Float)
    → after r₁ energies_after₁ ≡ finalise_reading c start end fine priorities left s d energies → after r₂ energies_after₂ ≡ finalise_reading c start end fine priorities left s d energies
    → (r₁ ≡ r₂) × (energies_after₁ ≡ energies_after₂)
unquant_energy_finalise d s energies c start end fine priorities left r₁ r₂ energies_after₁ energies_after₂ e₁ e₂ =
    (entcode_said_same (ap (λ (x : After). x.said) (one e₁ e₂)), ap (λ (x : After). x.energies) (one e₁ e₂))
