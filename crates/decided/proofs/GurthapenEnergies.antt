-- gurthapen::energies: any two results that a contract allows are equal. Written by tools/decided.
use Prim.Native.Nat.{ℕ}
use Rattle.decided.proofs.One.{one}
use Rattle.gurthapen.specs.Energies.{coarse_call, finalise_call}
use Rattle.gurthapen_answer.specs.Result.{Result}
use Rattle.std.specs.Prelude.{◌≡◌}
use lib.Ieee.{Float}
use lib.IntN.{ℤ}
use mathlib.Core.List.{List}
use mathlib.Core.Path.{ap}
use Rattle.gurthapen_answer.specs.Result as answer

-- energies::gurthapen_unquant_coarse_energy
pub energies_gurthapen_unquant_coarse_energy : (state : List ℤ) (s : List ℕ) (energies : List Float) (c : ℤ) (lm : ℤ) (start : ℤ) (end : ℤ) (intra : ℤ) (r₁ r₂ : ℕ) (state_after₁ state_after₂ : List ℤ) (energies_after₁ energies_after₂ : List Float)
    → answer.result r₁ (state_after₁, energies_after₁) ≡ coarse_call c lm start end intra s state energies → answer.result r₂ (state_after₂, energies_after₂) ≡ coarse_call c lm start end intra s state energies
    → (r₁ ≡ r₂) × (state_after₁ ≡ state_after₂) × (energies_after₁ ≡ energies_after₂)
energies_gurthapen_unquant_coarse_energy state s energies c lm start end intra r₁ r₂ state_after₁ state_after₂ energies_after₁ energies_after₂ e₁ e₂ =
    (ap (λ (x : Result (List ℤ × List Float)). x.number) (one e₁ e₂), ap (λ (x : Result (List ℤ × List Float)). x.lent.0) (one e₁ e₂), ap (λ (x : Result (List ℤ × List Float)). x.lent.1) (one e₁ e₂))

-- energies::gurthapen_unquant_energy_finalise
pub energies_gurthapen_unquant_energy_finalise : (state : List ℤ) (s : List ℕ) (energies : List Float) (c : ℤ) (start : ℤ) (end : ℤ) (fine : List ℤ) (priorities : List ℤ) (left : ℤ) (r₁ r₂ : ℕ) (state_after₁ state_after₂ : List ℤ) (energies_after₁ energies_after₂ : List Float)
    → answer.result r₁ (state_after₁, energies_after₁) ≡ finalise_call c start end fine priorities left s state energies → answer.result r₂ (state_after₂, energies_after₂) ≡ finalise_call c start end fine priorities left s state energies
    → (r₁ ≡ r₂) × (state_after₁ ≡ state_after₂) × (energies_after₁ ≡ energies_after₂)
energies_gurthapen_unquant_energy_finalise state s energies c start end fine priorities left r₁ r₂ state_after₁ state_after₂ energies_after₁ energies_after₂ e₁ e₂ =
    (ap (λ (x : Result (List ℤ × List Float)). x.number) (one e₁ e₂), ap (λ (x : Result (List ℤ × List Float)). x.lent.0) (one e₁ e₂), ap (λ (x : Result (List ℤ × List Float)). x.lent.1) (one e₁ e₂))
