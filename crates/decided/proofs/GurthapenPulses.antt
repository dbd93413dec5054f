-- gurthapen::pulses: any two results that a contract allows are equal. Written by tools/decided.
use Prim.Native.Nat.{ℕ}
use Rattle.decided.proofs.One.{one}
use Rattle.gurthapen.specs.Pulses.{decodes, encodes}
use Rattle.gurthapen_answer.specs.Result.{Result}
use Rattle.std.specs.Prelude.{◌≡◌}
use lib.IntN.{ℤ}
use mathlib.Core.List.{List}
use mathlib.Core.Path.{ap}
use Rattle.gurthapen_answer.specs.Result as answer

-- pulses::gurthapen_decode_pulses
pub pulses_gurthapen_decode_pulses : (state : List ℤ) (s : List ℕ) (y : List ℤ) (n : ℕ) (k : ℕ) (energy : List ℕ) (r₁ r₂ : ℕ) (state_after₁ state_after₂ : List ℤ) (y_after₁ y_after₂ : List ℤ) (energy_after₁ energy_after₂ : List ℕ)
    → answer.result r₁ ((state_after₁, energy_after₁), y_after₁) ≡ decodes n k s state energy y → answer.result r₂ ((state_after₂, energy_after₂), y_after₂) ≡ decodes n k s state energy y
    → (r₁ ≡ r₂) × (state_after₁ ≡ state_after₂) × (y_after₁ ≡ y_after₂) × (energy_after₁ ≡ energy_after₂)
pulses_gurthapen_decode_pulses state s y n k energy r₁ r₂ state_after₁ state_after₂ y_after₁ y_after₂ energy_after₁ energy_after₂ e₁ e₂ =
    (ap (λ (x : Result ((List ℤ × List ℕ) × List ℤ)). x.number) (one e₁ e₂), ap (λ (x : Result ((List ℤ × List ℕ) × List ℤ)). x.lent.0.0) (one e₁ e₂), ap (λ (x : Result ((List ℤ × List ℕ) × List ℤ)). x.lent.1) (one e₁ e₂), ap (λ (x : Result ((List ℤ × List ℕ) × List ℤ)). x.lent.0.1) (one e₁ e₂))

-- pulses::gurthapen_encode_pulses
pub pulses_gurthapen_encode_pulses : (state : List ℤ) (buf : List ℕ) (y : List ℤ) (n : ℕ) (k : ℕ) (r₁ r₂ : ℕ) (state_after₁ state_after₂ : List ℤ) (buf_after₁ buf_after₂ : List ℕ)
    → answer.result r₁ (state_after₁, buf_after₁) ≡ encodes n k y state buf → answer.result r₂ (state_after₂, buf_after₂) ≡ encodes n k y state buf
    → (r₁ ≡ r₂) × (state_after₁ ≡ state_after₂) × (buf_after₁ ≡ buf_after₂)
pulses_gurthapen_encode_pulses state buf y n k r₁ r₂ state_after₁ state_after₂ buf_after₁ buf_after₂ e₁ e₂ =
    (ap (λ (x : Result (List ℤ × List ℕ)). x.number) (one e₁ e₂), ap (λ (x : Result (List ℤ × List ℕ)). x.lent.0) (one e₁ e₂), ap (λ (x : Result (List ℤ × List ℕ)). x.lent.1) (one e₁ e₂))
