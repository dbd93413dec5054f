-- gurthapen::lap: any two results that a contract allows are equal. Written by tools/decided.
use Prim.Native.Nat.{ℕ}
use Rattle.decided.proofs.One.{one}
use Rattle.gurthapen.specs.Lap.{decodes, encodes}
use Rattle.gurthapen_answer.specs.Result.{Result}
use Rattle.std.specs.Prelude.{◌≡◌}
use lib.IntN.{ℤ}
use mathlib.Core.List.{List}
use mathlib.Core.Path.{ap}
use Rattle.gurthapen_answer.specs.Result as answer

-- lap::gurthapen_laplace_decode
pub lap_gurthapen_laplace_decode : (state : List ℤ) (s : List ℕ) (fs : ℕ) (decay : ℕ) (value : List ℤ) (r₁ r₂ : ℕ) (state_after₁ state_after₂ : List ℤ) (value_after₁ value_after₂ : List ℤ)
    → answer.result r₁ (state_after₁, value_after₁) ≡ decodes fs decay s state value → answer.result r₂ (state_after₂, value_after₂) ≡ decodes fs decay s state value
    → (r₁ ≡ r₂) × (state_after₁ ≡ state_after₂) × (value_after₁ ≡ value_after₂)
lap_gurthapen_laplace_decode state s fs decay value r₁ r₂ state_after₁ state_after₂ value_after₁ value_after₂ e₁ e₂ =
    (ap (λ (x : Result (List ℤ × List ℤ)). x.number) (one e₁ e₂), ap (λ (x : Result (List ℤ × List ℤ)). x.lent.0) (one e₁ e₂), ap (λ (x : Result (List ℤ × List ℤ)). x.lent.1) (one e₁ e₂))

-- lap::gurthapen_laplace_encode
pub lap_gurthapen_laplace_encode : (state : List ℤ) (buf : List ℕ) (z : ℤ) (fs : ℕ) (decay : ℕ) (value : List ℤ) (r₁ r₂ : ℕ) (state_after₁ state_after₂ : List ℤ) (buf_after₁ buf_after₂ : List ℕ) (value_after₁ value_after₂ : List ℤ)
    → answer.result r₁ ((state_after₁, value_after₁), buf_after₁) ≡ encodes fs decay z state value buf → answer.result r₂ ((state_after₂, value_after₂), buf_after₂) ≡ encodes fs decay z state value buf
    → (r₁ ≡ r₂) × (state_after₁ ≡ state_after₂) × (buf_after₁ ≡ buf_after₂) × (value_after₁ ≡ value_after₂)
lap_gurthapen_laplace_encode state buf z fs decay value r₁ r₂ state_after₁ state_after₂ buf_after₁ buf_after₂ value_after₁ value_after₂ e₁ e₂ =
    (ap (λ (x : Result ((List ℤ × List ℤ) × List ℕ)). x.number) (one e₁ e₂), ap (λ (x : Result ((List ℤ × List ℤ) × List ℕ)). x.lent.0.0) (one e₁ e₂), ap (λ (x : Result ((List ℤ × List ℤ) × List ℕ)). x.lent.1) (one e₁ e₂), ap (λ (x : Result ((List ℤ × List ℤ) × List ℕ)). x.lent.0.1) (one e₁ e₂))
