-- gurthapen::shapes: any two results that a contract allows are equal. Written by tools/decided.
use Prim.Native.Nat.{ℕ}
use Rattle.decided.proofs.One.{one}
use Rattle.gurthapen.specs.Shapes.{unquants}
use Rattle.gurthapen_answer.specs.Result.{Result}
use Rattle.std.specs.Prelude.{◌≡◌}
use Rattle.vq.specs.Answer.{shape_request}
use lib.Ieee.{Float}
use lib.IntN.{ℤ}
use mathlib.Core.List.{List}
use mathlib.Core.Path.{ap}
use Rattle.gurthapen_answer.specs.Result as answer

-- shapes::gurthapen_alg_unquant
pub shapes_gurthapen_alg_unquant : (state : List ℤ) (s : List ℕ) (shape : List Float) (n : ℤ) (k : ℤ) (spread : ℤ) (b : ℤ) (gain : Float) (mask : List ℕ) (r₁ r₂ : ℕ) (state_after₁ state_after₂ : List ℤ) (shape_after₁ shape_after₂ : List Float) (mask_after₁ mask_after₂ : List ℕ)
    → answer.result r₁ ((state_after₁, mask_after₁), shape_after₁) ≡ unquants (shape_request n k spread b gain) s state mask shape → answer.result r₂ ((state_after₂, mask_after₂), shape_after₂) ≡ unquants (shape_request n k spread b gain) s state mask shape
    → (r₁ ≡ r₂) × (state_after₁ ≡ state_after₂) × (shape_after₁ ≡ shape_after₂) × (mask_after₁ ≡ mask_after₂)
shapes_gurthapen_alg_unquant state s shape n k spread b gain mask r₁ r₂ state_after₁ state_after₂ shape_after₁ shape_after₂ mask_after₁ mask_after₂ e₁ e₂ =
    (ap (λ (x : Result ((List ℤ × List ℕ) × List Float)). x.number) (one e₁ e₂), ap (λ (x : Result ((List ℤ × List ℕ) × List Float)). x.lent.0.0) (one e₁ e₂), ap (λ (x : Result ((List ℤ × List ℕ) × List Float)). x.lent.1) (one e₁ e₂), ap (λ (x : Result ((List ℤ × List ℕ) × List Float)). x.lent.0.1) (one e₁ e₂))
