-- vq: any two results that a contract allows are equal. Written by tools/decided.
use Prim.Native.Nat.{ℕ}
use Rattle.decided.proofs.One.{one}
use Rattle.entcode.proofs.Said.{said_same as entcode_said_same}
use Rattle.entcode.specs.declared.reasons.Refusal.{Refusal}
use Rattle.entdec.specs.declared.Reader.{Reader}
use Rattle.std.specs.Prelude.{Result, ◌≡◌}
use Rattle.vq.specs.Answer.{After, after, shape_request, unquantised}
use Rattle.vq.specs.declared.ReadShape.{ReadShape}
use lib.Ieee.{Float}
use lib.IntN.{ℤ}
use mathlib.Core.List.{List}
use mathlib.Core.Path.{ap}

-- alg_unquant
pub alg_unquant : (d : Reader) (s : List ℕ) (shape : List Float) (n : ℤ) (k : ℤ) (spread : ℤ) (b : ℤ) (gain : Float) (r₁ r₂ : Result ReadShape Refusal) (shape_after₁ shape_after₂ : List Float)
    → after r₁ shape_after₁ ≡ unquantised (shape_request n k spread b gain) s d shape → after r₂ shape_after₂ ≡ unquantised (shape_request n k spread b gain) s d shape
    → (r₁ ≡ r₂) × (shape_after₁ ≡ shape_after₂)
alg_unquant d s shape n k spread b gain r₁ r₂ shape_after₁ shape_after₂ e₁ e₂ =
    (entcode_said_same (ap (λ (x : After). x.said) (one e₁ e₂)), ap (λ (x : After). x.shape) (one e₁ e₂))
