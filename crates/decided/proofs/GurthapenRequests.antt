-- gurthapen::requests: any two results that a contract allows are equal. Written by tools/decided.
use Prim.Native.Nat.{ℕ}
use Rattle.decided.proofs.One.{one}
use Rattle.gurthapen.specs.Requests.{answers_line}
use Rattle.gurthapen_answer.specs.Result.{Result}
use Rattle.std.specs.Prelude.{◌≡◌}
use mathlib.Core.List.{List}
use mathlib.Core.Path.{ap}
use Rattle.gurthapen_answer.specs.Result as answer

-- requests::gurthapen_list
pub requests_gurthapen_list : (line : List ℕ) (number : ℕ) (out : List ℕ) (length : List ℕ) (r₁ r₂ : ℕ) (out_after₁ out_after₂ : List ℕ) (length_after₁ length_after₂ : List ℕ)
    → answer.result r₁ (length_after₁, out_after₁) ≡ answers_line number line length out → answer.result r₂ (length_after₂, out_after₂) ≡ answers_line number line length out
    → (r₁ ≡ r₂) × (out_after₁ ≡ out_after₂) × (length_after₁ ≡ length_after₂)
requests_gurthapen_list line number out length r₁ r₂ out_after₁ out_after₂ length_after₁ length_after₂ e₁ e₂ =
    (ap (λ (x : Result (List ℕ × List ℕ)). x.number) (one e₁ e₂), ap (λ (x : Result (List ℕ × List ℕ)). x.lent.1) (one e₁ e₂), ap (λ (x : Result (List ℕ × List ℕ)). x.lent.0) (one e₁ e₂))
