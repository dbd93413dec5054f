-- lister_answer: any two results that a contract allows are equal. Written by tools/decided.
use Prim.Native.Nat.{ℕ}
use Rattle.decided.proofs.One.{one}
use Rattle.entcode.proofs.Said.{said_same as entcode_said_same}
use Rattle.entcode.specs.declared.reasons.Refusal.{Refusal}
use Rattle.lister_answer.specs.Answer.{After, after, listing}
use Rattle.std.specs.Prelude.{Result, ◌≡◌}
use mathlib.Core.List.{List}
use mathlib.Core.Path.{ap}

-- list
pub list : (line : List ℕ) (number : ℕ) (out : List ℕ) (r₁ r₂ : Result ℕ Refusal) (out_after₁ out_after₂ : List ℕ)
    → after r₁ out_after₁ ≡ listing number line out → after r₂ out_after₂ ≡ listing number line out
    → (r₁ ≡ r₂) × (out_after₁ ≡ out_after₂)
list line number out r₁ r₂ out_after₁ out_after₂ e₁ e₂ =
    (entcode_said_same (ap (λ (x : After). x.said) (one e₁ e₂)), ap (λ (x : After). x.lent) (one e₁ e₂))
