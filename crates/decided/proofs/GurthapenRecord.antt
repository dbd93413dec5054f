-- gurthapen::record: any two results that a contract allows are equal. Written by tools/decided.
use Prim.Native.Nat.{ℕ}
use Rattle.decided.proofs.One.{one}
use Rattle.gurthapen.specs.Record.{frames, freshes, restores, saves}
use Rattle.gurthapen_answer.specs.Result.{Result}
use Rattle.std.specs.Prelude.{◌≡◌}
use Rattle.stream.specs.Frame.{ordered}
use lib.Ieee.{Float}
use lib.IntN.{ℤ}
use mathlib.Core.List.{List}
use mathlib.Core.Path.{ap}
use Rattle.gurthapen_answer.specs.Result as answer

-- record::gurthapen_record_fresh
pub record_gurthapen_record_fresh : (energies : List Float) (next : List ℕ) (r₁ r₂ : ℕ) (energies_after₁ energies_after₂ : List Float) (next_after₁ next_after₂ : List ℕ)
    → answer.result r₁ (energies_after₁, next_after₁) ≡ freshes energies next → answer.result r₂ (energies_after₂, next_after₂) ≡ freshes energies next
    → (r₁ ≡ r₂) × (energies_after₁ ≡ energies_after₂) × (next_after₁ ≡ next_after₂)
record_gurthapen_record_fresh energies next r₁ r₂ energies_after₁ energies_after₂ next_after₁ next_after₂ e₁ e₂ =
    (ap (λ (x : Result (List Float × List ℕ)). x.number) (one e₁ e₂), ap (λ (x : Result (List Float × List ℕ)). x.lent.0) (one e₁ e₂), ap (λ (x : Result (List Float × List ℕ)). x.lent.1) (one e₁ e₂))

-- record::gurthapen_record_order
pub record_gurthapen_record_order : (next : ℕ) (number : ℕ) (r₁ r₂ : ℕ)
    → r₁ ≡ ordered next number → r₂ ≡ ordered next number
    → r₁ ≡ r₂
record_gurthapen_record_order next number r₁ r₂ e₁ e₂ =
    one e₁ e₂

-- record::gurthapen_record_frame
pub record_gurthapen_record_frame : (energies : List Float) (next : List ℕ) (state : List ℤ) (s : List ℕ) (number : ℕ) (c : ℤ) (lm : ℤ) (start : ℤ) (end : ℤ) (intra : ℤ) (r₁ r₂ : ℕ) (energies_after₁ energies_after₂ : List Float) (next_after₁ next_after₂ : List ℕ) (state_after₁ state_after₂ : List ℤ)
    → answer.result r₁ ((energies_after₁, next_after₁), state_after₁) ≡ frames s number c lm start end intra energies next state → answer.result r₂ ((energies_after₂, next_after₂), state_after₂) ≡ frames s number c lm start end intra energies next state
    → (r₁ ≡ r₂) × (energies_after₁ ≡ energies_after₂) × (next_after₁ ≡ next_after₂) × (state_after₁ ≡ state_after₂)
record_gurthapen_record_frame energies next state s number c lm start end intra r₁ r₂ energies_after₁ energies_after₂ next_after₁ next_after₂ state_after₁ state_after₂ e₁ e₂ =
    (ap (λ (x : Result ((List Float × List ℕ) × List ℤ)). x.number) (one e₁ e₂), ap (λ (x : Result ((List Float × List ℕ) × List ℤ)). x.lent.0.0) (one e₁ e₂), ap (λ (x : Result ((List Float × List ℕ) × List ℤ)). x.lent.0.1) (one e₁ e₂), ap (λ (x : Result ((List Float × List ℕ) × List ℤ)). x.lent.1) (one e₁ e₂))

-- record::gurthapen_record_save
pub record_gurthapen_record_save : (energies : List Float) (next : ℕ) (buf : List ℕ) (length : List ℕ) (r₁ r₂ : ℕ) (buf_after₁ buf_after₂ : List ℕ) (length_after₁ length_after₂ : List ℕ)
    → answer.result r₁ (length_after₁, buf_after₁) ≡ saves energies next length buf → answer.result r₂ (length_after₂, buf_after₂) ≡ saves energies next length buf
    → (r₁ ≡ r₂) × (buf_after₁ ≡ buf_after₂) × (length_after₁ ≡ length_after₂)
record_gurthapen_record_save energies next buf length r₁ r₂ buf_after₁ buf_after₂ length_after₁ length_after₂ e₁ e₂ =
    (ap (λ (x : Result (List ℕ × List ℕ)). x.number) (one e₁ e₂), ap (λ (x : Result (List ℕ × List ℕ)). x.lent.1) (one e₁ e₂), ap (λ (x : Result (List ℕ × List ℕ)). x.lent.0) (one e₁ e₂))

-- record::gurthapen_record_restore
pub record_gurthapen_record_restore : (line : List ℕ) (energies : List Float) (next : List ℕ) (r₁ r₂ : ℕ) (energies_after₁ energies_after₂ : List Float) (next_after₁ next_after₂ : List ℕ)
    → answer.result r₁ (energies_after₁, next_after₁) ≡ restores line energies next → answer.result r₂ (energies_after₂, next_after₂) ≡ restores line energies next
    → (r₁ ≡ r₂) × (energies_after₁ ≡ energies_after₂) × (next_after₁ ≡ next_after₂)
record_gurthapen_record_restore line energies next r₁ r₂ energies_after₁ energies_after₂ next_after₁ next_after₂ e₁ e₂ =
    (ap (λ (x : Result (List Float × List ℕ)). x.number) (one e₁ e₂), ap (λ (x : Result (List Float × List ℕ)). x.lent.0) (one e₁ e₂), ap (λ (x : Result (List Float × List ℕ)). x.lent.1) (one e₁ e₂))
