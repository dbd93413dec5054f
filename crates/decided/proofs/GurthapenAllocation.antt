-- gurthapen::allocation: any two results that a contract allows are equal. Written by tools/decided.
use Prim.Native.Nat.{ℕ}
use Rattle.decided.proofs.One.{one}
use Rattle.gurthapen.specs.Allocation.{reads, writes}
use Rattle.gurthapen_answer.specs.Result.{Result}
use Rattle.rate.specs.Question.{Lists, alloc_numbers, lists, wishes}
use Rattle.std.specs.Prelude.{◌≡◌}
use lib.IntN.{ℤ}
use mathlib.Core.List.{List}
use mathlib.Core.Path.{ap}
use Rattle.gurthapen_answer.specs.Result as answer

-- allocation::gurthapen_compute_allocation_read
pub allocation_gurthapen_compute_allocation_read : (state : List ℤ) (s : List ℕ) (c : ℤ) (lm : ℤ) (start : ℤ) (end : ℤ) (trim : ℤ) (total : ℤ) (offsets : List ℤ) (caps : List ℤ) (pulses : List ℤ) (fine : List ℤ) (priorities : List ℤ) (shown : List ℤ) (r₁ r₂ : ℕ) (state_after₁ state_after₂ : List ℤ) (pulses_after₁ pulses_after₂ : List ℤ) (fine_after₁ fine_after₂ : List ℤ) (priorities_after₁ priorities_after₂ : List ℤ) (shown_after₁ shown_after₂ : List ℤ)
    → answer.result r₁ ((state_after₁, shown_after₁), lists pulses_after₁ fine_after₁ priorities_after₁) ≡ reads (alloc_numbers c lm start end trim total) offsets caps s state shown (lists pulses fine priorities) → answer.result r₂ ((state_after₂, shown_after₂), lists pulses_after₂ fine_after₂ priorities_after₂) ≡ reads (alloc_numbers c lm start end trim total) offsets caps s state shown (lists pulses fine priorities)
    → (r₁ ≡ r₂) × (state_after₁ ≡ state_after₂) × (pulses_after₁ ≡ pulses_after₂) × (fine_after₁ ≡ fine_after₂) × (priorities_after₁ ≡ priorities_after₂) × (shown_after₁ ≡ shown_after₂)
allocation_gurthapen_compute_allocation_read state s c lm start end trim total offsets caps pulses fine priorities shown r₁ r₂ state_after₁ state_after₂ pulses_after₁ pulses_after₂ fine_after₁ fine_after₂ priorities_after₁ priorities_after₂ shown_after₁ shown_after₂ e₁ e₂ =
    (ap (λ (x : Result ((List ℤ × List ℤ) × Lists)). x.number) (one e₁ e₂), ap (λ (x : Result ((List ℤ × List ℤ) × Lists)). x.lent.0.0) (one e₁ e₂), ap (λ (x : Result ((List ℤ × List ℤ) × Lists)). x.lent.1.pulses) (one e₁ e₂), ap (λ (x : Result ((List ℤ × List ℤ) × Lists)). x.lent.1.fine) (one e₁ e₂), ap (λ (x : Result ((List ℤ × List ℤ) × Lists)). x.lent.1.priorities) (one e₁ e₂), ap (λ (x : Result ((List ℤ × List ℤ) × Lists)). x.lent.0.1) (one e₁ e₂))

-- allocation::gurthapen_compute_allocation_write
pub allocation_gurthapen_compute_allocation_write : (state : List ℤ) (buf : List ℕ) (c : ℤ) (lm : ℤ) (start : ℤ) (end : ℤ) (trim : ℤ) (total : ℤ) (intensity : ℤ) (dual : ℤ) (previous : ℤ) (bandwidth : ℤ) (offsets : List ℤ) (caps : List ℤ) (pulses : List ℤ) (fine : List ℤ) (priorities : List ℤ) (shown : List ℤ) (r₁ r₂ : ℕ) (state_after₁ state_after₂ : List ℤ) (buf_after₁ buf_after₂ : List ℕ) (pulses_after₁ pulses_after₂ : List ℤ) (fine_after₁ fine_after₂ : List ℤ) (priorities_after₁ priorities_after₂ : List ℤ) (shown_after₁ shown_after₂ : List ℤ)
    → answer.result r₁ ((state_after₁, shown_after₁), (lists pulses_after₁ fine_after₁ priorities_after₁, buf_after₁)) ≡ writes (alloc_numbers c lm start end trim total) (wishes intensity dual previous bandwidth) offsets caps state shown (lists pulses fine priorities) buf → answer.result r₂ ((state_after₂, shown_after₂), (lists pulses_after₂ fine_after₂ priorities_after₂, buf_after₂)) ≡ writes (alloc_numbers c lm start end trim total) (wishes intensity dual previous bandwidth) offsets caps state shown (lists pulses fine priorities) buf
    → (r₁ ≡ r₂) × (state_after₁ ≡ state_after₂) × (buf_after₁ ≡ buf_after₂) × (pulses_after₁ ≡ pulses_after₂) × (fine_after₁ ≡ fine_after₂) × (priorities_after₁ ≡ priorities_after₂) × (shown_after₁ ≡ shown_after₂)
allocation_gurthapen_compute_allocation_write state buf c lm start end trim total intensity dual previous bandwidth offsets caps pulses fine priorities shown r₁ r₂ state_after₁ state_after₂ buf_after₁ buf_after₂ pulses_after₁ pulses_after₂ fine_after₁ fine_after₂ priorities_after₁ priorities_after₂ shown_after₁ shown_after₂ e₁ e₂ =
    (ap (λ (x : Result ((List ℤ × List ℤ) × (Lists × List ℕ))). x.number) (one e₁ e₂), ap (λ (x : Result ((List ℤ × List ℤ) × (Lists × List ℕ))). x.lent.0.0) (one e₁ e₂), ap (λ (x : Result ((List ℤ × List ℤ) × (Lists × List ℕ))). x.lent.1.1) (one e₁ e₂), ap (λ (x : Result ((List ℤ × List ℤ) × (Lists × List ℕ))). x.lent.1.0.pulses) (one e₁ e₂), ap (λ (x : Result ((List ℤ × List ℤ) × (Lists × List ℕ))). x.lent.1.0.fine) (one e₁ e₂), ap (λ (x : Result ((List ℤ × List ℤ) × (Lists × List ℕ))). x.lent.1.0.priorities) (one e₁ e₂), ap (λ (x : Result ((List ℤ × List ℤ) × (Lists × List ℕ))). x.lent.0.1) (one e₁ e₂))
