-- rate: any two results that a contract allows are equal. Written by tools/decided.
use Prim.Native.Nat.{ℕ}
use Rattle.decided.proofs.One.{one}
use Rattle.entcode.proofs.Said.{said_same as entcode_said_same}
use Rattle.entcode.specs.declared.reasons.Refusal.{Refusal}
use Rattle.entdec.specs.declared.Reader.{Reader}
use Rattle.entenc.specs.Write.{wr}
use Rattle.entenc.specs.declared.Writer.{Writer}
use Rattle.rate.specs.Allocations.{ReadAllocation, WrittenAllocation}
use Rattle.rate.specs.Answer.{AfterRead, AfterWrite, after_read, after_write, reading, writing}
use Rattle.rate.specs.Question.{lists}
use Rattle.rate.specs.declared.AllocNumbers.{AllocNumbers}
use Rattle.rate.specs.declared.Wishes.{Wishes}
use Rattle.std.specs.Prelude.{Result, ◌≡◌}
use lib.IntN.{ℤ}
use mathlib.Core.List.{List}
use mathlib.Core.Path.{ap}

-- clt_compute_allocation_read
pub clt_compute_allocation_read : (d : Reader) (s : List ℕ) (q : AllocNumbers) (offsets : List ℤ) (caps : List ℤ) (pulses : List ℤ) (fine : List ℤ) (priorities : List ℤ) (r₁ r₂ : Result ReadAllocation Refusal) (pulses_after₁ pulses_after₂ : List ℤ) (fine_after₁ fine_after₂ : List ℤ) (priorities_after₁ priorities_after₂ : List ℤ)
    → after_read r₁ (lists pulses_after₁ fine_after₁ priorities_after₁) ≡ reading q offsets caps s d (lists pulses fine priorities) → after_read r₂ (lists pulses_after₂ fine_after₂ priorities_after₂) ≡ reading q offsets caps s d (lists pulses fine priorities)
    → (r₁ ≡ r₂) × (pulses_after₁ ≡ pulses_after₂) × (fine_after₁ ≡ fine_after₂) × (priorities_after₁ ≡ priorities_after₂)
clt_compute_allocation_read d s q offsets caps pulses fine priorities r₁ r₂ pulses_after₁ pulses_after₂ fine_after₁ fine_after₂ priorities_after₁ priorities_after₂ e₁ e₂ =
    (entcode_said_same (ap (λ (x : AfterRead). x.said) (one e₁ e₂)), ap (λ (x : AfterRead). x.lent.pulses) (one e₁ e₂), ap (λ (x : AfterRead). x.lent.fine) (one e₁ e₂), ap (λ (x : AfterRead). x.lent.priorities) (one e₁ e₂))

-- clt_compute_allocation_write
pub clt_compute_allocation_write : (w : Writer) (buf : List ℕ) (q : AllocNumbers) (h : Wishes) (offsets : List ℤ) (caps : List ℤ) (pulses : List ℤ) (fine : List ℤ) (priorities : List ℤ) (r₁ r₂ : Result WrittenAllocation Refusal) (buf_after₁ buf_after₂ : List ℕ) (pulses_after₁ pulses_after₂ : List ℤ) (fine_after₁ fine_after₂ : List ℤ) (priorities_after₁ priorities_after₂ : List ℤ)
    → after_write r₁ (lists pulses_after₁ fine_after₁ priorities_after₁) buf_after₁ ≡ writing q h offsets caps (wr w buf) (lists pulses fine priorities) → after_write r₂ (lists pulses_after₂ fine_after₂ priorities_after₂) buf_after₂ ≡ writing q h offsets caps (wr w buf) (lists pulses fine priorities)
    → (r₁ ≡ r₂) × (buf_after₁ ≡ buf_after₂) × (pulses_after₁ ≡ pulses_after₂) × (fine_after₁ ≡ fine_after₂) × (priorities_after₁ ≡ priorities_after₂)
clt_compute_allocation_write w buf q h offsets caps pulses fine priorities r₁ r₂ buf_after₁ buf_after₂ pulses_after₁ pulses_after₂ fine_after₁ fine_after₂ priorities_after₁ priorities_after₂ e₁ e₂ =
    (entcode_said_same (ap (λ (x : AfterWrite). x.said) (one e₁ e₂)), ap (λ (x : AfterWrite). x.bytes) (one e₁ e₂), ap (λ (x : AfterWrite). x.lent.pulses) (one e₁ e₂), ap (λ (x : AfterWrite). x.lent.fine) (one e₁ e₂), ap (λ (x : AfterWrite). x.lent.priorities) (one e₁ e₂))
