-- cwrs: any two results that a contract allows are equal. Written by tools/decided.
use Prim.Native.Nat.{ℕ}
use Rattle.cwrs.specs.Answer.{AfterRead, after_read, reading, writing}
use Rattle.cwrs.specs.declared.Found.{Found}
use Rattle.decided.proofs.One.{one}
use Rattle.entcode.proofs.Said.{said_same as entcode_said_same}
use Rattle.entcode.specs.declared.reasons.Refusal.{Refusal}
use Rattle.entdec.specs.declared.Reader.{Reader}
use Rattle.entenc.specs.Answer.{After, after}
use Rattle.entenc.specs.Write.{wr}
use Rattle.entenc.specs.declared.Writer.{Writer}
use Rattle.std.specs.Prelude.{Result, ◌≡◌}
use lib.IntN.{ℤ}
use mathlib.Core.List.{List}
use mathlib.Core.Path.{ap}

-- decode_pulses
pub decode_pulses : (d : Reader) (s : List ℕ) (y : List ℤ) (n : ℕ) (k : ℕ) (r₁ r₂ : Result Found Refusal) (y_after₁ y_after₂ : List ℤ)
    → after_read r₁ y_after₁ ≡ reading n k s d y → after_read r₂ y_after₂ ≡ reading n k s d y
    → (r₁ ≡ r₂) × (y_after₁ ≡ y_after₂)
decode_pulses d s y n k r₁ r₂ y_after₁ y_after₂ e₁ e₂ =
    (entcode_said_same (ap (λ (x : AfterRead). x.said) (one e₁ e₂)), ap (λ (x : AfterRead). x.places) (one e₁ e₂))

-- encode_pulses
pub encode_pulses : (w : Writer) (buf : List ℕ) (y : List ℤ) (n : ℕ) (k : ℕ) (r₁ r₂ : Result Writer Refusal) (buf_after₁ buf_after₂ : List ℕ)
    → after r₁ buf_after₁ ≡ writing n k y (wr w buf) → after r₂ buf_after₂ ≡ writing n k y (wr w buf)
    → (r₁ ≡ r₂) × (buf_after₁ ≡ buf_after₂)
encode_pulses w buf y n k r₁ r₂ buf_after₁ buf_after₂ e₁ e₂ =
    (entcode_said_same (ap (λ (x : After). x.said) (one e₁ e₂)), ap (λ (x : After). x.bytes) (one e₁ e₂))
