-- laplace: any two results that a contract allows are equal. Written by tools/decided.
use Prim.Native.Nat.{ℕ}
use Rattle.decided.proofs.One.{one}
use Rattle.entcode.proofs.Said.{said_same as entcode_said_same}
use Rattle.entcode.specs.Said.{said}
use Rattle.entcode.specs.declared.reasons.Refusal.{Refusal}
use Rattle.entdec.specs.declared.Reader.{Reader}
use Rattle.entenc.specs.Write.{wr}
use Rattle.entenc.specs.declared.Writer.{Writer}
use Rattle.laplace.specs.Answer.{After, after, reading, writing}
use Rattle.laplace.specs.Coded.{LapDone, LapSym}
use Rattle.std.specs.Prelude.{Result, ◌≡◌}
use lib.IntN.{ℤ}
use mathlib.Core.List.{List}
use mathlib.Core.Path.{ap}

-- ec_laplace_decode
pub ec_laplace_decode : (d : Reader) (s : List ℕ) (fs : ℕ) (decay : ℕ) (r₁ r₂ : Result LapSym Refusal)
    → said r₁ ≡ reading fs decay s d → said r₂ ≡ reading fs decay s d
    → r₁ ≡ r₂
ec_laplace_decode d s fs decay r₁ r₂ e₁ e₂ =
    entcode_said_same (one e₁ e₂)

-- ec_laplace_encode
pub ec_laplace_encode : (w : Writer) (buf : List ℕ) (value : ℤ) (fs : ℕ) (decay : ℕ) (r₁ r₂ : Result LapDone Refusal) (buf_after₁ buf_after₂ : List ℕ)
    → after r₁ buf_after₁ ≡ writing fs decay value (wr w buf) → after r₂ buf_after₂ ≡ writing fs decay value (wr w buf)
    → (r₁ ≡ r₂) × (buf_after₁ ≡ buf_after₂)
ec_laplace_encode w buf value fs decay r₁ r₂ buf_after₁ buf_after₂ e₁ e₂ =
    (entcode_said_same (ap (λ (x : After). x.said) (one e₁ e₂)), ap (λ (x : After). x.bytes) (one e₁ e₂))
