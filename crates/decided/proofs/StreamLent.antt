-- stream_lent: any two results that a contract allows are equal. Written by tools/decided.
use Rattle.decided.proofs.One.{one}
use Rattle.entcode.proofs.Said.{said_same as entcode_said_same}
use Rattle.entcode.specs.Said.{said}
use Rattle.entcode.specs.Said.Said.{refused}
use Rattle.entcode.specs.declared.reasons.Refusal.{Refusal}
use Rattle.entdec.specs.declared.Reader.{Reader}
use Rattle.std.specs.Prelude.{Result, ℕ, ◌≡◌}
use Rattle.stream.specs.Frame.{call, framed}
use Rattle.stream.specs.declared.Record.{Record}
use Rattle.stream_lent.specs.Lent.{step_of}
use lib.IntN.{ℤ}
use mathlib.Core.List.{List}

-- frame
pub frame : (rec : Record) (d : Reader) (s : List ℕ) (number : ℕ) (c : ℤ) (lm : ℤ) (start : ℤ) (end : ℤ) (intra : ℤ) (r₁ r₂ : Result Reader Refusal) (rec_after₁ rec_after₂ : Record)
    → ((said r₁ ≡ (step_of (framed rec (call d s number c lm start end intra))).said) × (rec_after₁ ≡ (step_of (framed rec (call d s number c lm start end intra))).rec) × ((n : ℕ) → said r₁ ≡ refused n → rec_after₁ ≡ rec)) → ((said r₂ ≡ (step_of (framed rec (call d s number c lm start end intra))).said) × (rec_after₂ ≡ (step_of (framed rec (call d s number c lm start end intra))).rec) × ((n : ℕ) → said r₂ ≡ refused n → rec_after₂ ≡ rec))
    → (r₁ ≡ r₂) × (rec_after₁ ≡ rec_after₂)
frame rec d s number c lm start end intra r₁ r₂ rec_after₁ rec_after₂ e₁ e₂ =
    (entcode_said_same (one e₁.0 e₂.0), one e₁.1 e₂.1)
