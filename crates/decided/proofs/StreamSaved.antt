-- stream_saved: any two results that a contract allows are equal. Written by tools/decided.
use Prim.Native.Nat.{ℕ}
use Rattle.decided.proofs.One.{one}
use Rattle.entcode.proofs.Said.{said_same as entcode_said_same}
use Rattle.entcode.specs.declared.reasons.Refusal.{Refusal}
use Rattle.std.specs.Prelude.{Result, ◌≡◌}
use Rattle.stream.specs.declared.Record.{Record}
use Rattle.stream_saved.proofs.Said.{said_restored_same as stream_saved_said_restored_same}
use Rattle.stream_saved.specs.Answer.{Restored}
use Rattle.stream_saved.specs.Lines.{After, after, restoring, said_restored, saving}
use mathlib.Core.List.{List}
use mathlib.Core.Path.{ap}

-- save
pub save : (rec : Record) (buf : List ℕ) (r₁ r₂ : Result ℕ Refusal) (buf_after₁ buf_after₂ : List ℕ)
    → after r₁ buf_after₁ ≡ saving rec buf → after r₂ buf_after₂ ≡ saving rec buf
    → (r₁ ≡ r₂) × (buf_after₁ ≡ buf_after₂)
save rec buf r₁ r₂ buf_after₁ buf_after₂ e₁ e₂ =
    (entcode_said_same (ap (λ (x : After). x.said) (one e₁ e₂)), ap (λ (x : After). x.bytes) (one e₁ e₂))

-- restore
pub restore : (s : List ℕ) (r₁ r₂ : Restored)
    → said_restored r₁ ≡ restoring s → said_restored r₂ ≡ restoring s
    → r₁ ≡ r₂
restore s r₁ r₂ e₁ e₂ =
    stream_saved_said_restored_same (one e₁ e₂)
