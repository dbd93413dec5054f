-- stream: any two results that a contract allows are equal. Written by tools/decided.
use Prim.Native.Nat.{ℕ}
use Rattle.decided.proofs.One.{one}
use Rattle.entcode.proofs.Said.{verdict_same as entcode_verdict_same}
use Rattle.entcode.specs.Said.{verdict}
use Rattle.entcode.specs.declared.reasons.Refusal.{Refusal}
use Rattle.entdec.specs.declared.Reader.{Reader}
use Rattle.std.specs.Prelude.{Result, ◌≡◌}
use Rattle.stream.proofs.Said.{said_framed_same as stream_said_framed_same}
use Rattle.stream.specs.Frame.{call, framed, fresh, ordered, said_framed}
use Rattle.stream.specs.declared.Framed.{Framed}
use Rattle.stream.specs.declared.Record.{Record}
use lib.IntN.{ℤ}
use mathlib.Core.List.{List}

-- order
pub order : (next : ℕ) (number : ℕ) (r₁ r₂ : Result (Unit {0}) Refusal)
    → verdict r₁ ≡ ordered next number → verdict r₂ ≡ ordered next number
    → r₁ ≡ r₂
order next number r₁ r₂ e₁ e₂ =
    entcode_verdict_same (one e₁ e₂)

-- Record::fresh
pub Record_fresh : (r₁ r₂ : Record)
    → r₁ ≡ fresh → r₂ ≡ fresh
    → r₁ ≡ r₂
Record_fresh r₁ r₂ e₁ e₂ =
    one e₁ e₂

-- Record::frame
pub Record_frame : (self : Record) (d : Reader) (s : List ℕ) (number : ℕ) (c : ℤ) (lm : ℤ) (start : ℤ) (end : ℤ) (intra : ℤ) (r₁ r₂ : Framed)
    → said_framed r₁ ≡ framed self (call d s number c lm start end intra) → said_framed r₂ ≡ framed self (call d s number c lm start end intra)
    → r₁ ≡ r₂
Record_frame self d s number c lm start end intra r₁ r₂ e₁ e₂ =
    stream_said_framed_same (one e₁ e₂)
