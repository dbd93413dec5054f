-- stream_lent::plain: any two results that a contract allows are equal. Written by tools/decided.
use Prim.Native.Nat.{ℕ}
use Rattle.decided.proofs.One.{one}
use Rattle.entdec.specs.declared.Reader.{Reader}
use Rattle.std.specs.Prelude.{◌≡◌}
use Rattle.stream.specs.Frame.{call, framed}
use Rattle.stream.specs.declared.Record.{Record}
use Rattle.stream_lent.proofs.Said.{said_step-same as stream_lent_said_step_same}
use Rattle.stream_lent.specs.Lent.{said_step, step_of}
use Rattle.stream_lent.specs.declared.AppliedStep.{AppliedStep}
use lib.IntN.{ℤ}
use mathlib.Core.List.{List}

-- plain::frame
pub plain_frame : (rec : Record) (d : Reader) (s : List ℕ) (number : ℕ) (c : ℤ) (lm : ℤ) (start : ℤ) (end : ℤ) (intra : ℤ) (r₁ r₂ : AppliedStep)
    → said_step r₁ ≡ step_of (framed rec (call d s number c lm start end intra)) → said_step r₂ ≡ step_of (framed rec (call d s number c lm start end intra))
    → r₁ ≡ r₂
plain_frame rec d s number c lm start end intra r₁ r₂ e₁ e₂ =
    stream_lent_said_step_same (one e₁ e₂)
