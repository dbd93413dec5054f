-- Two steps that say the same, with the same record after it, are one. Assumes nothing.
use Rattle.std.specs.Prelude.{Result}
use mathlib.Core.Path.{◌≡◌, ap, ap₂}
use Rattle.entcode.specs.declared.reasons.Refusal.{Refusal}
use Rattle.entcode.proofs.Said.{said_same}
use Rattle.entdec.specs.declared.Reader.{Reader}
use Rattle.stream.specs.declared.Record.{Record}
use Rattle.stream_lent.specs.declared.AppliedStep.{AppliedStep}
use Rattle.stream_lent.specs.Lent.{Stepped, said_step}

-- two that say the same are one
pub said_step-same : {a b : AppliedStep} → said_step a ≡ said_step b → a ≡ b
said_step-same e =
    ap₂ (λ (k : Result Reader Refusal) (r : Record). record { answer = k; rec = r }) (said_same (ap (λ (x : Stepped). x.said) e))
    (ap (λ (x : Stepped). x.rec) e)
