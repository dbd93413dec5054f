-- Two steps that say the same, with the same numbers after it, are one. Assumes nothing.
use mathlib.Core.Path.{◌≡◌, ap, ap₂}
use Rattle.std.specs.Prelude.{Result}
use Rattle.entcode.specs.declared.reasons.Refusal.{Refusal}
use Rattle.entcode.proofs.Said.{said_same}
use Rattle.entdec.specs.declared.Reader.{Reader}
use Rattle.reader_held.specs.declared.Step.{Step}
use Rattle.reader_held.specs.declared.EcDec.{EcDec}
use Rattle.reader_held.specs.declared.Opened.{Opened}
use Rattle.reader_held.specs.Held.{Stepped, Opening, said_step, said_opening}

-- two that say the same are one
pub said_step-same : {A : Type 0} {a b : Step A} → said_step a ≡ said_step b → a ≡ b
said_step-same {A} e =
    ap₂ (λ (k : Result A Refusal) (d : Reader). record { answer = k; next = d }) (said_same (ap (λ (x : Stepped A). x.said) e))
    (ap (λ (x : Stepped A). x.next) e)

-- two opened readers that say the same are one
pub said_opening_same : {a b : Opened} → said_opening a ≡ said_opening b → a ≡ b
said_opening_same e =
    ap₂ (λ (d : EcDec) (k : Result (Unit {0}) Refusal). record { dec = d; answer = k }) (ap (λ (x : Opening). x.dec) e)
    (said_same (ap (λ (x : Opening). x.said) e))
