-- Two answers of restoring that say the same are one. Assumes nothing.
use Rattle.std.specs.Prelude.{Result}
use mathlib.Core.Path.{◌≡◌, ap, ap₂}
use Rattle.entcode.specs.declared.reasons.Refusal.{Refusal}
use Rattle.entcode.proofs.Said.{verdict_same}
use Rattle.stream.specs.declared.Record.{Record}
use Rattle.stream_saved.specs.Answer.{Restored as Answer}
use Rattle.stream_saved.specs.Lines.{Restored, said_restored}

-- by the number of the refusal, and the record
pub said_restored_same : {a b : Answer} → said_restored a ≡ said_restored b → a ≡ b
said_restored_same e =
    ap₂ (λ (k : Result (Unit {0}) Refusal) (r : Record). record { answer = k; rec = r }) (verdict_same (ap (λ (x : Restored). x.code) e))
    (ap (λ (x : Restored). x.rec) e)
