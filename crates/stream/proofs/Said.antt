-- Two answers to a frame that say the same are one. Assumes nothing.
use mathlib.Core.Path.{◌≡◌, ap}
use Rattle.entcode.proofs.Said.{verdict_same}
use Rattle.stream.specs.declared.Framed.{Framed as Answer}
use Rattle.stream.specs.Frame.{Framed, said_framed}

-- by the number of the refusal, the record and the reader
pub said_framed_same : {a b : Answer} → said_framed a ≡ said_framed b → a ≡ b
said_framed_same e =
    let k = verdict_same (ap (λ (x : Framed). x.code) e) in
    let r = ap (λ (x : Framed). x.rec) e in
    let d = ap (λ (x : Framed). x.next) e in
    λ i. record { answer = k i; rec = r i; next = d i }
