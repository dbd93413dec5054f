-- What a frame by value gave, as a step. Assumes nothing.
use Prim.Native.Nat.{ℕ, zero, suc}
use mathlib.Core.Path.{◌≡◌, refl, sym, ap, ◌∙◌}
use native.Mathlib.Omega.{arith}
use Rattle.std.specs.Prelude.{Result, Ok, Err}
use Rattle.entcode.specs.declared.reasons.Refusal.{Refusal}
use Rattle.entcode.specs.Refusal.{number_of}
use Rattle.entcode.specs.Said.{Said, answer, number, map_said, said, verdict}
use Rattle.entcode.specs.Said.Said.{done, refused}
use Rattle.entcode.proofs.Said.{answer-refused, some}
use Rattle.entdec.specs.declared.Reader.{Reader}
use Rattle.stream.specs.declared.Framed.{Framed}
use Rattle.stream.specs.declared.Record.{Record}
use Rattle.stream.specs.Frame as frame
use Rattle.stream.specs.Frame.{Call, frame_answer, said_framed}
use Rattle.stream_lent.specs.Lent.{step_of, stepped}

-- the reader after it where it was applied, else the refusal's number
told : (a : Result (Unit {0}) Refusal) (d : Reader) → map_said (λ u. d) (said a) ≡ answer (verdict a) d
unfolding answer
told (Ok u) d = refl
told (Err why) d = sym (answer-refused (number_of why) d (some why))

-- with the record after it
pub step-told : (y : Framed) (r : Result Reader Refusal) → said r ≡ map_said (λ u. y.next) (said y.answer)
    → stepped (said r) y.rec ≡ step_of (said_framed y)
step-told y r e = ap (λ (a : Said Reader). stepped a y.rec) (e ∙ told y.answer y.next)

-- ---- each case by itself

-- what a frame comes to: the record and the reader after it, or the number of the refusal
abbrev pub frame_said : frame.Framed → Said (Record × Reader)
frame_said z = answer z.code (z.rec, z.next)

-- what was applied, by the number of the refusal
applied : (n : ℕ) (r : Record) (d : Reader) (y : Record × Reader) → done y ≡ answer n (r, d) → stepped (done y.1) y.0 ≡ stepped (answer n d) r
unfolding answer
applied zero r d y e = let p : y ≡ (r, d) = cc in ap (λ (x : Record × Reader). stepped (done x.1) x.0) p
applied (suc n) r d y e = let p : ◌≡◌ {A = ℕ} 0 (suc n) = ap number e in absurd (omega arith)

-- a frame that was applied
pub step-done : (z : frame.Framed) (y : Record × Reader) → done y ≡ frame_said z → stepped (done y.1) y.0 ≡ step_of z
step-done z y e = applied z.code z.rec z.next y e

-- a refusal, which leaves the record
pub step-refused : (n : ℕ) (h : Record) (q : Call) (k : ℕ) → (k ≡ 0 → ⊥) → refused k ≡ frame_said (frame_answer n h q)
    → stepped (refused k) h ≡ step_of (frame_answer n h q)
unfolding answer frame_answer
step-refused zero h q k z e = absurd (z (ap number e))
step-refused (suc n) h q k z e = let p : k ≡ suc n = ap number e in ap (λ (m : ℕ). stepped (refused m) h) p
