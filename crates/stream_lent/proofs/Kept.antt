-- A frame that is refused leaves the record as it was. Assumes nothing.
use Prim.Native.Nat.{ℕ, zero, suc}
use mathlib.Core.Path.{◌≡◌, refl, ap, sym, ◌∙◌}
use mathlib.Core.Bool.{Bool, true, false, true≢false}
use Rattle.entcode.specs.Said.{Said, answer as said-by, said}
use Rattle.entcode.specs.Said.Said.{done, refused}
use Rattle.entdec.specs.declared.Reader.{Reader}
use Rattle.stream.specs.declared.Record.{Record}
use Rattle.stream.specs.Frame.{Call, frame_answer, framed, refusal_frame}
use Rattle.stream_lent.specs.declared.AppliedStep.{AppliedStep}
use Rattle.stream_lent.specs.Lent.{Stepped, said_step, step_of}

-- it is no refusal
abbrev is_done : Said Reader → Bool
is_done (done d) = true
is_done (refused n) = false

-- by the number of the refusal
keeps : (n : ℕ) (r : Record) (q : Call) (k : ℕ) → (step_of (frame_answer n r q)).said ≡ refused k → (frame_answer n r q).rec ≡ r
unfolding frame_answer said-by
keeps zero r q k f = absurd (true≢false (ap is_done f))
keeps (suc n) r q k f = refl

-- of what a frame gave
refused-keeps : (h : Record) (q : Call) (r : AppliedStep) → said_step r ≡ step_of (framed h q) → (k : ℕ) → said r.answer ≡ refused k → r.rec ≡ h
refused-keeps h q r e k f =
    ap (λ (x : Stepped). x.rec) e ∙ keeps (refusal_frame h q) h q k (sym (ap (λ (x : Stepped). x.said) e) ∙ f)

-- what a frame gave, part by part
pub lent : (h : Record) (q : Call) (r : AppliedStep) → said_step r ≡ step_of (framed h q)
    → (said r.answer ≡ (step_of (framed h q)).said) × (r.rec ≡ (step_of (framed h q)).rec) × ((k : ℕ) → said r.answer ≡ refused k → r.rec ≡ h)
lent h q r e = (ap (λ (x : Stepped). x.said) e, ap (λ (x : Stepped). x.rec) e, refused-keeps h q r e)
