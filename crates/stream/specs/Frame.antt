-- The stream record, and what a frame makes of it. Document 01, "Energies, shapes and the stream record".
use Rattle.std.specs.Prelude.{ℕ, zero, suc, ◌+◌, Bool, true, false, cond, ◌&&◌, List, ltb, leb, ℤ, pos, length, replicate}
use Rattle.std.specs.Float.{fin}
use Rattle.std.specs.Float.Ieee.Scale.{finite}
use Rattle.laws.specs.Lists.{every}
use Rattle.laws.specs.Signs.{clip}
use Rattle.entcode.specs.Refusal.{refusal}
use Rattle.entcode.specs.Said.{verdict}
use Rattle.entdec.specs.declared.Reader.{Reader}
use Rattle.entdec.specs.Rule.{read_refusal}
use Rattle.quant_bands.specs.Coarse.{coarse}
use Rattle.quant_bands.specs.Question.{coarse_ok, is_intra}
use Rattle.stream.specs.declared.Record.{Record}
use Rattle.stream.specs.declared.Framed.{Framed as Answer}

-- the record before the first frame: 42 energies of zero, and number 0 comes next
unfoldable pub fresh : Record
fresh = record { energies = replicate 42 (fin false 0 (pos 0)); next = 0 }

-- ---- a frame

-- what a frame call is handed beside the record: the reader, its packet, the frame's number, and the numbers of the coarse decode
pub record Call : Type 0 where
  pub coder : Reader
  pub packet : List ℕ
  pub number : ℕ
  pub c : ℤ
  pub lm : ℤ
  pub start : ℤ
  pub end : ℤ
  pub intra : ℤ

-- from its parts
abbrev pub call : Reader → List ℕ → ℕ → ℤ → ℤ → ℤ → ℤ → ℤ → Call
call d s number c lm start end intra =
    record { coder = d; packet = s; number = number; c = c; lm = lm; start = start; end = end; intra = intra }

-- ---- the refusals

-- a frame's number against the next one: below it 10, above it 11, the next itself 0
abbrev pub order_of : ℕ → ℕ → ℕ
order_of next number = cond (ltb number next) 10 (cond (ltb next number) 11 0)

-- a frame's number 0..4,294,967,294, and the record's next at most one more (1)
abbrev pub both_in_domain : ℕ → ℕ → Bool
both_in_domain next number = leb number 4294967294 && leb next 4294967295

-- what `order` answers, 0 for the next number itself: 1 a number outside its domain, 10 or 11 the order
unfoldable pub ordered : ℕ → ℕ → ℕ
ordered next number = refusal true (both_in_domain next number) true (order_of next number) true true

-- C, LM, the bands and intra as for a coarse decode, the frame's number and the record's next in their domain (1)
unfoldable pub numbers_ok : ℕ → ℕ → ℤ → ℤ → ℤ → ℤ → ℤ → Bool
numbers_ok next number c lm start end intra = coarse_ok c lm start end intra && both_in_domain next number

-- the number of the refusal, 0 for none: 2 bytes, 1 state and numbers, 3 the record's energies, 10 or 11 the order, 4
unfoldable pub refusal_frame : Record → Call → ℕ
refusal_frame r q =
    read_refusal (length q.packet) q.coder true (numbers_ok r.next q.number q.c q.lm q.start q.end q.intra)
    (every finite r.energies) (order_of r.next q.number)

-- ---- the answer

-- what a frame comes to: code 0, and the record and the reader after it; or the number of the refusal, and both as they were
pub record Framed : Type 0 where
  pub code : ℕ
  pub rec : Record
  pub next : Reader

-- of an answer
abbrev pub said_framed : Answer → Framed
said_framed y = record { code = verdict y.answer; rec = y.rec; next = y.next }

-- a frame that is applied, of numbers as counts: one coarse decode of the record's energies, and the next number goes up by one
abbrev pub applied_counts : Record → Reader → List ℕ → ℕ → ℕ → Bool → ℕ → ℕ → Framed
applied_counts r d s c lm intra start end =
    let y = coarse c lm intra start end s d r.energies in
    record { code = 0; rec = record { energies = y.energies; next = r.next + 1 }; next = y.next }

-- of the numbers that a call is handed
abbrev pub applied : Record → Reader → List ℕ → ℤ → ℤ → ℤ → ℤ → ℤ → Framed
applied r d s c lm start end intra = applied_counts r d s (clip c) (clip lm) (is_intra intra) (clip start) (clip end)

-- a frame that is refused: record and reader as they were
abbrev pub frame_refused : ℕ → Record → Reader → Framed
frame_refused n r d = record { code = n; rec = r; next = d }

-- number 0: the frame applied; any other: that refusal
unfoldable pub frame_answer : ℕ → Record → Call → Framed
frame_answer zero r q = applied r q.coder q.packet q.c q.lm q.start q.end q.intra
frame_answer (suc n) r q = frame_refused (suc n) r q.coder

-- a checked frame
abbrev pub framed : Record → Call → Framed
framed r q = frame_answer (refusal_frame r q) r q
