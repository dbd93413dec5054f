-- What saving and restoring promise. The theorems stand here as statements; their proofs are in proofs/Round.antt, proofs/Sound.antt,
-- proofs/Exact.antt, proofs/Short.antt, proofs/NoRecord.antt and proofs/Across.antt.
use Rattle.std.specs.Prelude.{ℕ, ◌-◌, ◌≤◌, ◌<◌, ◌≡◌, cond, ◌&&◌, List, [], ◌∷◌, leb, eqb, ℤ, nat_abs, length}
use Rattle.std.specs.Float.Ieee.Exact.{HasValue}
use Rattle.laws.specs.Signs.{is_neg}
use Rattle.stream.specs.declared.Record.{Record}
use Rattle.stream.specs.Frame.{Call, ordered, frame_refused, framed}
use Rattle.stream.specs.History.{Usable, record_after, applied_in, numbers_from, times}
use Rattle.stream_saved.specs.Fields.{in256ths}
use Rattle.stream_saved.specs.Lines.{saved_line, refusal_save, no_record, refused_as, restoring}

-- a record of 42 finite f32 and a next number of its domain is restored from its line as it was, bit for bit: -0.0 comes back as -0.0, which
-- is another value than 0.0 here
abbrev pub RestoredAsSaved : Type 0
RestoredAsSaved = (r : Record) → Usable r → r.next ≤ 4294967295 → restoring (saved_line r) ≡ record { code = 0; rec = r }

-- so a frame gets from it what the saved record would answer: what was applied only after the save can be applied again, in its order
abbrev pub AnswersAsSaved : Type 0
AnswersAsSaved = (r : Record) → Usable r → r.next ≤ 4294967295 → (q : Call) → framed (restoring (saved_line r)).rec q ≡ framed r q

-- whatever line is accepted, the record that restoring hands back has 42 finite f32 and a next number of its domain
abbrev pub RestoredIsUsable : Type 0
RestoredIsUsable = (s : List ℕ) → (restoring s).code ≡ 0 → Usable (restoring s).rec × ((restoring s).rec.next ≤ 4294967295)

-- a line of more than 390 bytes is malformed, whatever they are: it need not be read
abbrev pub LongIsMalformed : Type 0
LongIsMalformed = (s : List ℕ) → 390 < length s → restoring s ≡ refused_as 1

-- a number of 256ths on a Q line is a value of an f32: no rounding takes place
abbrev pub NothingRounded : Type 0
NothingRounded = (z : ℤ) → nat_abs z ≤ 32768 → HasValue (in256ths z) (is_neg z) (nat_abs z) 256

-- ---- a refused line

-- whatever line is refused, and with whatever number, restoring hands back one and the same record
abbrev pub RefusedGivesNoRecord : Type 0
RefusedGivesNoRecord = (s : List ℕ) → ((restoring s).code ≡ 0 → ⊥) → (restoring s).rec ≡ no_record

-- every frame on it is refused, as 2 where its bytes are not as many as its reader's storage, else as 1, and record and reader stay as they were
abbrev pub NoRecordNoFrame : Type 0
NoRecordNoFrame = (q : Call) → framed no_record q ≡ frame_refused (cond (eqb q.coder.storage (length q.packet)) 1 2) no_record q.coder

-- so after a refused line no frame is applied, whatever calls come
abbrev pub NoRecordNothingApplied : Type 0
NoRecordNothingApplied = (qs : List Call) → (applied_in no_record qs ≡ []) × (record_after no_record qs ≡ no_record)

-- it is not saved: 2 where fewer than 390 bytes are lent, else 1
abbrev pub NoRecordNoLine : Type 0
NoRecordNoLine = (n : ℕ) → refusal_save n no_record ≡ cond (leb 390 n) 1 2

-- and `order` refuses its next number as 1, whatever the frame's
abbrev pub NoRecordNoOrder : Type 0
NoRecordNoOrder = (number : ℕ) → ordered no_record.next number ≡ 1

-- ---- a stream of frames across saved lines

-- what befalls a record: a frame call; or it is saved in so many bytes, and goes on as restored from the line just saved (an older line brings
-- back the record of its time, AnswersAsSaved)
pub data Event : Type 0 where
  frame : Call → Event
  reload : ℕ → Event

-- the record that goes on: the restored one where save and restore both accept, else the one that was there
abbrev pub reloaded : ℕ → Record → Record
reloaded n r = cond (eqb (refusal_save n r) 0 && eqb (restoring (saved_line r)).code 0) (restoring (saved_line r)).rec r

-- the record after some events
unfoldable pub record_over : Record → List Event → Record
record_over r [] = r
record_over r (frame q ∷ es) = record_over (framed r q).rec es
record_over r (reload n ∷ es) = record_over (reloaded n r) es

-- the numbers of those frames that were applied, in their order
unfoldable pub applied_over : Record → List Event → List ℕ
applied_over r [] = []
applied_over r (frame q ∷ es) = cond (eqb (framed r q).code 0) (q.number ∷ applied_over (framed r q).rec es) (applied_over (framed r q).rec es)
applied_over r (reload n ∷ es) = applied_over (reloaded n r) es

-- from any record, the numbers applied before, between and after the saves together count up by one from its next number
abbrev pub CountsAcross : Type 0
CountsAcross =
    (r : Record) (es : List Event)
    → (r.next ≤ (record_over r es).next) × (applied_over r es ≡ numbers_from r.next ((record_over r es).next - r.next))

-- so none of them is applied twice
abbrev pub OnceAcross : Type 0
OnceAcross = (r : Record) (es : List Event) (n : ℕ) → times n (applied_over r es) ≤ 1
