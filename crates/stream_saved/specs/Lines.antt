-- Saving a record as a line of text, and restoring one. Document 01, "Energies, shapes and the stream record".
use Rattle.std.specs.Prelude.{ℕ, zero, suc, Bool, true, false, ◌&&◌, ◌||◌, List, ◌∷◌, map, leb, eqb, length, drop, Option, Some, None, Result}
use Rattle.entcode.specs.declared.reasons.Refusal.{Refusal}
use Rattle.std.specs.Float.Ieee.Scale.{finite}
use Rattle.std.proofs.lemmas.List.Edits.{sets}
use Rattle.laws.specs.Lists.{every}
use Rattle.entcode.specs.Refusal.{refusal}
use Rattle.entcode.specs.Said.{Said, answer, lent_after, said, verdict}
use Rattle.text.specs.Fields.{fields_of, field_of, tabbed}
use Rattle.text.specs.Numbers.{number_of}
use Rattle.text.specs.Written.{decimal_of}
use Rattle.stream.specs.declared.Record.{Record}
use Rattle.stream.specs.Frame.{fresh}
use Rattle.stream_saved.specs.declared.WithRecord.{WithRecord}
use Rattle.stream_saved.specs.Answer.{Restored as Answer}
use Rattle.stream_saved.specs.declared.Energy.{Energy}
use Rattle.stream_saved.specs.Fields.{energy_text, energy_of, letter_of, not_wrong, not_wild, float_of}

-- ---- saving

-- the line of a record: E, the next number in decimal, the energies
abbrev pub saved_line : Record → List ℕ
saved_line r = 69 ∷ tabbed (decimal_of r.next ∷ map energy_text r.energies)

-- the number of the refusal, 0 for none, with so many bytes lent: fewer than 390, which the longest line takes (2), the next number above
-- 4,294,967,295 (1), an energy that is not finite (3)
unfoldable pub refusal_save : ℕ → Record → ℕ
refusal_save n r = refusal (leb 390 n) (leb r.next 4294967295) (every finite r.energies) 0 true true

-- what is said, and the lent bytes after the call
pub record After : Type 0 where
  pub said : Said ℕ
  pub bytes : List ℕ

-- both together
abbrev pub after : Result ℕ Refusal → List ℕ → After
after a b = record { said = said a; bytes = b }

-- number 0: the line stands at the front, and its length is answered; any other: that refusal, and the bytes as they were
abbrev pub answer_saved : ℕ → List ℕ → List ℕ → After
answer_saved n line buf = record { said = answer n (length line); bytes = lent_after n (sets buf 0 line) buf }

-- a checked save
abbrev pub saving : Record → List ℕ → After
saving r buf = answer_saved (refusal_save (length buf) r) (saved_line r) buf

-- ---- restoring

-- a number was read
abbrev pub is_number : Option ℕ → Bool
is_number (Some v) = true
is_number None = false

-- which one; 0 where there is none
abbrev pub the_number : Option ℕ → ℕ
the_number (Some v) = v
the_number None = 0

module _ (s : List ℕ) where
  -- the letter: E is 69, Q is 81
  abbrev pub letter : ℕ
  letter = letter_of (field_of s 0)

  -- the next number, 0..4,294,967,295
  abbrev pub next_read : Option ℕ
  next_read = number_of 4294967295 (field_of s 1)

  -- what the fields after it say
  abbrev pub energies_read : List Energy
  energies_read = map (energy_of letter) (drop 2 (fields_of s))

  -- 44 fields: E or Q, a number, and 42 fields of the line's kind; else 1
  unfoldable pub well_formed : Bool
  well_formed = eqb (length (fields_of s)) 44 && (is_number next_read && ((eqb letter 69 || eqb letter 81) && every not_wrong energies_read))

  -- the number of the refusal, 0 for none: malformed (1), an energy that is not finite (3)
  unfoldable pub refusal_line : ℕ
  refusal_line = refusal true well_formed (every not_wild energies_read) 0 true true

  -- the record that a well-formed line stands for
  abbrev pub record_read : Record
  record_read = record { energies = map float_of energies_read; next = the_number next_read }

-- the record beside a refusal: its next number is outside the domain, so that every call refuses it (specs/Back.antt)
unfoldable pub no_record : Record
no_record = record { energies = fresh.energies; next = 4294967296 }

-- what restoring comes to: code 0 and the record, or the number of the refusal and that record
pub record Restored : Type 0 where
  pub code : ℕ
  pub rec : Record

-- of a verdict with a record, by the verdict's number
abbrev pub said_with : {V : Type 0} → (V → ℕ) → WithRecord V → Restored
said_with number y = record { code = number y.answer; rec = y.rec }

-- of an answer
abbrev pub said_restored : Answer → Restored
said_restored y = said_with verdict y

-- a refusal
abbrev pub refused_as : ℕ → Restored
refused_as n = record { code = n; rec = no_record }

-- number 0: the record; any other: that refusal
unfoldable pub answer_restored : ℕ → Record → Restored
answer_restored zero r = record { code = 0; rec = r }
answer_restored (suc n) r = refused_as (suc n)

-- a line restored
abbrev pub restoring : List ℕ → Restored
restoring s = answer_restored (refusal_line s) (record_read s)
