-- The 42 energies of a line, field by field, and what they give with the line's next number and letter.
use Rattle.std.specs.Prelude.{Option}
use Rattle.std.specs.Prelude.{ℕ, suc, true, ◌&&◌, ◌||◌, List, [], ◌∷◌, eqb, set}
use Rattle.entcode.specs.Refusal.{refusal}
use Rattle.stream.specs.declared.Record.{Record}
use Rattle.stream.specs.Frame.{fresh}
use Rattle.stream_saved.specs.declared.Energy.{Energy}
use Rattle.stream_saved.specs.declared.Fields.{Fields}
use Rattle.stream_saved.specs.Fields.{not_wrong, not_wild, float_of}
use Rattle.stream_saved.specs.Lines.{is_number, the_number}

-- before the first field: nothing is wrong or wild, and no energy is stored
abbrev pub none_read : Fields
none_read = record { good = true; tame = true; e = fresh.energies }

-- what field k says, put to what the fields before it said
abbrev pub read_field : Fields → ℕ → Energy → Fields
read_field f k v = record { good = f.good && not_wrong v; tame = f.tame && not_wild v; e = set f.e k (float_of v) }

-- the fields from k on
unfoldable pub read_from : Fields → ℕ → List Energy → Fields
read_from f k [] = f
read_from f k (v ∷ vs) = read_from (read_field f k v) (suc k) vs

-- the number of the refusal, 0 for none, of a line of 44 fields
abbrev pub refusal_fields : Option ℕ → ℕ → Fields → ℕ
refusal_fields n letter f = refusal true (is_number n && ((eqb letter 69 || eqb letter 81) && f.good)) f.tame 0 true true

-- the record of their energies
abbrev pub record_of_fields : Option ℕ → Fields → Record
record_of_fields n f = record { energies = f.e; next = the_number n }
