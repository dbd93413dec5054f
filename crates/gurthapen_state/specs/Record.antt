-- A stream's record as other languages hold it: a list of 42 energies, channel 1 from place 21 on, and a list of one number, its next frame's.
use Rattle.std.specs.Prelude.{ℕ, Bool, ◌&&◌, List, [], ◌∷◌, Float, get_or}
use Rattle.stream.specs.declared.Record.{Record}
use Rattle.gurthapen_state.specs.State.{is_long}

-- the two lists can hold a record
abbrev pub is_record : List Float → List ℕ → Bool
is_record e n = is_long 42 e && is_long 1 n

-- the record of these energies and this next number
abbrev pub record_of : List Float → ℕ → Record
record_of e next = record { energies = e; next = next }

-- the record that the two lists hold
abbrev pub record_in : List Float → List ℕ → Record
record_in e n = record_of e (get_or n 0 0)

-- and back
abbrev pub lists_of : Record → List Float × List ℕ
lists_of r = (r.energies, r.next ∷ [])
