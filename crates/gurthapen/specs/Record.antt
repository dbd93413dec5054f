-- The stream record, exported: the calls of stream and stream_saved, over lists. The energies e and the next number n hold the record.
use Rattle.std.specs.Prelude.{ℕ, ◌&&◌, List, Float, ℤ}
use Rattle.stream.specs.Frame.{fresh, call, framed}
use Rattle.stream_saved.specs.Lines.{saving, restoring}
use Rattle.gurthapen_answer.specs.Result.{Result, exported}
use Rattle.entcode.specs.Said.Said.{done}
use Rattle.gurthapen_answer.specs.Record.{lists_framed, lists_saved, lists_restored}
use Rattle.gurthapen_state.specs.Record.{is_record, record_of, record_in, lists_of}
use Rattle.gurthapen_state.specs.State.{reader_of, is_stored, is_long}

-- a record to which no frame was applied
abbrev pub freshes : List Float → List ℕ → Result (List Float × List ℕ)
freshes e n = exported (is_record e n) (done (lists_of fresh)) (e, n)

-- a frame of the packet s, with the numbers of its coarse decode
abbrev pub frames : List ℕ → ℕ → ℤ → ℤ → ℤ → ℤ → ℤ → List Float → List ℕ → List ℤ → Result ((List Float × List ℕ) × List ℤ)
frames s number c lm start end intra e n l =
    exported (is_record e n && is_stored l) (lists_framed (framed (record_in e n) (call (reader_of l) s number c lm start end intra))) ((e, n), l)

-- a record's line into the bytes b; v is where its length goes
abbrev pub saves : List Float → ℕ → List ℕ → List ℕ → Result (List ℕ × List ℕ)
saves e next v b = exported (is_long 42 e && is_long 1 v) (lists_saved (saving (record_of e next) b)) (v, b)

-- the record of a line
abbrev pub restores : List ℕ → List Float → List ℕ → Result (List Float × List ℕ)
restores line e n = exported (is_record e n) (lists_restored (restoring line)) (e, n)
