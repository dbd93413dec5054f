-- What the answers of stream and stream_saved say, in lists.
use Rattle.std.specs.Prelude.{ℕ, List, Float, ℤ}
use Rattle.entcode.specs.Said.{Said, answer}
use Rattle.stream.specs.Frame.{Framed}
use Rattle.stream_saved.specs.Lines.{After, Restored}
use Rattle.gurthapen_answer.specs.Result.{also, lists_number}
use Rattle.gurthapen_state.specs.Record.{lists_of}
use Rattle.gurthapen_state.specs.State.{list_of_reader}

-- of a frame, by its code: the record's lists, and the next reader's
abbrev pub lists_framed : Framed → Said ((List Float × List ℕ) × List ℤ)
lists_framed y = answer y.code (lists_of y.rec, list_of_reader y.next)

-- of restoring, by its code: the record's lists
abbrev pub lists_restored : Restored → Said (List Float × List ℕ)
lists_restored y = answer y.code (lists_of y.rec)

-- of saving: the line's length, and the bytes beside it
abbrev pub lists_saved : After → Said (List ℕ × List ℕ)
lists_saved y = also (lists_number y.said) y.bytes
