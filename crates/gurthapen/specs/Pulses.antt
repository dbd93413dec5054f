-- Pulse words, exported: cwrs' calls, over lists.
use Rattle.std.specs.Prelude.{ℕ, ◌&&◌, List, ℤ}
use Rattle.entenc.specs.Write.{wr}
use Rattle.cwrs.specs.Answer.{reading, writing}
use Rattle.gurthapen_answer.specs.Result.{Result, exported}
use Rattle.gurthapen_state.specs.State.{reader_of, writer_of, is_stored, is_long}
use Rattle.gurthapen_answer.specs.Enc.{lists_wrote}
use Rattle.gurthapen_answer.specs.Pulses.{lists_placed}

-- a vector of n places and k pulses, read from the packet s into the places y; e is where its energy goes
abbrev pub decodes : ℕ → ℕ → List ℕ → List ℤ → List ℕ → List ℤ → Result ((List ℤ × List ℕ) × List ℤ)
decodes n k s l e y = exported (is_stored l && is_long 1 e) (lists_placed (reading n k s (reader_of l) y)) ((l, e), y)

-- the vector y, written
abbrev pub encodes : ℕ → ℕ → List ℤ → List ℤ → List ℕ → Result (List ℤ × List ℕ)
encodes n k y l b = exported (is_stored l) (lists_wrote (writing n k y (wr (writer_of l) b))) (l, b)
