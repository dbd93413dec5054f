-- Laplace values, exported: laplace's calls, over lists.
use Rattle.std.specs.Prelude.{ℕ, ◌&&◌, List, ℤ}
use Rattle.entenc.specs.Write.{wr}
use Rattle.laplace.specs.Answer.{reading, writing}
use Rattle.gurthapen_answer.specs.Result.{Result, exported}
use Rattle.gurthapen_state.specs.State.{reader_of, writer_of, is_stored, is_long}
use Rattle.gurthapen_answer.specs.Lap.{lists_value, lists_wrote}

-- a value of the pair fs and dec, read from the packet s
abbrev pub decodes : ℕ → ℕ → List ℕ → List ℤ → List ℤ → Result (List ℤ × List ℤ)
decodes fs dec s l v = exported (is_stored l && is_long 1 v) (lists_value (reading fs dec s (reader_of l))) (l, v)

-- the value z of the pair, written; v is where the one that counts goes
abbrev pub encodes : ℕ → ℕ → ℤ → List ℤ → List ℤ → List ℕ → Result ((List ℤ × List ℤ) × List ℕ)
encodes fs dec z l v b = exported (is_stored l && is_long 1 v) (lists_wrote (writing fs dec z (wr (writer_of l) b))) ((l, v), b)
