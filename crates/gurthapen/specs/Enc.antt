-- The range encoder's calls, exported: entenc's, over lists.
use Rattle.std.specs.Prelude.{ℕ, ◌&&◌, List, ℤ, length}
use Rattle.entcode.specs.Counts.{tell_said}
use Rattle.entcode.specs.Sym.{Shape}
use Rattle.entcode.specs.Tell.{tell_of, tell_frac_of}
use Rattle.entenc.specs.Answer.{start_of, writing, closing}
use Rattle.entenc.specs.Rule.{writer_ok}
use Rattle.entenc.specs.Write.{wr}
use Rattle.gurthapen_answer.specs.Result.{Result, exported, lists_number}
use Rattle.gurthapen_state.specs.State.{writer_of, is_state, is_stored, is_long}
use Rattle.gurthapen_answer.specs.Enc.{lists_writer, lists_wrote}

-- a new writer over the bytes b
abbrev pub starts : List ℕ → List ℤ → Result (List ℤ)
starts b l = exported (is_state l) (lists_writer (start_of (length b))) l

-- a write of the value v of a kind
abbrev pub writes : Shape → ℕ → List ℤ → List ℕ → Result (List ℤ × List ℕ)
writes h v l b = exported (is_stored l) (lists_wrote (writing h v (wr (writer_of l) b))) (l, b)

-- a close
abbrev pub closes : List ℤ → List ℕ → Result (List ℤ × List ℕ)
closes l b = exported (is_stored l) (lists_wrote (closing (wr (writer_of l) b))) (l, b)

-- how many bits are used
abbrev pub tells : List ℤ → List ℕ → Result (List ℕ)
tells l v = exported (is_state l && is_long 1 v) (lists_number (tell_said (writer_ok (writer_of l)) (tell_of (writer_of l).total (writer_of l).rng))) v

-- how many eighths of a bit are used
abbrev pub tells_frac : List ℤ → List ℕ → Result (List ℕ)
tells_frac l v =
    exported (is_state l && is_long 1 v) (lists_number (tell_said (writer_ok (writer_of l)) (tell_frac_of (writer_of l).total (writer_of l).rng))) v
