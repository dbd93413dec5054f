-- The range decoder's calls, exported: entdec's, over lists.
use Rattle.std.specs.Prelude.{ℕ, ◌&&◌, List, ℤ}
use Rattle.entcode.specs.Counts.{tell_said}
use Rattle.entcode.specs.Said.{answer}
use Rattle.entcode.specs.Sym.{Shape}
use Rattle.entcode.specs.Tell.{tell_of, tell_frac_of}
use Rattle.entdec.specs.Answer.{start_of}
use Rattle.entdec.specs.Rule.{reader_ok, refusal_r}
use Rattle.entdec.specs.Symbols.{read_sym}
use Rattle.gurthapen_answer.specs.Result.{Result, exported, lists_number}
use Rattle.gurthapen_state.specs.State.{reader_of, is_state, is_stored, is_long}
use Rattle.gurthapen_answer.specs.Dec.{lists_reader, lists_read}

-- a new reader of the packet s
abbrev pub starts : List ℕ → List ℤ → Result (List ℤ)
starts s l = exported (is_state l) (lists_reader (start_of s)) l

-- a read of one symbol of a kind
abbrev pub reads : Shape → List ℕ → List ℤ → List ℕ → Result (List ℤ × List ℕ)
reads h s l v = exported (is_stored l && is_long 1 v) (lists_read (answer (refusal_r h s (reader_of l)) (read_sym h s (reader_of l)))) (l, v)

-- how many bits are used
abbrev pub tells : List ℤ → List ℕ → Result (List ℕ)
tells l v = exported (is_state l && is_long 1 v) (lists_number (tell_said (reader_ok (reader_of l)) (tell_of (reader_of l).total (reader_of l).rng))) v

-- how many eighths of a bit are used
abbrev pub tells_frac : List ℤ → List ℕ → Result (List ℕ)
tells_frac l v =
    exported (is_state l && is_long 1 v) (lists_number (tell_said (reader_ok (reader_of l)) (tell_frac_of (reader_of l).total (reader_of l).rng))) v
