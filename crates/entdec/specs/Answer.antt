-- What the public calls say, by document 01's number of the refusal and the values.
use Rattle.std.specs.Prelude.{ℕ, List, cond, length, leb}
use Rattle.entcode.specs.Said.{Said, answer}
use Rattle.entdec.specs.declared.Reader.{Reader}
use Rattle.entdec.specs.Read.{fresh_reader}

-- a new reader of a packet; more than 1,275 bytes are refused as 1
abbrev pub start_of : List ℕ → Said Reader
start_of s = answer (cond (leb (length s) 1275) 0 1) (fresh_reader s)
