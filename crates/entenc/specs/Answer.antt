-- What the public calls say, by document 01's number of the refusal and the values, and what the lent bytes then hold.
use Rattle.std.specs.Prelude.{ℕ, List, cond, leb, Result}
use Rattle.entcode.specs.declared.reasons.Refusal.{Refusal}
use Rattle.entcode.specs.Said.{Said, answer, lent_after, said}
use Rattle.entcode.specs.Sym.{Shape}
use Rattle.entenc.specs.declared.Writer.{Writer}
use Rattle.entenc.specs.Write.{Wr, fresh_writer}
use Rattle.entenc.specs.Close.{close_w}
use Rattle.entenc.specs.Symbols.{write_sym}
use Rattle.entenc.specs.Rule.{refusal_w, refusal_close}

-- what is said, and the lent bytes after the call
pub record After : Type 0 where
  pub said : Said Writer
  pub bytes : List ℕ

-- the same of an answer and the bytes then lent
abbrev pub after : Result Writer Refusal → List ℕ → After
after r l = record { said = said r; bytes = l }

-- number 0: the writer after the call, with its bytes; any other: that refusal, and the bytes as they were
abbrev pub answer_w : ℕ → Wr → Wr → After
answer_w n w w' = record { said = answer n w'.st; bytes = lent_after n w'.bytes w.bytes }

-- a checked write of the value v of a kind
abbrev pub writing : Shape → ℕ → Wr → After
writing h v w = answer_w (refusal_w h v w) w (write_sym h v w)

-- a checked close
abbrev pub closing : Wr → After
closing w = answer_w (refusal_close w) w (close_w w)

-- a new writer over n bytes; more than 1,275 are refused as 1
abbrev pub start_of : ℕ → Said Writer
start_of n = answer (cond (leb n 1275) 0 1) (fresh_writer n)
