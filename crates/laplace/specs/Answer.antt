-- What the two calls say, by document 01's number of the refusal and the values, and what the lent bytes then hold.
use Rattle.std.specs.Prelude.{ℕ, List, ℤ, Result}
use Rattle.entcode.specs.declared.reasons.Refusal.{Refusal}
use Rattle.entcode.specs.Said.{Said, answer, lent_after, said}
use Rattle.entcode.specs.Sym.{Shape, adjust}
use Rattle.entcode.specs.Sym.Shape.{modelled}
use Rattle.entdec.specs.declared.Reader.{Reader}
use Rattle.entdec.specs.Symbols.{read_sym}
use Rattle.entdec.specs.Rule.{refusal_r}
use Rattle.entenc.specs.Write.{Wr}
use Rattle.entenc.specs.Symbols.{write_sym}
use Rattle.entenc.specs.Rule.{refusal_w}
use Rattle.laplace.specs.Coded.{LapSym, LapDone}
use Rattle.laplace.specs.Model.{code_of, value_at, lap_model}

-- the kind of symbol of a pair
abbrev pub lap : ℕ → ℕ → Shape
lap fs dec = modelled (lap_model fs dec)

-- ---- reading

-- a value read, and the reader after it
abbrev pub read_lap : ℕ → ℕ → List ℕ → Reader → LapSym
read_lap fs dec s d = record { value = value_at (read_sym (lap fs dec) s d).value; next = (read_sym (lap fs dec) s d).next }

-- a checked read
abbrev pub reading : ℕ → ℕ → List ℕ → Reader → Said LapSym
reading fs dec s d = answer (refusal_r (lap fs dec) s d) (read_lap fs dec s d)

-- ---- writing

-- what counts as written for z
abbrev pub written_as : ℕ → ℕ → ℤ → ℤ
written_as fs dec z = value_at (adjust (lap fs dec) (code_of z))

-- the writer and its bytes after z
abbrev pub write_lap : ℕ → ℕ → ℤ → Wr → Wr
write_lap fs dec z w = write_sym (lap fs dec) (code_of z) w

-- what is said, and the lent bytes after the call
pub record After : Type 0 where
  pub said : Said LapDone
  pub bytes : List ℕ

-- made of its two parts
abbrev pub after : Result LapDone Refusal → List ℕ → After
after r l = record { said = said r; bytes = l }

-- number 0: what counts as written and the writer after it, with its bytes; any other: that refusal, and the bytes as they were
abbrev pub answer_w : ℕ → ℤ → Wr → Wr → After
answer_w n v w w' = record { said = answer n (record { value = v; next = w'.st }); bytes = lent_after n w'.bytes w.bytes }

-- a checked write
abbrev pub writing : ℕ → ℕ → ℤ → Wr → After
writing fs dec z w = answer_w (refusal_w (lap fs dec) (code_of z) w) (written_as fs dec z) w (write_lap fs dec z w)
