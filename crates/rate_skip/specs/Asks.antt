-- A decoder and an encoder as those who answer the questions of an allocation: each answer is a symbol of the range coder.
use Rattle.std.specs.Prelude.{ℕ, Bool, false, cond, List, eqb, ℤ}
use Rattle.entcode.specs.Sym.Shape.{bit, uint}
use Rattle.entdec.specs.declared.Reader.{Reader}
use Rattle.entdec.specs.Symbols.{read_sym}
use Rattle.entenc.specs.Symbols.{write_sym}
use Rattle.entenc.specs.Write.{Wr}
use Rattle.rate_spec.specs.Answers.{decoder_ask, encoder_ask}
use Rattle.rate_spec.specs.Types.{Ask, AllocIn}

-- one bit of probability a half, from the packet s
abbrev pub read_bit : List ℕ → Reader → Bool × Reader
read_bit s d = (eqb (read_sym (bit 1) s d).value 1, (read_sym (bit 1) s d).next)

-- one of n values
abbrev pub read_below : List ℕ → ℕ → Reader → ℕ × Reader
read_below s n d = ((read_sym (uint n) s d).value, (read_sym (uint n) s d).next)

-- a decoder of the packet s
abbrev pub read_ask : List ℕ → Ask Reader
read_ask s = decoder_ask (read_bit s) (read_below s)

-- one bit of probability a half
abbrev pub write_bit : Bool → Wr → Wr
write_bit b w = write_sym (bit 1) (cond b 1 0) w

-- one of n values
abbrev pub write_below : ℕ → ℕ → Wr → Wr
write_below n v w = write_sym (uint n) v w

-- an encoder, with the band count of the frame before, the signal's bandwidth, and the intensity and dual stereo that it is given
abbrev pub write_ask : AllocIn → ℤ → ℤ → ℕ → Bool → Ask Wr
write_ask a previous bandwidth intensity dual = encoder_ask a previous bandwidth write_bit write_below intensity dual

-- an answer where the question is asked; else no, and the state stays
abbrev pub when_asked : {σ : Type 0} → Bool → Bool × σ → σ → Bool × σ
when_asked asked y s = cond asked y (false, s)
