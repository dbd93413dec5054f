-- How a coarse energy's step is read, RFC 6716, section 4.3.2.1: the fewer bits are left, the fewer values it can have.
use Rattle.std.specs.Prelude.{ℕ, ◌-◌, ◌*◌, List, cond, leb, ℤ, pos, negsuc, neg_ℤ}
use Rattle.modes.specs.SmallEnergy.{small_energy}
use Rattle.entcode.specs.Sym.Shape.{bit, table}
use Rattle.entcode.specs.Tell.{tell_of}
use Rattle.entdec.specs.declared.Reader.{Reader}
use Rattle.entdec.specs.Symbols.{read_sym}
use Rattle.laplace.specs.Coded.{LapSym}
use Rattle.laplace.specs.Model.{value_at}
use Rattle.laplace.specs.Answer.{read_lap}

-- the bits of the packet that are not used up
unfoldable pub bits_left : Reader → ℕ
bits_left d = 8 * d.storage - tell_of d.total d.rng

-- a step read, and the reader after it
abbrev pub step_read : ℤ → Reader → LapSym
step_read q d = record { value = q; next = d }

-- the three-way table: its symbols 0, 1, 2 stand for 0, -1, 1, in the order in which Laplace values are counted
abbrev pub read_small : List ℕ → Reader → LapSym
read_small s d = step_read (value_at (read_sym (table small_energy 2) s d).value) (read_sym (table small_energy 2) s d).next

-- minus a bit
abbrev pub read_minus : List ℕ → Reader → LapSym
read_minus s d = step_read (neg_ℤ (pos (read_sym (bit 1) s d).value)) (read_sym (bit 1) s d).next

-- which of the three it is, by the bits that are left: the Laplace value, with fs places for zero and the decay dec, wants 15 of them; with no bit
-- left the step is -1, and the reader stays
unfoldable pub read_step : ℕ → ℕ → List ℕ → Reader → LapSym
read_step fs dec s d =
    cond (leb 15 (bits_left d)) (read_lap fs dec s d)
    (cond (leb 2 (bits_left d)) (read_small s d) (cond (leb 1 (bits_left d)) (read_minus s d) (step_read (negsuc 0) d)))
