-- The fields of a saved record's line. Document 01, "Energies, shapes and the stream record".
use Rattle.std.specs.Prelude.{Option, Some, None}
use Rattle.std.specs.Prelude.{ℕ, ◌≤◌, Bool, true, false, cond, List, eqb, ℤ, pos, negsuc, nat_abs, Float, length, get_or}
use Rattle.std.specs.Float.{fin, binary32}
use Rattle.std.specs.Float.Ieee.{of_bits, to_bits, round}
use Rattle.std.specs.Float.Ieee.Scale.{finite}
use Rattle.laws.specs.Signs.{is_neg}
use Rattle.text.specs.Numbers.{word_of, whole_in}
use Rattle.text.specs.Written.{hex_word_of}
use Rattle.stream_saved.specs.declared.Energy.{Energy}
use Rattle.stream_saved.specs.declared.Energy.TheVariants.{Is, Wild, Wrong}

-- ---- written

-- an energy of an E line: its bits in eight lowercase hex digits
abbrev pub energy_text : Float → List ℕ
energy_text x = hex_word_of (to_bits binary32 x)

-- ---- read

-- an f32, if it is finite
abbrev pub finite_only : Float → Energy
finite_only x = cond (finite x) (Is x) Wild

-- by the word that was read
abbrev pub of_word : Option ℕ → Energy
of_word (Some b) = finite_only (of_bits binary32 b)
of_word None = Wrong

-- a field of an E line: eight lowercase hex digits, the bits of a finite f32
abbrev pub hex_energy : List ℕ → Energy
hex_energy f = of_word (word_of f)

-- z / 256, rounded once; for every z of a Q line that is z / 256 itself
unfoldable pub in256ths : ℤ → Float
in256ths z = round binary32 (is_neg z) (nat_abs z) 256

-- a number that was read is at most 32,768 from 0
abbrev pub Small : Option ℤ → Type 0
Small (Some z) = nat_abs z ≤ 32768
Small None = Unit {0}

-- by the number that was read
abbrev pub of_whole : Option ℤ → Energy
of_whole (Some z) = Is (in256ths z)
of_whole None = Wrong

-- a field of a Q line: a whole number -32,768..32,767
abbrev pub whole_energy : List ℕ → Energy
whole_energy f = of_whole (whole_in (negsuc 32767) (pos 32767) f)

-- a line's first field as a letter, 0 where it is no single byte
abbrev pub letter_of : List ℕ → ℕ
letter_of f = cond (eqb (length f) 1) (get_or f 0 0) 0

-- a field of a line with this letter: E (69), or else Q
abbrev pub energy_of : ℕ → List ℕ → Energy
energy_of letter f = cond (eqb letter 69) (hex_energy f) (whole_energy f)

-- ---- what a field says

-- its line is well formed so far
abbrev pub not_wrong : Energy → Bool
not_wrong (Is x) = true
not_wrong Wild = true
not_wrong Wrong = false

-- it is no value that is not finite
abbrev pub not_wild : Energy → Bool
not_wild (Is x) = true
not_wild Wild = false
not_wild Wrong = true

-- its energy; zero where it has none
abbrev pub float_of : Energy → Float
float_of (Is x) = x
float_of Wild = fin false 0 (pos 0)
float_of Wrong = fin false 0 (pos 0)
