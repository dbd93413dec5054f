-- A text in the first bytes of a buffer that may be too short for it, and what is written to it.
use Rattle.std.specs.Prelude.{ℕ, ◌/◌, ◌%◌, List, [], ◌∷◌, ◌++◌, take}
use Rattle.text.specs.Digits.{glyph_of}

-- the text t with s after it, as far as there is room
abbrev pub appended : ℕ → List ℕ → List ℕ → List ℕ
appended room t s = take room (t ++ s)

-- bytes in lowercase hex, two digits each
unfoldable pub hex_bytes_of : List ℕ → List ℕ
hex_bytes_of [] = []
hex_bytes_of (b ∷ s) = glyph_of (b / 16 % 16) ∷ glyph_of (b % 16) ∷ hex_bytes_of s
