-- How a number is written: in decimal, and as a word of eight hex digits.
use Rattle.std.specs.Prelude.{ℕ, suc, ◌+◌, ◌≤◌, ◌≡◌, cond, List, ◌∷◌, ltb, ℤ, pos, negsuc, length}
use Rattle.std.proofs.lemmas.List.Edits.{sets}
use Rattle.text.specs.Digits.{last_digits}

-- how many figures a number of 32 bits takes
unfoldable pub figures_of : ℕ → ℕ
figures_of n =
    cond (ltb n 10) 1 (cond (ltb n 100) 2 (cond (ltb n 1000) 3 (cond (ltb n 10000) 4 (cond (ltb n 100000) 5 (cond (ltb n 1000000) 6
    (cond (ltb n 10000000) 7 (cond (ltb n 100000000) 8 (cond (ltb n 1000000000) 9 10))))))))

-- a number of 32 bits in decimal
abbrev pub decimal_of : ℕ → List ℕ
decimal_of n = last_digits 10 (figures_of n) n

-- a signed number of 32 bits in decimal
abbrev pub signed_of : ℤ → List ℕ
signed_of (pos n) = decimal_of n
signed_of (negsuc k) = 45 ∷ decimal_of (suc k)

-- a number of 32 bits as eight hex digits
abbrev pub hex_word_of : ℕ → List ℕ
hex_word_of n = last_digits 16 8 n

-- a buffer with a text of at most so many bytes from `at` on is last, and r is the place after the text
pub record PlacedText (most : ℕ) (buf : List ℕ) (at : ℕ) (text : List ℕ) (r : ℕ) (last : List ℕ) : Type 0 where
  pub next : r ≡ at + length text
  pub bytes : last ≡ sets buf at text
  pub short : r ≤ at + most
