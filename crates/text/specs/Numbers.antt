-- The numbers that digits write, each in one way only: decimals, where neither a sign nor a zero may stand that changes nothing; words of
-- eight hex digits; bytes of two hex digits each.
use Rattle.std.specs.Prelude.{ℕ, ◌+◌, ◌*◌, ◌%◌, ◌≤◌, Bool, true, false, cond, not, ◌&&◌, List, [], ◌∷◌, leb, eqb, ℤ, pos, length, get_or, drop}
use Rattle.std.specs.Prelude.{Option, Some, None}
use Rattle.std.proofs.lemmas.List.Edits.{sets}
use Rattle.laws.specs.Signs.{in_range, with_sign}
use Rattle.text.specs.Digits.{digit_of, all_digits, value_after}

-- ---- decimal numbers

-- v, where a test passed
abbrev pub got_if : Bool → ℕ → Option ℕ
got_if t v = cond t (Some v) None

-- the number 0..most that digits of a base write
abbrev pub digits_of : ℕ → ℕ → List ℕ → Option ℕ
digits_of base most s = got_if (all_digits base s && leb (value_after base 0 s) most) (value_after base 0 s)

-- at least one figure, and no zero in front of another
unfoldable pub no_needless_zero : List ℕ → Bool
no_needless_zero [] = false
no_needless_zero (b ∷ []) = true
no_needless_zero (b ∷ c ∷ s) = not (eqb b 48)

-- the number 0..most that s writes
abbrev pub number_of : ℕ → List ℕ → Option ℕ
number_of most s = cond (no_needless_zero s) (digits_of 10 most s) None

-- a number that was read is at most this
abbrev pub AtMost : ℕ → Option ℕ → Type 0
AtMost most (Some v) = v ≤ most
AtMost most None = Unit

-- the number as it is
abbrev pub plus : Option ℕ → Option ℤ
plus (Some v) = Some (pos v)
plus None = None

-- the number below zero; there is no minus zero
abbrev pub minus : Option ℕ → Option ℤ
minus (Some v) = cond (eqb v 0) None (Some (with_sign true v))
minus None = None

-- the number -2,147,483,648..2,147,483,647 that s writes
abbrev pub whole_of : List ℕ → Option ℤ
whole_of s = cond (eqb (get_or s 0 0) 45) (minus (number_of 2147483648 (drop 1 s))) (plus (number_of 2147483647 s))

-- a number, where it is lo..hi
abbrev pub kept_in : ℤ → ℤ → Option ℤ → Option ℤ
kept_in lo hi (Some z) = cond (in_range lo hi z) (Some z) None
kept_in lo hi None = None

-- the number lo..hi that s writes
abbrev pub whole_in : ℤ → ℤ → List ℕ → Option ℤ
whole_in lo hi s = kept_in lo hi (whole_of s)

-- ---- hex

-- the number that eight hex digits write
abbrev pub word_of : List ℕ → Option ℕ
word_of s = cond (eqb (length s) 8) (digits_of 16 4294967295 s) None

-- the bytes that digits write, two for each byte
unfoldable pub bytes_of : List ℕ → List ℕ
bytes_of [] = []
bytes_of (a ∷ []) = []
bytes_of (a ∷ b ∷ s) = (digit_of a * 16 + digit_of b) ∷ bytes_of s

-- s writes at most this many bytes
unfoldable pub hex_bytes : ℕ → List ℕ → Bool
hex_bytes most s = leb (length s) (2 * most) && (eqb (length s % 2) 0 && all_digits 16 s)

-- a list with the bytes at its start; untouched where s does not write bytes, or too many of them
unfoldable pub bytes_into : List ℕ → List ℕ → List ℕ
bytes_into s out = cond (hex_bytes (length out) s) (sets out 0 (bytes_of s)) out
