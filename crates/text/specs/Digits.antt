-- Digits of base 10 and of base 16, which has lowercase letters: what they stand for, and which ones a number has.
use Rattle.std.specs.Prelude.{ℕ, zero, suc, ◌+◌, ◌-◌, ◌*◌, ◌/◌, ◌%◌, Bool, true, cond, ◌&&◌, List, [], ◌∷◌, ◌++◌, ltb}

-- the value of 0..9 and a..f; 16 for any other byte
unfoldable pub digit_of : ℕ → ℕ
digit_of c = cond (ltb c 48) 16 (cond (ltb c 58) (c - 48) (cond (ltb c 97) 16 (cond (ltb c 103) (c - 87) 16)))

-- every byte is a digit of the base
unfoldable pub all_digits : ℕ → List ℕ → Bool
all_digits base [] = true
all_digits base (c ∷ s) = ltb (digit_of c) base && all_digits base s

-- the number that the digits s give after v
unfoldable pub value_after : ℕ → ℕ → List ℕ → ℕ
value_after base v [] = v
value_after base v (c ∷ s) = value_after base (v * base + digit_of c) s

-- the digit for a value below 16
unfoldable pub glyph_of : ℕ → ℕ
glyph_of d = cond (ltb d 10) (48 + d) (87 + d)

-- the last k digits of n
unfoldable pub last_digits : ℕ → ℕ → ℕ → List ℕ
last_digits base zero n = []
last_digits base (suc k) n = last_digits base k (n / base) ++ glyph_of (n % base) ∷ []
