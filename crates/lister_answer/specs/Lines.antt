-- The lines of an answer, R, B and X: a letter, numbers that a tab stands before, and a line feed. Document 01, "The lister".
use Rattle.std.specs.Prelude.{ℕ, zero, suc, List, [], ◌∷◌, ◌++◌, pos, get_or}
use Rattle.text.specs.Fields.{tabbed}
use Rattle.text.specs.Written.{decimal_of, signed_of}
use Rattle.rate.specs.Allocations.{ReadAllocation}
use Rattle.rate.specs.Question.{Lists}

-- fields, each after a tab, and a line feed
abbrev pub line_end : List (List ℕ) → List ℕ
line_end fields = tabbed fields ++ 10 ∷ []

-- a letter, its fields, and a line feed
unfoldable pub answer_line : ℕ → List (List ℕ) → List ℕ
answer_line letter fields = letter ∷ line_end fields

-- the R line of a request that is accepted: its number, then how many bands are coded, the balance, where intensity begins, and whether stereo is dual
unfoldable pub head_line : ℕ → ReadAllocation → List ℕ
head_line number y =
    answer_line 82 (decimal_of number ∷ signed_of y.coded ∷ signed_of y.balance ∷ signed_of y.intensity ∷ signed_of y.dual ∷ [])

-- the B line of a band: its place, and its entry in each of the three lists
unfoldable pub band_line : ℕ → Lists → List ℕ
band_line j l =
    answer_line 66 (decimal_of j ∷ signed_of (get_or l.pulses j (pos 0)) ∷ signed_of (get_or l.fine j (pos 0)) ∷ signed_of (get_or l.priorities j (pos 0)) ∷ [])

-- a B line for each of n bands from j on
unfoldable pub band_lines : ℕ → ℕ → Lists → List ℕ
band_lines j zero l = []
band_lines j (suc n) l = band_line j l ++ band_lines (suc j) n l

-- the X line of a request that is refused: its number, and the refusal's
unfoldable pub refused_line : ℕ → ℕ → List ℕ
refused_line number why = answer_line 88 (decimal_of number ∷ decimal_of why ∷ [])
