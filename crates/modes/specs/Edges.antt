-- The bands of the 48 kHz mode, RFC 6716, section 4.3 (eband5ms): band j has the coefficients from edge j up to edge (j + 1), counted at the shortest
-- frame size, LM 0. Each step of LM doubles them.
use Rattle.std.specs.Prelude.{ℕ, suc, ◌-◌, List, [], ◌∷◌, get_or}

-- where each of the 21 bands begins, and where the last one ends
unfoldable pub edges : List ℕ
edges =
    0 ∷ 1 ∷ 2 ∷ 3 ∷ 4 ∷ 5 ∷ 6 ∷ 7 ∷ 8 ∷ 10 ∷ 12 ∷ 14 ∷ 16 ∷ 20 ∷ 24 ∷ 28 ∷ 34 ∷ 40 ∷ 48 ∷ 60 ∷ 78 ∷ 100 ∷ []

-- where band j begins
unfoldable pub edge : ℕ → ℕ
edge j = get_or edges j 0

-- how many coefficients band j has, at LM 0
unfoldable pub width : ℕ → ℕ
width j = edge (suc j) - edge j
