-- What a choice costs, RFC 6716, section 4.3.3 (LOG2_FRAC_TABLE): entry n is log2 (n + 1) in eighths of a bit, rounded up.
use Rattle.std.specs.Prelude.{ℕ, List, [], ◌∷◌, get_or}

-- for up to 24 values
unfoldable pub fractions : List ℕ
fractions =
    0 ∷ 8 ∷ 13 ∷ 16 ∷ 19 ∷ 21 ∷ 23 ∷ 24 ∷ 26 ∷ 27 ∷ 28 ∷ 29 ∷ 30 ∷ 31 ∷ 32 ∷ 32 ∷ 33 ∷ 34 ∷ 34 ∷ 35 ∷ 36 ∷ 36 ∷ 37 ∷ 37 ∷ []

-- the cost of one of n + 1 equally likely values
unfoldable pub fraction : ℕ → ℕ
fraction n = get_or fractions n 0
