-- The logarithms of the bands' widths (logN400; RFC 6716, section 4.3.3): entry j is log2 of band j's width in eighths, rounded up.
use Rattle.std.specs.Prelude.{ℕ, List, [], ◌∷◌, get_or}

-- one entry to a band
unfoldable pub log_widths : List ℕ
log_widths =
    0 ∷ 0 ∷ 0 ∷ 0 ∷ 0 ∷ 0 ∷ 0 ∷ 0 ∷ 8 ∷ 8 ∷ 8 ∷ 8 ∷ 16 ∷ 16 ∷ 16 ∷ 21 ∷ 21 ∷ 24 ∷ 29 ∷ 34 ∷ 36 ∷ []

-- the logarithm of band j's width, at LM 0
unfoldable pub log_width : ℕ → ℕ
log_width j = get_or log_widths j 0
