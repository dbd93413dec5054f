-- Where a band's row of the pulse cache starts, RFC 6716, section 4.3.4.1 (cache_index50): 5 rows of 21 bands, for LM -1, 0, 1, 2 and 3. Each
-- entry is one more than the start; 0 says that there is no row (the reference source has -1). CacheBits.antt says which other form code has.
use Rattle.std.specs.Prelude.{ℕ, ◌+◌, ◌-◌, ◌*◌, List, [], ◌∷◌, get_or}

-- one LM to a line
unfoldable pub cache_index : List ℕ
cache_index =
    0 ∷ 0 ∷ 0 ∷ 0 ∷ 0 ∷ 0 ∷ 0 ∷ 0 ∷ 1 ∷ 1 ∷ 1 ∷ 1 ∷ 42 ∷ 42 ∷ 42 ∷ 83 ∷ 83 ∷ 124 ∷ 165 ∷ 201 ∷ 223 ∷
    1 ∷ 1 ∷ 1 ∷ 1 ∷ 1 ∷ 1 ∷ 1 ∷ 1 ∷ 42 ∷ 42 ∷ 42 ∷ 42 ∷ 124 ∷ 124 ∷ 124 ∷ 165 ∷ 165 ∷ 241 ∷ 267 ∷ 284 ∷ 296 ∷
    42 ∷ 42 ∷ 42 ∷ 42 ∷ 42 ∷ 42 ∷ 42 ∷ 42 ∷ 124 ∷ 124 ∷ 124 ∷ 124 ∷ 241 ∷ 241 ∷ 241 ∷ 267 ∷ 267 ∷ 306 ∷ 319 ∷ 329 ∷ 337 ∷
    124 ∷ 124 ∷ 124 ∷ 124 ∷ 124 ∷ 124 ∷ 124 ∷ 124 ∷ 241 ∷ 241 ∷ 241 ∷ 241 ∷ 306 ∷ 306 ∷ 306 ∷ 319 ∷ 319 ∷ 344 ∷ 352 ∷ 359 ∷ 365 ∷
    241 ∷ 241 ∷ 241 ∷ 241 ∷ 241 ∷ 241 ∷ 241 ∷ 241 ∷ 306 ∷ 306 ∷ 306 ∷ 306 ∷ 344 ∷ 344 ∷ 344 ∷ 352 ∷ 352 ∷ 371 ∷ 377 ∷ 383 ∷ 388 ∷ []

-- the entry of a band, where lm is LM + 1
unfoldable pub index_entry : ℕ → ℕ → ℕ
index_entry lm band = get_or cache_index (21 * lm + band) 0

-- where the row starts, if there is one
abbrev pub row_start : ℕ → ℕ → ℕ
row_start lm band = index_entry lm band - 1
