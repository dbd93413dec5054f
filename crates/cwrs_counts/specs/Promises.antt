-- What is promised of the counts and of the stored table beside the contracts.
use Rattle.std.specs.Prelude.{ℕ, zero, suc, ◌+◌, ◌≤◌, ◌<◌, ◌≡◌, true, ltb, get_or}
use Rattle.cwrs_counts.specs.Count.{U, Vn, count32}
use Rattle.cwrs_counts.specs.Table.{counts, obeys}
use Rattle.cwrs_counts.specs.Rows.{row_at, len_at}

-- the vectors of n places with fewer than k pulses
unfoldable pub fewer : ℕ → ℕ → ℕ
fewer n zero = 0
fewer n (suc k) = fewer n k + Vn n k

-- U counts them
abbrev pub UCountsFewer : Type 0
UCountsFewer = (n k : ℕ) → U (suc n) k ≡ fewer n k

-- the stored table obeys its recurrence everywhere
abbrev pub TableObeys : Type 0
TableObeys = obeys counts ≡ true

-- so every stored number is the count of its row and place
abbrev pub StoredAreCounts : Type 0
StoredAreCounts = (a b : ℕ) → a ≤ 14 → b < len_at a → get_or (row_at a) b 0 ≡ U a b

-- and row a has place b exactly where 32 bits hold the count
abbrev pub StoredWhereFits : Type 0
StoredWhereFits = (a b : ℕ) → a ≤ b → b ≤ 176 → ltb b (len_at a) ≡ ltb (U a b) 4294967296

-- a count is decided to fit in 32 bits exactly when it does: `count32` is 0 where it does not, and else the count, which is not 0
abbrev pub FitsDecided : Type 0
FitsDecided =
    (n k : ℕ) → 1 ≤ n
    → (Vn n k < 4294967296 → (count32 n k ≡ Vn n k) × (1 ≤ count32 n k)) × (4294967296 ≤ Vn n k → count32 n k ≡ 0)
