-- How the code holds the rows of the count table: two numbers in one. No public contract cites this.
use Rattle.std.specs.Prelude.{ℕ, ◌+◌, ◌*◌, List, [], length, get_or, drop}
use Rattle.cwrs_counts.specs.Table.{counts}

-- row a of the table; past the last row there is nothing
abbrev pub row_at : ℕ → List ℕ
row_at a = get_or counts a []

-- how many entries row a has
abbrev pub len_at : ℕ → ℕ
len_at a = length (row_at a)

-- two numbers of 32 bits in one
abbrev pub packed_pair : List ℕ → ℕ
packed_pair l = get_or l 0 0 + 4294967296 * get_or l 1 0

-- row a from place 2 g on
unfoldable pub packed_at : ℕ → ℕ → ℕ
packed_at a g = packed_pair (drop (2 * g) (row_at a))
