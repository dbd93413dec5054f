-- A stream of bytes cut into lines, block by block. Of a line at most the first `most` bytes are kept. With one more than a tool answers, a line
-- that is too long is still seen to be so, whatever its length.
use Rattle.std.specs.Prelude.{ℕ, ◌≤◌, ◌<◌, ◌≡◌, cond, List, [], ◌∷◌, ◌++◌, ltb, eqb, length, take, drop}
use Rattle.text.specs.Fields.{separated}
use Rattle.text.specs.declared.lines.Filling.{Filling}

-- ---- the lines of a whole stream

-- all lines, but the last only where it has a byte: a line feed ends a line, and the last line needs none
unfoldable pub no_empty_last : List (List ℕ) → List (List ℕ)
no_empty_last [] = []
no_empty_last ([] ∷ []) = []
no_empty_last ((b ∷ l) ∷ []) = (b ∷ l) ∷ []
no_empty_last (l ∷ m ∷ ls) = l ∷ no_empty_last (m ∷ ls)

-- the lines of a stream, without their line feeds
unfoldable pub lines_of : List ℕ → List (List ℕ)
lines_of s = no_empty_last (separated 10 s)

-- what is kept of a line: its first bytes
abbrev pub cut_to : ℕ → List ℕ → List ℕ
cut_to most l = take most l

-- ---- the same, byte by byte

-- a line with a byte more, as far as it is kept
unfoldable pub push_of : ℕ → List ℕ → ℕ → List ℕ
push_of most k b = cond (ltb (length k) most) (k ++ b ∷ []) k

-- what is kept after a byte: nothing after a line feed
abbrev pub kept_after_byte : ℕ → List ℕ → ℕ → List ℕ
kept_after_byte most k b = cond (eqb b 10) [] (push_of most k b)

-- what is kept after the bytes s
unfoldable pub kept_after : ℕ → List ℕ → List ℕ → List ℕ
kept_after most k [] = k
kept_after most k (b ∷ s) = kept_after most (kept_after_byte most k b) s

-- the line k before the others where b is a line feed, which ends it
abbrev pub ended : List ℕ → ℕ → List (List ℕ) → List (List ℕ)
ended k b ls = cond (eqb b 10) (k ∷ ls) ls

-- the lines that end in s
unfoldable pub lines_ended : ℕ → List ℕ → List ℕ → List (List ℕ)
lines_ended most k [] = []
lines_ended most k (b ∷ s) = ended k b (lines_ended most (kept_after_byte most k b) s)

-- the line that the stream's end ends
abbrev pub last_of : List ℕ → List (List ℕ)
last_of k = no_empty_last (k ∷ [])

-- ---- a block

-- the bytes of a block from `at` on were taken up to a line feed or the end, with k kept before and last after
pub record Filled (most : ℕ) (block : List ℕ) (at : ℕ) (k : List ℕ) (r : Filling) (last : List ℕ) : Type 0 where
  pub lines : lines_ended most k (drop at block) ≡ cond r.ended (last ∷ []) [] ++ lines_ended most (cond r.ended [] last) (drop r.at block)
  pub kept : kept_after most k (drop at block) ≡ kept_after most (cond r.ended [] last) (drop r.at block)
  pub few : r.kept ≤ most
  pub inside : r.at ≤ length block
  pub moves : at < length block → at < r.at
