-- The lines that an input is to give, from where a reader stands.
use Rattle.std.specs.Prelude.{ℕ, ◌≤◌, ◌<◌, ◌≡◌, true, false, cond, List, [], ◌∷◌, ◌++◌, length, take, drop}
use Rattle.tool_io.specs.declared.Input.{Input}
use Rattle.text.specs.Lines.{lines_ended, kept_after, last_of}
use Rattle.tool_lines.specs.declared.Reader.{Reader}

-- the lines of the bytes s after the bytes k of a line, of each at most `line_size` bytes; the last without a line feed too
unfoldable pub lines_after : ℕ → List ℕ → List ℕ → List (List ℕ)
lines_after line_size k s = lines_ended line_size k s ++ last_of (kept_after line_size k s)

-- the line that a reader has, if it has one
abbrev pub ready_line : Reader → List ℕ → List (List ℕ)
ready_line p kept = cond p.ready (take p.kept kept ∷ []) []

-- the bytes that it has of a line that has not ended
abbrev pub begun_line : Reader → List ℕ → List ℕ
begun_line p kept = take (cond p.ready 0 p.kept) kept

-- the lines to come, where the bytes t are still to be read; none after the input's end
unfoldable pub lines_to_come : ℕ → Reader → List ℕ → List ℕ → List ℕ → List (List ℕ)
lines_to_come line_size p kept block t = cond p.input.ended [] (lines_after line_size (begun_line p kept) (drop p.at (take p.n block) ++ t))

-- a reader's numbers lie within its block, a record of so many bytes and the `line_size` bytes that are kept of a line; and where no read failed
-- there is no more to read just where the input has ended
pub record InBounds (line_size : ℕ) (p : Reader) (block log : ℕ) : Type 0 where
  pub block_some : 0 < block
  pub at-le : p.at ≤ p.n
  pub n_le : p.n ≤ block
  pub kept-le : p.kept ≤ line_size
  pub log_le : p.input.logged ≤ log
  pub over-is : p.input.failed ≡ false → p.over ≡ p.input.ended

-- the bytes that a step read stand at the end of the record, and the lines to come, before it, are the line that the reader has after it and
-- those to come after it, whatever bytes t are still to be read: none where the input has ended
pub record GaveLines (line_size : ℕ) (p : Reader) (kept block log : List ℕ) (r : Reader) (kept' block' log' : List ℕ) : Type 0 where
  pub new_bytes : List ℕ
  pub logged : take r.input.logged log' ≡ take p.input.logged log ++ new_bytes
  pub lines
      : (t : List ℕ) → (r.input.ended ≡ true → t ≡ [])
      → lines_to_come line_size p kept block (new_bytes ++ t) ≡ ready_line r kept' ++ lines_to_come line_size r kept' block' t

-- a step of a reader: what it gave is said where no read failed and the record is complete; the lent count of calls is the input's own
pub record Stepped (line_size : ℕ) (p : Reader) (kept block log : List ℕ) (r : Reader) (kept' block' log' calls : List ℕ) : Type 0 where
  pub bounds : InBounds line_size r (length block') (length log')
  pub fine : r.input.failed ≡ false → p.input.failed ≡ false
  pub complete : r.input.complete ≡ true → p.input.complete ≡ true
  pub counted : calls ≡ r.input.calls ∷ []
  pub gave : r.input.failed ≡ false → r.input.complete ≡ true → GaveLines line_size p kept block log r kept' block' log'

-- a step within a block, which reads nothing
pub record CutInBlock (line_size : ℕ) (p : Reader) (kept block : List ℕ) (r : Reader) (kept' : List ℕ) : Type 0 where
  pub inside : r.at ≤ length block
  pub few : r.kept ≤ line_size
  pub same : (r.n ≡ p.n) × (r.over ≡ p.over) × (r.input ≡ p.input)
  pub lines
      : (t : List ℕ)
      → lines_after line_size (begun_line p kept) (drop p.at block ++ t) ≡ ready_line r kept' ++ lines_after line_size (begun_line r kept')
      (drop r.at block ++ t)

-- a reader before the first byte of its input
pub record AtStart (s : Input) (r : Reader) : Type 0 where
  pub input : r.input ≡ s
  pub going : r.over ≡ false
  pub empty : (r.at ≡ 0) × (r.n ≡ 0) × (r.kept ≡ 0) × (r.ready ≡ false)
