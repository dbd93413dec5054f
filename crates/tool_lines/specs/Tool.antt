-- A program that answers lines: what it writes for a whole input, and what holds between its turns. One text for every such program.
use Rattle.std.specs.Prelude.{ℕ, ◌+◌, ◌<◌, ◌≤◌, ◌≡◌, Bool, true, false, cond, List, [], ◌∷◌, ◌++◌, map, length, take}
use Rattle.tool_io.specs.declared.Input.{Input}
use Rattle.tool_io.specs.declared.Output.{Output}
use Rattle.text.specs.Lines.{lines_of, cut_to}
use Rattle.tool_lines.specs.declared.Reader.{Reader}
use Rattle.tool_lines.specs.declared.Pen.{Pen}
use Rattle.tool_lines.specs.Reading.{lines_after, ready_line, lines_to_come, InBounds}

-- ---- what is to be written

-- a program with a running state S: how many bytes of a line it looks at, whether it takes one more line, the state after a line, the text
-- for it, the text after the last line, and the text where it takes no more and a line follows
pub record Tool (S : Type 0) : Type 0 where
  pub line_size : ℕ
  pub takes : S → Bool
  pub next : S → List ℕ → S
  pub line_text : S → List ℕ → List ℕ
  pub end_text : S → List ℕ
  pub stop_text : S → List ℕ

-- the text for the lines, one after the other
unfoldable pub text_of_lines : {S : Type 0} → Tool S → S → List (List ℕ) → List ℕ
text_of_lines T s [] = T.end_text s
text_of_lines T s (l ∷ ls) = cond (T.takes s) (T.line_text s l ++ text_of_lines T (T.next s l) ls) (T.stop_text s)

-- the text for a whole input
unfoldable pub text_of : {S : Type 0} → Tool S → S → List ℕ → List ℕ
text_of T s input = text_of_lines T s (map (cut_to T.line_size) (lines_of input))

-- ---- the run

-- A run from s to the end, by the records of what was read and written: where no read or write failed and the records are complete, what was
-- written is the text for what was read and what comes after it, t; and t is nothing where the input's end was seen
pub record Ran {S : Type 0} (T : Tool S) (s : S) (i : Input) (o : Output) (seen sent : List ℕ) : Type 0 where
  pub all
      : i.failed ≡ false → o.failed ≡ false → i.complete ≡ true → o.complete ≡ true
      → (t : List ℕ) → (i.ended ≡ true → t ≡ []) → take o.logged sent ≡ text_of T s (take i.logged seen ++ t)

-- ---- between turns

-- what was written, what waits in the buffer and the text for the lines to come are together the text for the whole input: nothing is lost and
-- nothing is added
abbrev pub Accounted : {S : Type 0} → Tool S → S → S → Reader → Pen → List ℕ → List ℕ → List ℕ → List ℕ → List ℕ → Type 0
Accounted T s₀ s r p block kept out seen sent =
    (t : List ℕ) → (r.input.ended ≡ true → t ≡ [])
    → (take p.output.logged sent ++ take p.pending out) ++ cond p.on (text_of_lines T s (lines_to_come T.line_size r kept block t)) []
    ≡ text_of_lines T s₀ (lines_after T.line_size [] (take r.input.logged seen ++ t))

-- the state s after the start s₀, with at most `most` bytes in the buffer and room for `more`
pub record Running {S : Type 0} (T : Tool S) (s₀ s : S) (r : Reader) (p : Pen) (most more : ℕ)
    (block kept out seen sent reads writes : List ℕ) : Type 0 where
  pub some : 0 < T.line_size
  pub bounds : InBounds T.line_size r (length block) (length seen)
  pub line : length kept ≡ T.line_size
  pub free : most + more ≤ length out
  pub room : p.pending ≤ most
  pub log_le : p.output.logged ≤ length sent
  -- the lent counts of calls are those of the input and of the output
  pub read_count : reads ≡ r.input.calls ∷ []
  pub write-count : writes ≡ p.output.calls ∷ []
  pub going : p.on ≡ true → r.over ≡ false
  pub empty : p.on ≡ false → p.pending ≡ 0
  -- nothing waits where the block is used up, and so nothing waits at a read
  pub prompt : r.at ≡ r.n → p.pending ≡ 0
  pub accounted
      : r.input.failed ≡ false → p.output.failed ≡ false → r.input.complete ≡ true → p.output.complete ≡ true
      → Accounted T s₀ s r p block kept out seen sent

-- the answer to the line that the reader has, if it has one, is added to the text; at the input's end the last text too
pub record Replied {S : Type 0} (T : Tool S) (s : S) (r : Reader) (p : Pen) (kept out : List ℕ) (more : ℕ) (s' : S) (p' : Pen) (out' : List ℕ) : Type 0 where
  pub text
      : (ls : List (List ℕ)) → (r.over ≡ true → ls ≡ [])
      → take p'.pending out' ++ cond p'.on (text_of_lines T s' ls) [] ≡ take p.pending out ++ text_of_lines T s (ready_line r kept ++ ls)
  pub room : p'.pending ≤ p.pending + more
  pub output : p'.output ≡ p.output
  pub going : p'.on ≡ true → r.over ≡ false

-- the text is handed over, or stays; where the block is used up (`dry`) it is handed over
pub record Flushed (p : Pen) (out log : List ℕ) (dry : Bool) (most : ℕ) (r : Pen) (log' calls : List ℕ) : Type 0 where
  pub room : r.pending ≤ most
  pub inside : r.output.logged ≤ length log'
  pub counted : calls ≡ r.output.calls ∷ []
  pub empty : r.on ≡ false → r.pending ≡ 0
  pub prompt : dry ≡ true → r.pending ≡ 0
  pub going : r.on ≡ true → p.on ≡ true
  pub fine : r.output.failed ≡ false → p.output.failed ≡ false
  pub same : r.output.failed ≡ false → r.on ≡ p.on
  pub complete : r.output.complete ≡ true → p.output.complete ≡ true
  pub text : r.output.complete ≡ true → take r.output.logged log' ++ take r.pending out ≡ take p.output.logged log ++ take p.pending out
