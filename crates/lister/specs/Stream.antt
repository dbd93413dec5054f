-- What the lister answers to a whole input: document 01, "The lister".
use Rattle.std.specs.Prelude.{ℕ, suc, ◌≡◌, cond, List, [], ◌∷◌, ◌++◌, ltb}
use Rattle.text.specs.Lines.{lines_of}
use Rattle.lister_answer.specs.Answer.{listing_of_line}
use Rattle.tool_lines.specs.Tool.{Tool, text_of}

-- the lister as a program that answers lines: of a line it looks at 2,601 bytes, one more than a request may have; its state is the number of
-- lines before, of which it takes at most 4,294,967,295
abbrev pub lister : Tool ℕ
lister =
    record {
      line_size = 2601;
      takes = λ n. ltb n 4294967295;
      next = λ n l. suc n;
      line_text = λ n l. listing_of_line (suc n) l;
      end_text = λ n. [];
      stop_text = λ n. [];
    }

-- the answers to lines, in order, each with its number; n lines came before the first
unfoldable pub answers : ℕ → List (List ℕ) → List ℕ
answers n [] = []
answers n (l ∷ ls) = cond (ltb n 4294967295) (listing_of_line (suc n) l ++ answers (suc n) ls) []

-- the answer to a whole input
unfoldable pub lister_output : List ℕ → List ℕ
lister_output s = answers 0 (lines_of s)

-- What the contract of a run (`Ran`) says of the lister's text is said of this answer: the bytes that are cut off an over-long line change
-- nothing. Its proof is in proofs/ListerText.antt.
abbrev pub TextIsOutput : Type 0
TextIsOutput = (s : List ℕ) → text_of lister 0 s ≡ lister_output s
