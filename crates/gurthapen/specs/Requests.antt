-- The lister's answers, exported: lister_answer's call, over lists.
use Rattle.std.specs.Prelude.{ℕ, List}
use Rattle.lister_answer.specs.Answer.{listing}
use Rattle.gurthapen_answer.specs.Result.{Result, exported}
use Rattle.gurthapen_answer.specs.Requests.{lists_listed}
use Rattle.gurthapen_state.specs.State.{is_long}

-- the answer to a line into the bytes b; v is where its length goes
abbrev pub answers_line : ℕ → List ℕ → List ℕ → List ℕ → Result (List ℕ × List ℕ)
answers_line number line v b = exported (is_long 1 v) (lists_listed (listing number line b)) (v, b)
