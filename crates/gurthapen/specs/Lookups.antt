-- The pulse cache's lookups, exported: rate_cache's calls, over lists.
use Rattle.std.specs.Prelude.{ℕ, List}
use Rattle.entcode.specs.Said.{Said}
use Rattle.gurthapen_answer.specs.Result.{Result, exported, lists_number}
use Rattle.gurthapen_state.specs.State.{is_long}

-- a lookup into a list of one number
abbrev pub looks : Said ℕ → List ℕ → Result (List ℕ)
looks a v = exported (is_long 1 v) (lists_number a) v
