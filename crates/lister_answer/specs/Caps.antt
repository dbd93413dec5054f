-- The lists of the lister's allocation: no offsets, and caps by the rule of `cap_of`. Document 01, "The lister".
use Rattle.std.specs.Prelude.{ℕ, List, ℤ, pos}
use Rattle.laws.specs.Lists.{fill}
use Rattle.rate_spec.specs.Caps.{cap_of}
use Rattle.rate.specs.Question.{no_entries}

-- the caps of the 21 bands
unfoldable pub caps_of : ℕ → ℕ → List ℤ
caps_of c lm = fill (λ j. pos (cap_of c lm j)) 0 21 no_entries
