-- `trip_call::given::value_at`: by the last digit. Assumes nothing.
use mathlib.Core.Path.{◌∙◌}
use mir.Syntax.{w32}
use mir.Facts.{to_z-of_z}
use borrow.Author.Rules.{rules}
use Rattle.trip_call.proofs.Counting.{value_even, value-odd}
use Rattle.trip_call.proofs.given.value_at.Goals as goal

pub returns-then-count-eq0 : goal.returns-then-count-eq0
returns-then-count-eq0 c = to_z-of_z {w = w32} {z = c.value_of.result} (search rules) ∙ c.value_of.ensures ∙ value_even _ c.if-count-eq0.true

pub returns-else-count-eq0 : goal.returns-else-count-eq0
returns-else-count-eq0 c = to_z-of_z {w = w32} {z = c.value_of-else-count-eq0.result} (search rules) ∙ c.value_of-else-count-eq0.ensures
    ∙ value-odd _ c.if-count-eq0.false
