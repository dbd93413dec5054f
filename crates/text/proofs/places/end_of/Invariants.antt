-- `text::places::end_of`: the end of the field is the same from the place reached as from the first. Assumes nothing.
use mathlib.Core.Path.{◌≡◌}
use Rattle.text.specs.Fields.{end_from}
use Rattle.text.proofs.places.end_of.Given as goal

abbrev pub invariant-loop-i : goal.invariant-loop-i
invariant-loop-i l = end_from l.s l.i ≡ end_from l.s l.at
