-- `text::places::place`: the invariant: p is the place of the field that was reached. Assumes nothing.
use mathlib.Core.Path.{◌≡◌}
use Rattle.text.specs.Fields.{place_of}
use Rattle.text.proofs.places.place.Given as goal

abbrev pub invariant-loop : goal.invariant-loop
invariant-loop l = l.p ≡ place_of l.s l.counter
