-- `lister_answer::caps::caps`: the invariant: the caps of the bands below j stand in the list, and zeros after them. Assumes nothing.
use mathlib.Core.Path.{◌≡◌}
use lib.IntN.{pos}
use Rattle.laws.specs.Lists.{fill}
use Rattle.rate.specs.Question.{no_entries}
use Rattle.rate_spec.specs.Caps.{cap_of}
use Rattle.lister_answer.proofs.caps.caps.Given as goal

abbrev pub invariant-loop-j : goal.invariant-loop-j
invariant-loop-j l = l.out ≡ fill (λ k. pos (cap_of l.c l.lm k)) 0 l.j no_entries
