-- `lister_answer::decide::none`: no lists are 21 zeros each. Assumes nothing.
use mathlib.Core.Path.{refl}
use Rattle.rate.specs.Question.{no_entries}
use Rattle.lister_answer.proofs.decide.none.Goals as goal

pub returns : goal.returns
unfolding no_entries
returns c = refl
