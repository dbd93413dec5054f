-- `lister_answer::decide::decide_numbers`: by whether the numbers are of the domain. Assumes nothing.
use mathlib.Core.Path.{sym, ◌∙◌}
use Rattle.lister_answer.proofs.Decisions.{decision_outside}
use Rattle.lister_answer.proofs.decide.decide_numbers.Goals as goal

pub returns : goal.returns
returns c =
    c.none.ensures ∙ decision_outside c.args.q c.args.s.now (sym c.numbers_ok.ensures ∙ c.if-numbers_ok.false)
