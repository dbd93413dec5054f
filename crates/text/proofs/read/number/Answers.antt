-- `text::read::number`: one case for no figure, for a zero in front, for one figure, and for the rest. Assumes nothing.
use mathlib.Core.Path.{◌∙◌}
use native.Mathlib.Omega.{arith}
use borrow.Author.Tests.{ltb-true, ltb-false, eqb-false}
use Rattle.text.proofs.Values.{number-none, number_one, number-zero, number_more}
use Rattle.text.proofs.read.number.Goals.{in_default-via-then-s-lt2, in_default-via-else-s-lt2+in_default-1}
use Rattle.text.proofs.read.number.Goals as goal

pub returns-in_default : goal.returns-in_default
returns-in_default c =
    let a = c.args in
    c.digits.ensures ∙ elim c.in_default.branch [
      | in_default-via-then-s-lt2 w ↦ number_one a.most a.s.now (omega (arith, ltb-true, ltb-false))
      | in_default-via-else-s-lt2+in_default-1 w ↦ number_more a.most a.s.now
          (λ z. omega (arith, ltb-true, ltb-false)) (λ z. omega (arith, ltb-true, ltb-false)) (λ z. omega (arith, eqb-false))
    ]

pub returns-in-empty : goal.returns-in-empty
returns-in-empty c = number-none c.args.most c.args.s.now (omega arith)

pub returns-in-empty-2 : goal.returns-in-empty-2
returns-in-empty-2 c = number-zero c.args.most c.args.s.now (λ z. omega arith) (λ z. omega arith) (omega arith)
