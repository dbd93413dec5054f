-- `stream_saved::reads::answer`: by the next number and the refusal. Assumes nothing.
use mathlib.Core.Path.{sym, ap, ◌∙◌}
use Rattle.std.specs.Prelude.{ℕ, Some}
use Rattle.entcode.specs.Said.{verdict}
use Rattle.entcode.proofs.Said.{stopped-some}
use Rattle.stream_saved.specs.Lines.{refused_as}
use Rattle.stream_saved.proofs.Energies.{answer-record, answer-refused, answer_bad}
use Rattle.stream_saved.proofs.reads.answer.Goals as goal

pub returns-in_default : goal.returns-in_default
returns-in_default c = let a = c.args in answer_bad a.n a.letter a.f c.in_default.is c.refused.ensures

pub returns-in-Ok : goal.returns-in-Ok
returns-in-Ok c =
    let a = c.args in
    answer-record a.n a.letter a.f c.from.result (c.in-Some.is ∙ ap (λ (v : ℕ). Some v) (sym c.from.ensures)) c.refusal_of.ensures
    (ap verdict c.in-Ok.is)

pub returns-in-Err : goal.returns-in-Err
returns-in-Err c =
    let a = c.args in
    answer-refused a.n a.letter a.f _ c.in-Some.is c.refusal_of.ensures (stopped-some _ _ c.in-Err.is)
    (c.refused-in-Err.ensures ∙ ap refused_as (sym (ap verdict c.in-Err.is)))
