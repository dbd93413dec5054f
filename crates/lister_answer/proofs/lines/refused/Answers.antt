-- `lister_answer::lines::refused`: the letter and two numbers, and the line feed. Assumes nothing.
use mathlib.Core.List.{[], ◌∷◌}
use Rattle.lister_answer.specs.Lines.{refused_line}
use Rattle.lister_answer.proofs.AnswerLines.{put-field, put-line}
use Rattle.text.specs.Written.{decimal_of}
use Rattle.lister_answer.proofs.lines.refused.Goals as goal

pub returns : goal.returns
unfolding refused_line
returns c =
    let a = c.args in
    put-line 12 12 88 (decimal_of a.number) (decimal_of a.why ∷ []) c.begin-a.ensures
    (put-field 11 1 (decimal_of a.why) [] c.decimal_field-b.ensures c.feed.ensures)
