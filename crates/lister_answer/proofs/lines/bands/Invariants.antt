-- `lister_answer::lines::bands`: the invariant: the lines from band j on, written from here on, give what all lines give. Assumes nothing.
use Rattle.lister_answer.proofs.AnswerLines.{BandsToWrite}
use Rattle.rate.specs.Question.{lists}
use Rattle.lister_answer.proofs.lines.bands.Given as goal

abbrev pub invariant-loop-j : goal.invariant-loop-j
invariant-loop-j l = BandsToWrite (lists l.pulses l.fine l.priorities) l.end l.start l.at l.initial.buf l.j l.to l.buf
