-- `stream_saved::reads::line`: the parts of a line, put together. Assumes nothing.
use Rattle.stream_saved.proofs.Energies.{line-answers}
use Rattle.stream_saved.proofs.reads.line.Goals as goal

pub returns : goal.returns
returns c =
    line-answers c.args.s.now c.requires c.number_at-n.ensures c.letter_at-letter.ensures
    c.energies-f.ensures c.answer.ensures
