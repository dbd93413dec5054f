-- `stream_saved::writes::line`: the letter, the next number and the energies, one after the other. Assumes nothing.
use Rattle.stream_saved.proofs.Placed.{put-line}
use Rattle.stream_saved.proofs.writes.line.Goals as goal

pub returns : goal.returns
returns c =
    put-line c.args.rec c.args.buf.now c.decimal_field-at.ensures c.fields.ensures
