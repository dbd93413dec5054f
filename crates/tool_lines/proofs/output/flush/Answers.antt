-- `tool_lines::output::flush`: the text stays only where it may wait; else one write hands it over. Assumes nothing.
use Rattle.tool_lines.proofs.Tools.{text_handed_over}
use Rattle.tool_lines.proofs.output.flush.Goals as goal

pub returns : goal.returns
returns c =
    let q = c.write_text-after in
    text_handed_over c.args.p c.args.out.now c.args.log.now c.args.dry c.args.most q.new.log q.new.calls q.ensures
    c.write_failed-failed.ensures
