-- `tool_lines::input::cut`: `fill` takes the block up to the line's end or its own. Assumes nothing.
use lib.ListN.{length}
use Rattle.tool_lines.proofs.Steps.{cut_in_block}
use Rattle.tool_lines.proofs.input.cut.Goals as goal

pub returns : goal.returns
returns c =
    let a = c.args in
    cut_in_block (length a.kept.now) a.p a.kept.now a.block.now c.fill-f.new.buf c.begun-k.ensures c.fill-f.ensures
