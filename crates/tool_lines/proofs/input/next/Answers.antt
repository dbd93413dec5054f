-- `tool_lines::input::next`: within the block, or with the next one. Assumes nothing.
use lib.ListN.{length}
use Rattle.tool_lines.proofs.Steps.{stepped_in_block}
use Rattle.tool_lines.proofs.input.next.Goals as goal

pub returns-then-p-n : goal.returns-then-p-n
returns-then-p-n c =
    let a = c.args in
    stepped_in_block (length a.kept.now) a.p a.kept.now a.block.now a.log.now c.cut.new.kept c.requires.1 c.requires.0 c.requires.2 c.cut.ensures
