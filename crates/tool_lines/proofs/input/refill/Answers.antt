-- `tool_lines::input::refill`: one read: its bytes are the next block, or the input has ended. Assumes nothing.
use mathlib.Core.Path.{refl}
use lib.ListN.{length}
use Rattle.tool_lines.proofs.Steps.{stepped-by-read}
use Rattle.tool_lines.proofs.input.refill.Goals as goal

pub returns : goal.returns
returns c kept h =
    let a = c.args in
    let g = c.read_block-g in
    stepped-by-read (length kept) a.p kept a.block.now a.log.now g.new.block g.new.log g.new.calls h c.requires.4 c.requires.3 c.begun-k.ensures refl
    g.auto.block g.ensures c.ended-ended.ensures c.read_failed-failed.ensures
