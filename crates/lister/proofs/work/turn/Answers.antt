-- `lister::work::turn`: a step of the reader, a reply and a flush keep what holds between turns (`turn-keeps`). Assumes nothing.
use Rattle.tool_lines.proofs.Tools.{turn-keeps}
use Rattle.lister.specs.Stream.{lister}
use Rattle.lister.proofs.work.turn.Goals as goal

pub returns : goal.returns
returns c =
    let a = c.args in
    let next = c.next-r in
    let reply = c.reply-q in
    let flush = c.flush-after in
    turn-keeps lister 0 a.s.number a.s.reader next.result a.s.pen 64336 1200 a.block.now a.kept.now a.out.now a.seen.now
    a.sent.now a.reads.now a.writes.now next.new.block next.new.kept next.new.log next.new.calls
    reply.new.out flush.new.log flush.new.calls c.requires.0 c.requires.1 next.auto.kept reply.auto.out
    next.ensures reply.ensures flush.ensures
