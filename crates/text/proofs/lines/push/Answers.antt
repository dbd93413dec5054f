-- `text::lines::push`: the byte is kept where there is room, and the line stays where there is none. Assumes nothing.
use native.Mathlib.Omega.{arith}
use lib.ListN.{length}
use Rattle.text.proofs.Blocks.{push-room, push_full}
use Rattle.text.proofs.lines.push.Goals as goal

pub returns-then-n-buf : goal.returns-then-n-buf
returns-then-n-buf c = let a = c.args in (push-room (length a.buf.now) a.buf.now a.n a.b (omega arith) (omega arith), omega arith)

pub returns : goal.returns
returns c = let a = c.args in (push_full (length a.buf.now) a.buf.now a.n a.b (omega arith) (omega arith), omega arith)
