-- `entenc_sink::raw::put_end`: by whether there is room. Assumes nothing.
use borrow.Author.Tests.{lt-ltb, le-ltb}
use Rattle.entenc_sink.specs.Out.{put_end}
use Rattle.entenc_sink.proofs.raw.put_end.Goals as goal

pub returns-then-s : goal.returns-then-s
unfolding put_end
returns-then-s c = simp (lt-ltb _ _ c.if-s.true)

pub returns-else-s : goal.returns-else-s
unfolding put_end
returns-else-s c = simp (le-ltb _ _ c.if-s.false)
