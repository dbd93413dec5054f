-- `entenc_sink::front::put_front`: by whether there is room. Assumes nothing.
use borrow.Author.Tests.{lt-ltb, le-ltb}
use Rattle.entenc_sink.specs.Out.{put_front}
use Rattle.entenc_sink.proofs.front.put_front.Goals as goal

pub returns-then-s : goal.returns-then-s
unfolding put_front
returns-then-s c = simp (lt-ltb _ _ c.if-s.true)

pub returns-else-s : goal.returns-else-s
unfolding put_front
returns-else-s c = simp (le-ltb _ _ c.if-s.false)
