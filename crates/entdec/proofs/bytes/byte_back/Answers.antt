-- `entdec::bytes::byte_back`: by the test. Assumes nothing.
use borrow.Author.Tests.{lt-ltb, le-ltb}
use Rattle.entdec.specs.Read.{byte_back}
use borrow.Author.Rules.{rules}
use Rattle.entdec.proofs.bytes.byte_back.Goals as goal

pub returns-then-at-s : goal.returns-then-at-s
unfolding byte_back
returns-then-at-s c = (simp (lt-ltb _ _ c.if-at-s.true) c.byte_at.ensures.0, c.byte_at.ensures.1)

pub returns-else-at-s : goal.returns-else-at-s
unfolding byte_back
returns-else-at-s c = (simp (le-ltb _ _ c.if-at-s.false), search rules)
