-- `lister_answer::lines::feed`: one byte. Assumes nothing.
use Rattle.lister_answer.proofs.AnswerLines.{put-feed}
use Rattle.lister_answer.proofs.lines.feed.Goals as goal

pub returns : goal.returns
returns c = put-feed c.args.buf.now c.args.at
