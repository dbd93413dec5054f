-- `text::write::decimal`: as many digits are spelled as the number has figures, at most 10. Assumes nothing.
use Rattle.text.proofs.Texts.{put-decimal}
use Rattle.text.proofs.write.decimal.Goals as goal

pub returns : goal.returns
returns c = put-decimal c.args.buf.now c.args.at
    c.args.n c.figures-k.ensures.0
    c.figures-k.ensures.1 c.spell.ensures
