-- `text::write::hex_word`: eight digits of base 16 are spelled. Assumes nothing.
use Rattle.text.proofs.Texts.{put_word}
use Rattle.text.proofs.write.hex_word.Goals as goal

pub returns : goal.returns
returns c = put_word c.args.buf.now c.args.at
    c.args.n c.spell.ensures
