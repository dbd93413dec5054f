-- `replay_io::push_decimal`: the figures that `text::write::decimal` wrote into ten bytes go after the text. Assumes nothing.
use Rattle.std.proofs.Common.{length, take, ap, ◌∙◌, rules}
use Rattle.text.specs.Written.{decimal_of}
use Rattle.replay_io.specs.Text.{appended}
use Rattle.replay_io.proofs.Texts.{placed_first}
use Rattle.replay_io.proofs.push_decimal.Goals as goal

pub returns : goal.returns
returns c =
    let a = c.args in
    c.push_all.ensures
    ∙ ap (appended (length a.out.now) (take a.n a.out.now)) (placed_first 10 (decimal_of a.v) c.decimal-count.ensures (search rules))
