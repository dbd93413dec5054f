-- `lister::work::answer`: the answer is written to the part of the buffer from `at` on (`added`). Assumes nothing.
use mathlib.Core.Path.{refl}
use Rattle.lister.proofs.ListerText.{added}
use Rattle.lister_answer.specs.Answer.{listing_of_line}
use Rattle.lister.proofs.work.answer.Goals as goal

pub returns : goal.returns
returns c =
    let a = c.args in
    added a.out.now _ _ _ (listing_of_line a.number a.line.now) a.at c.requires refl
    c.write.ensures
