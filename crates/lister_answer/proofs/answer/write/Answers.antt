-- `lister_answer::answer::write`: the text of what `decide` decided is the line's listing, and its bands are of the 21. Assumes nothing.
use mathlib.Core.Path.{ap, ◌∙◌}
use native.Mathlib.Omega.{arith}
use Rattle.lister_answer.specs.Decision.{Decision, listing_of_decision}
use Rattle.lister_answer.proofs.AnswerLines.{put_as}
use Rattle.lister_answer.proofs.Decisions.{line-bands, decision-listing}
use Rattle.lister_answer.proofs.answer.write.Goals as goal

pub write_decided-requires : goal.write_decided-requires
write_decided-requires c =
    let d = c.decide-d in
    let b = line-bands c.args.line.now in
    let f = ap (λ (x : Decision). x.start) d.ensures in
    let g = ap (λ (x : Decision). x.end) d.ensures in
    (omega (arith, f, g, b.0), omega (arith, g, b.1), c.requires)

pub returns : goal.returns
returns c =
    let a = c.args in
    put_as 1200 1200 (omega arith) (ap (λ (x : Decision). listing_of_decision a.number x) c.decide-d.ensures ∙ decision-listing a.number
    a.line.now)
    c.write_decided.ensures
