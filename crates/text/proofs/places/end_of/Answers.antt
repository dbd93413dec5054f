-- `text::places::end_of`: the invariant: the end of the field is the same from the place reached as from the first. Assumes nothing.
use mathlib.Core.Path.{sym, ◌∙◌}
use native.Mathlib.Omega.{arith}
use lib.ListN.{length}
use Rattle.laws.proofs.Tests.{by_le}
use Rattle.text.proofs.PlaceLaws.{end_here, end-next, end-last}
use Rattle.text.proofs.places.end_of.Goals as goal

pub returns-then-s-i-eq9 : goal.returns-then-s-i-eq9
returns-then-s-i-eq9 c = sym (end_here _ _ (omega arith) c.if-s-i-eq9.true) ∙ c.loop-i.invariant

pub loop-i-preserved : goal.loop-i-preserved
loop-i-preserved c = end-next _ _ (omega arith) c.if-s-i-eq9.false ∙ c.loop-i.invariant

pub returns : goal.returns
returns c =
    let s = c.args.s.now in
    let i = c.loop-i.i in
    let e = end-last s i (omega (arith, c.loop-i-test.false)) in
    c.max.ensures
    ∙ by_le (length s) c.args.at
    (λ h. omega (arith, end-last s c.args.at h))
    (λ h. omega (arith, c.loop-i.invariant, c.loop-i.auto.i-end (omega arith), c.loop-i-test.false))
