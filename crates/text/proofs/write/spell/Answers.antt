-- `text::write::spell`: the invariant: the digits that remain, written in front of those that stand there, give what all digits give. Assumes nothing.
use mathlib.Core.Path.{◌∙◌}
use native.Mathlib.Omega.{arith}
use lib.ListN.{length-set}
use Rattle.text.proofs.Texts.{spell_next, spell-none}
use Rattle.text.proofs.write.spell.Goals as goal

pub loop-i-preserved : goal.loop-i-preserved
loop-i-preserved c =
    let l = c.loop-i in
    let a = c.args in
    (simp length-set l.invariant.0, spell_next a.base l.buf a.at l.i l.rest (omega arith) c.glyph.ensures ∙ l.invariant.1)

pub returns : goal.returns
returns c =
    let l = c.loop-i in
    let a = c.args in
    spell-none a.base l.buf a.at l.i l.rest (omega arith) ∙ l.invariant.1
