-- `entenc::Writer::tell_frac`: the rule of the state gives what the worker asks. Assumes nothing.
use mathlib.Core.Path.{sym, ◌∙◌}
use native.Mathlib.Omega.{arith}
use Rattle.entcode.specs.Said.{answer}
use Rattle.entenc.proofs.Taken.{ruled}
use Rattle.entenc.proofs.Writer.tell_frac.Goals as goal

pub tell_frac_of-requires : goal.tell_frac_of-requires
tell_frac_of-requires c =
    let r = ruled c.args.self (sym c.sound.ensures ∙ c.if-sound.true) in
    (omega (arith, r.counts.range_gt), r.counts.total_ge, omega (arith, r.counts.total-le))

pub returns-then-sound : goal.returns-then-sound
unfolding answer
returns-then-sound c = simp (sym c.sound.ensures ∙ c.if-sound.true, c.tell_frac_of.ensures)

pub returns-else-sound : goal.returns-else-sound
unfolding answer
returns-else-sound c = simp (sym c.sound.ensures ∙ c.if-sound.false)
