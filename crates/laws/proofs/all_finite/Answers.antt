-- `laws::all_finite`: the test so far and what is left of it from the entry of the turn on are the whole test. Assumes nothing.
use mathlib.Core.Path.{sym, ◌∙◌}
use native.Mathlib.Omega.{arith}
use lib.Ieee.{nan}
use lib.Ieee.Scale.{finite}
use lib.ListN.{get_or}
use Rattle.laws.proofs.Floats.{finite-is}
use Rattle.laws.proofs.Lists.{every_on, every-end}
use Rattle.laws.proofs.all_finite.Goals as goal

pub loop-x-preserved : goal.loop-x-preserved
loop-x-preserved c =
    let l = c.args.l.now in
    every_on finite l c.loop-x.x-index nan (omega arith) c.loop-x.ok (c.is_finite-ok.ensures.value ∙ finite-is (get_or l c.loop-x.x-index nan))
    ∙ c.loop-x.invariant

pub returns : goal.returns
returns c = sym (every-end finite c.loop-x.ok c.args.l.now c.loop-x.x-index (omega arith)) ∙ c.loop-x.invariant
