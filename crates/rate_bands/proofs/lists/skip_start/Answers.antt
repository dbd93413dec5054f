-- `rate_bands::lists::skip_start`: the highest boosted band is below j. Assumes nothing.
use native.Mathlib.Omega.{arith}
use mathlib.Core.Path.{refl, sym, ◌∙◌}
use Rattle.rate_spec.specs.Skips.{skip_start}
use Rattle.rate_bands.specs.Inputs.{alloc_in}
use Rattle.rate_bands.proofs.Boosts.{boost_below, boost_here, boost_none}
use Rattle.rate_bands.proofs.lists.skip_start.Goals as goal

pub loop-j-init : goal.loop-j-init
unfolding skip_start
loop-j-init c = (omega arith, refl)

pub returns-then-offsets-j-gt0 : goal.returns-then-offsets-j-gt0
returns-then-offsets-j-gt0 c =
    let a = c.args in
    sym (boost_here (alloc_in a.f a.offsets.now a.caps.now) c.loop-j.j (omega arith) c.if-offsets-j-gt0.true) ∙ c.loop-j.invariant.1

pub loop-j-preserved : goal.loop-j-preserved
loop-j-preserved c =
    let a = c.args in (
      omega arith,
      sym (boost_below (alloc_in a.f a.offsets.now a.caps.now) c.loop-j.j (omega arith) c.if-offsets-j-gt0.false)
          ∙ c.loop-j.invariant.1,
    )

pub returns : goal.returns
returns c =
    let a = c.args in
    sym (boost_none (alloc_in a.f a.offsets.now a.caps.now) c.loop-j.j (omega arith)) ∙ c.loop-j.invariant.1
