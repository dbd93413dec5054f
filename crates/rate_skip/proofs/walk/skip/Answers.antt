-- `rate_skip::walk::skip`: before each round, the rounds that are left give what all of them gave. Assumes nothing.
use Prim.Native.Nat.{suc, ◌+◌, ◌-◌, ◌<◌}
use mathlib.Core.Path.{◌≡◌, ◌∙◌}
use mathlib.Core.Bool.{Bool}
use native.Mathlib.Omega.{arith}
use lib.ListN.{length-set}
use Rattle.modes.proofs.EdgeRule.{edge-le}
use Rattle.rate_skip.specs.Asks.{when_asked}
use Rattle.rate_skip.proofs.Figured.{width_is}
use Rattle.rate_skip.proofs.Going.{going_done, going_on, going-stops, kept_next, round_in}
use Rattle.rate_skip.proofs.walk.skip.Given.{Over}
use Rattle.rate_skip.proofs.walk.skip.Goals as goal
use Rattle.rate_skip.proofs.walk.skip.Goals.{After-flag}

pub round_of-y-requires : goal.round_of-y-requires
round_of-y-requires g c =
    let m : c.args.low + 1 < c.loop-j.j = omega (arith, c) in
    let e : c.loop-j.j - 1 + 1 ≡ c.loop-j.j = omega (arith, m) in
    rw e
    (round_in _ _ _ _ c.loop-j.invariant.5 m c.requires.0.frame, c.edge_of-first.ensures.0, c.edge_of-lo.ensures.0, c.loop-j.invariant.1)

pub overflow_sub-hi : goal.overflow_sub-hi
overflow_sub-hi g c =
    rw (c.edge_of-lo.ensures.0, c.loop-j.invariant.1) (edge-le (c.loop-j.j - 1) c.loop-j.j (omega arith)
    c.loop-j.invariant.5.sound.below)

pub flag-requires : goal.flag-requires
flag-requires g c =
    let v = c.loop-j.invariant in
    let m : c.args.low + 1 < c.loop-j.j = omega (arith, c) in
    let e : c.loop-j.j - 1 + 1 ≡ c.loop-j.j = omega (arith, m) in
    rw e (
      c.requires.0.frame,
      omega (arith, m),
      v.5.sound.below,
      width_is _ _ _ _ _ (round_in _ _ _ _ v.5 m c.requires.0.frame) c.edge_of-first.ensures.0 c.edge_of-lo.ensures.0 v.1,
      g.met.S.Side.fewer 1 (c.loop-j.j - suc c.args.low + 2) c.loop-j.side (omega arith) v.3,
    )

-- the flag is the answer that the first side gives
answered : (g : Over) (c : After-flag g) → let S = g.S.Side in
    ◌≡◌ {A = Bool × S.State} (c.flag.result, S.state c.flag.new.side)
    (when_asked c.round_of-y.result.asked
    ((S.ask c.args.side.now c.args.f).skip c.loop-j.j c.round_of-y.result.top (S.state c.loop-j.side)) (S.state c.loop-j.side))
answered g c =
    let e : c.loop-j.j - 1 + 1 ≡ c.loop-j.j = omega (arith, c.loop-j-test.true) in
    rw (← e, g.met.S.Side.answers _ _ c.loop-j.invariant.4) c.flag.ensures.answered

pub returns-then-flag-clause-ended : goal.returns-then-flag-clause-ended
returns-then-flag-clause-ended g c =
    let m : c.args.low + 1 < c.loop-j.j = omega (arith, c) in
    let e : c.loop-j.j - 1 + 1 ≡ c.loop-j.j = omega (arith, m) in
    rw e
    (going-stops _ _ _ _ c.loop-j.invariant.5 m (rw e at c.round_of-y.ensures)
    (answered g (goal.at.returns-then-flag-clause-ended g c).After-flag) c.if-flag.true)

pub loop-j-preserved : goal.loop-j-preserved
loop-j-preserved g c =
    let y = c.round_of-y in
    let v = c.loop-j.invariant in
    let m : c.args.low + 1 < c.loop-j.j = omega (arith, c) in
    let n : c.loop-j.j - 1 + 1 ≡ c.loop-j.j = omega (arith, m) in
    let e : c.loop-j.j - suc c.args.low + 2 ≡ suc (c.loop-j.j - 1 - suc c.args.low + 2) = omega arith in (
      omega (arith, v.0),
      c.edge_of-lo.ensures.0,
      length-set c.loop-j.kept (c.loop-j.j - 1) y.result.keep ∙ v.2,
      c.flag.ensures.ready (c.loop-j.j - 1 - suc c.args.low + 2) (rw e at v.3),
      g.met.S.Side.alike_next _ _ _ v.4 c.flag.ensures.same,
      rw (kept_next c.args.f.end c.loop-j.j y.result.keep c.loop-j.kept (omega arith) v.0
          (omega (arith, v.0, v.2, c.requires.2, c.requires.0.frame.end-le)))
          (going_on _ _ _ _ v.5 m (rw n at y.ensures) (answered g (goal.at.loop-j-preserved g c).After-flag) c.if-flag.false),
    )

pub returns-clause-ended : goal.returns-clause-ended
returns-clause-ended g c =
    let e : c.args.low + 1 ≡ c.loop-j.j = omega (arith, c.loop-j.invariant.5.above, c.loop-j-test.false) in
    rw e (going_done _ _ _ _ c.loop-j.invariant.5 (omega (arith, c)))
