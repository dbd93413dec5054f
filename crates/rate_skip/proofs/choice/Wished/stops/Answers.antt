-- `rate_skip::choice::Wished::stops`: by whether two bands are left; the product of the depth fits 32 bits, and the last test is the answer. Assumes nothing.
use Prim.Native.Nat.{◌-◌, ◌*◌, ◌≤◌, ◌<◌}
use native.Mathlib.Omega.{arith}
use native.Mathlib.Nat.{mul-le-mul}
use lib.Pow.{pow_mono}
use borrow.Author.Tests.{le-leb, lt-leb}
use mir.Syntax.{w32}
use mir.Val.{SFits}
use borrow.Author.Rules.{rules}
use mir.Facts.{to_z-of_z, to_z_pos}
use Rattle.modes.proofs.EdgeRule.{width-most}
use Rattle.rate_spec.specs.Answers.{depth, stops}
use Rattle.rate_skip.proofs.choice.Wished.stops.Goals as goal
use Rattle.rate_skip.proofs.choice.Wished.stops.Goals.{After-pow2-p}

-- at most 9 for each of the 22 coefficients that a band has at most, at LM 0
wide : (c : After-pow2-p) → c.depth-depth.result * c.args.n ≤ 198
wide c =
    mul-le-mul {n₂ = 9} {m₂ = 22} c.depth-depth.ensures.1 (rw c.requires.3 (width-most (c.args.coded - 1)))

-- and for each of the 8 times as many at LM 3
deep : (c : After-pow2-p) → c.depth-depth.result * c.args.n * c.pow2-p.result ≤ 1584
deep c = mul-le-mul {n₂ = 198} {m₂ = 8} (wide c) (rw c.pow2-p.ensures (pow_mono {j = 3} c.requires.0.lm-le))

pub returns-then-coded-f : goal.returns-then-coded-f
unfolding stops
returns-then-coded-f c = rw (le-leb _ _ c.if-coded-f.true)

pub overflow_mul-least : goal.overflow_mul-least
overflow_mul-least c = omega (arith, wide (goal.at.overflow_mul-least c).After-pow2-p)

pub overflow_mul-least-2 : goal.overflow_mul-least-2
overflow_mul-least-2 c = omega (arith, deep (goal.at.overflow_mul-least-2 c).After-pow2-p)

pub overflow_mul-least-3 : goal.overflow_mul-least-3
overflow_mul-least-3 c = omega (arith, deep (goal.at.overflow_mul-least-3 c).After-pow2-p)

pub returns : goal.returns
unfolding stops depth
returns c =
    let b : SFits w32 c.args.self.bandwidth = search rules in
    let h : c.args.coded - 1 < 2147483648 = omega arith in
    rw (
      lt-leb _ _ c.if-coded-f.false,
      ← c.depth-depth.ensures.0,
      ← c.requires.3,
      ← c.pow2-p.ensures,
      to_z_pos w32 h,
      to_z-of_z b,
    )
