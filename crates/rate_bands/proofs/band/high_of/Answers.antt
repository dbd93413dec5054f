-- `rate_bands::band::high_of`: the next vector's bits, or the cap past the last vector, after the trim, with the boost. Assumes nothing.
use Prim.Native.Nat.{◌+◌, ◌*◌, ◌≤◌}
use native.Mathlib.Omega.{arith}
use Rattle.rate_bands.proofs.Gauges.{high-caps, high-vector, scaled-le, trimmed-most}
use Rattle.rate_bands.proofs.band.high_of.Goals as goal
use Rattle.rate_bands.proofs.band.high_of.Goals.{After-step_in-s}

product : (c : After-step_in-s) → c.args.scale * c.step_in-s.result ≤ 70400
product c =
    scaled-le c.requires.0 c.args.j c.requires.5.scale-is c.step_in-s.ensures.1

pub overflow_add-result : goal.overflow_add-result
overflow_add-result c =
    omega (arith, trimmed-most c.requires.0 _ c.args.j c.trimmed_of.ensures, c.requires.1.caps-le c.args.j, c.requires.1.offsets-le c.args.j)

pub returns-then-v-eq10 : goal.returns-then-v-eq10
returns-then-v-eq10 c =
    high-caps c.args.f c.args.offsets.now c.args.caps.now (c.args.v + 1) c.args.j (omega arith) c.trimmed_of.ensures

pub overflow_mul-scale : goal.overflow_mul-scale
overflow_mul-scale c = omega (arith, product (goal.at.overflow_mul-scale c).After-step_in-s)

pub trimmed_of-requires-2 : goal.trimmed_of-requires-2
trimmed_of-requires-2 c =
    let p = c.requires in
    (p.0, omega (arith, product (goal.at.trimmed_of-requires-2 c).After-step_in-s), p.5.up_is, p.5.down_is)

pub overflow_add-result-2 : goal.overflow_add-result-2
overflow_add-result-2 c =
    omega (
      arith,
      product (goal.at.overflow_add-result-2 c).After-step_in-s,
      trimmed-most c.requires.0 _ c.args.j c.trimmed_of-2.ensures,
      c.requires.1.offsets-le c.args.j,
    )

pub returns : goal.returns
returns c =
    high-vector c.args.f c.args.offsets.now c.args.caps.now (c.args.v + 1) c.args.j c.requires.5.scale-is
    c.step_in-s.ensures.0
    c.trimmed_of-2.ensures (omega arith)
