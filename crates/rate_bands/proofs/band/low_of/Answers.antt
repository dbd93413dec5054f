-- `rate_bands::band::low_of`: a quarter of scale times step, after the trim, with the boost unless the vector is 0. Assumes nothing.
use Prim.Native.Nat.{◌*◌, ◌≤◌}
use native.Mathlib.Omega.{arith}
use Rattle.rate_bands.proofs.Gauges.{low_first, low_other, scaled-le, trimmed-most}
use Rattle.rate_bands.proofs.band.low_of.Goals as goal
use Rattle.rate_bands.proofs.band.low_of.Goals.{After-step_in-s}

product : (c : After-step_in-s) → c.args.scale * c.step_in-s.result ≤ 70400
product c =
    scaled-le c.requires.0 c.args.j c.requires.5.scale-is c.step_in-s.ensures.1

pub overflow_mul-scale : goal.overflow_mul-scale
overflow_mul-scale c = omega (arith, product (goal.at.overflow_mul-scale c).After-step_in-s)

pub trimmed_of-x-requires : goal.trimmed_of-x-requires
trimmed_of-x-requires c =
    let p = c.requires in
    (p.0, omega (arith, product (goal.at.trimmed_of-x-requires c).After-step_in-s), p.5.up_is, p.5.down_is)

pub returns-then-v-eq0 : goal.returns-then-v-eq0
returns-then-v-eq0 c =
    low_first c.args.f c.args.offsets.now c.args.caps.now c.args.v c.args.j c.requires.5.scale-is c.step_in-s.ensures.0
    c.trimmed_of-x.ensures c.if-v-eq0.true

pub overflow_add-result : goal.overflow_add-result
overflow_add-result c =
    omega (
      arith,
      product (goal.at.overflow_add-result c).After-step_in-s,
      trimmed-most c.requires.0 _ c.args.j c.trimmed_of-x.ensures,
      c.requires.1.offsets-le
          c.args.j,
    )

pub returns : goal.returns
returns c =
    low_other c.args.f c.args.offsets.now c.args.caps.now c.args.v c.args.j c.requires.5.scale-is
    c.step_in-s.ensures.0
    c.trimmed_of-x.ensures c.if-v-eq0.false
