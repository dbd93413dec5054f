-- `rate_split::shares::part_of`: the band's sizes are within bounds, so the split's contract applies. Assumes nothing.
use Prim.Native.Nat.{◌+◌, ◌-◌, ◌*◌, ◌^◌, ◌≤◌}
use native.Mathlib.Nat.{mul-le-mul}
use native.Mathlib.Numerals.{add-one}
use mathlib.Core.Path.{◌≡◌, ap, ◌∙◌}
use native.Mathlib.Omega.{arith}
use lib.Pow.{pow_mono, pow_pos}
use Rattle.modes.specs.Edges.{edge, width}
use Rattle.modes.proofs.EdgeRule.{edge-next, width_some, width-most}
use Rattle.rate_split.proofs.shares.part_of.Goals as goal
use Rattle.rate_split.proofs.shares.part_of.Goals.{Start}

-- `rate_split::shares::part_of`: the band's sizes are within bounds, so the split's contract applies. Assumes nothing.
-- the band's width is 1 to 22
widths : (c : Start) → (c.args.lo ≤ c.args.hi) × (1 ≤ c.args.hi - c.args.lo) × (c.args.hi - c.args.lo ≤ 22)
widths c =
    let j = c.args.j in
    let e : c.args.hi ≡ edge j + width j = c.requires.3 ∙ ap edge (add-one j) ∙ edge-next j c.requires.1 in
    omega (arith, c.requires.2, width_some j c.requires.1, width-most j)

-- and it has up to 176 coefficients
coefficients : (c : Start) → (1 ≤ (c.args.hi - c.args.lo) * 2 ^ c.args.f.lm) × ((c.args.hi - c.args.lo) * 2 ^ c.args.f.lm ≤ 176)
coefficients c = (
  mul-le-mul {n₁ = 1} {m₁ = 1} (widths c).1 (pow_pos c.args.f.lm),
  mul-le-mul {n₂ = 22} {m₂ = 8} (widths c).2 (pow_mono {j = 3} c.requires.0.lm-le),
)

pub overflow_sub-n : goal.overflow_sub-n
overflow_sub-n c = (widths (goal.at.overflow_sub-n c).Start).0

pub overflow_mul-n : goal.overflow_mul-n
overflow_mul-n c = rw c.pow2.ensures (omega (arith, (coefficients (goal.at.overflow_mul-n c).Start).1))

pub degrees_of-den-requires : goal.degrees_of-den-requires
degrees_of-den-requires
    c = rw c.pow2.ensures (
      c.requires.0.c_low,
      c.requires.0.c_le,
      (coefficients (goal.at.degrees_of-den-requires c).Start).0,
      (coefficients (goal.at.degrees_of-den-requires c).Start).1,
    )
