-- `cwrs::work::first_spot`: what is left of the count is the next one, and the first place follows from the three numbers. Assumes nothing.
use Prim.Native.Nat.{ℕ, ◌+◌, ◌-◌}
use mathlib.Core.Path.{◌≡◌, ap, ◌∙◌}
use native.Mathlib.Omega.{arith}
use mir.Syntax.{w32}
use mir.Facts.{to_z-of_z}
use borrow.Author.Rules.{rules}
use Rattle.cwrs_counts.specs.Count.{U}
use Rattle.cwrs_counts.proofs.Recurrence.{V_is', V_one_fewer, up1'}
use Rattle.cwrs.proofs.Back.{first}
use Rattle.cwrs.proofs.work.first_spot.Goals as goal
use Rattle.cwrs.proofs.work.first_spot.Goals.{After-pvq_u-u}

-- what is left of the vectors is the next count
next : (c : After-pvq_u-u) → let a = c.args in a.v - c.pvq_u-u.result ≡ U a.n (a.k + 1)
next c = omega (arith, c.pvq_u-u.ensures, c.requires.3, V_is' c.args.n c.args.k)

pub pvq_u-u-requires : goal.pvq_u-u-requires
pvq_u-u-requires c = omega (arith, c.ranges.v, V_is' c.args.n c.args.k)

pub overflow_sub-p : goal.overflow_sub-p
overflow_sub-p c = omega (arith, V_is' c.args.n c.args.k)

pub reach-r-requires : goal.reach-r-requires
reach-r-requires c =
    (c.requires.0, c.requires.1, omega arith, c.pvq_u-u.ensures, next (goal.at.reach-r-requires c).After-pvq_u-u)

-- the counts where the search ended
pub overflow_sub-result-2 : goal.overflow_sub-result-2
overflow_sub-result-2 c =
    let r = c.reach-r in
    omega (arith, r.ensures.2, r.ensures.3, up1' c.args.n r.result.left c.requires.0)

pub returns : goal.returns
returns c =
    let a = c.args in
    let q = c.among-q in
    let j = c.reach-r in
    let v = c.value_of in
    let f = first a.n a.k a.i (next (goal.at.returns c).After-pvq_u-u) q.ensures.0 j.ensures.0 in (
      to_z-of_z {w = w32} {z = v.result} (search rules) ∙ v.ensures ∙ f.value,
      f.left,
      ap (λ (x : ℕ). q.result - x) j.ensures.2 ∙ f.rest,
      omega (arith, j.ensures.2, j.ensures.3, V_one_fewer a.n j.result.left c.requires.0),
    )
