-- `cwrs::work::reach`: the search goes down as long as the count is above i, so what it has not yet passed gives the same end. Assumes nothing.
use mathlib.Core.Path.{◌≡◌, sym, ap, ◌∙◌}
use Prim.Native.Nat.{◌+◌, ◌-◌, ◌≤◌}
use native.Mathlib.Omega.{arith}
use Rattle.cwrs_counts.specs.Count.{U}
use Rattle.cwrs.specs.Word.{reach}
use Rattle.cwrs_counts.proofs.Recurrence.{up-le'}
use Rattle.cwrs.proofs.Back.{reach-stop, reach-down}
use Rattle.cwrs.proofs.work.reach.Goals as goal
use Rattle.cwrs.proofs.work.reach.Goals.{In-loop-p}

-- the count at left is above i, so the place is not yet reached
over : (c : In-loop-p) → let a = c.args in let j = c.loop-p.left in
    (1 ≤ j) × (reach a.n j a.i ≡ reach a.n (j - 1) a.i)
over c =
    reach-down c.args.n c.loop-p.left c.args.i c.requires.0 (omega arith)

pub overflow_sub-left : goal.overflow_sub-left
overflow_sub-left c = (over (goal.at.overflow_sub-left c).In-loop-p).0

pub pvq_u-p-requires : goal.pvq_u-p-requires
pvq_u-p-requires c =
    let j = c.loop-p.left in
    let d = over (goal.at.pvq_u-p-requires c).In-loop-p in
    (omega arith, omega arith, omega (arith, c.ranges.here, up-le' c.args.n c.requires.0 (j - 1) c.args.k (omega arith)))

pub loop-p-smaller : goal.loop-p-smaller
loop-p-smaller c = let d = over (goal.at.loop-p-smaller c).In-loop-p in omega arith

pub loop-p-preserved : goal.loop-p-preserved
loop-p-preserved c =
    let d = over (goal.at.loop-p-preserved c).In-loop-p in
    let l = c.loop-p in
    let a = c.args in
    let e : l.left ≡ l.left - 1 + 1 = omega arith in
    (omega arith, c.pvq_u-p.ensures, l.invariant.1 ∙ ap (U a.n) e, l.invariant.3 ∙ d.1)

pub returns : goal.returns
returns c =
    let l = c.loop-p in (
      sym (l.invariant.3 ∙ reach-stop c.args.n l.left c.args.i (omega arith)),
      omega arith,
      l.invariant.1,
      l.invariant.2,
      omega arith,
    )
