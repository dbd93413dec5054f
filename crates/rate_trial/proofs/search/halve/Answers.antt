-- `rate_trial::search::halve`: the count of trials tells what is left of the search, whatever the trials are said to answer. Assumes nothing.
use Prim.Native.Nat.{◌+◌, ◌/◌}
use mathlib.Core.Path.{sym, ◌∙◌}
use native.Mathlib.Omega.{arith}
use Rattle.rate_trial.specs.Calls.{called, lent}
use Rattle.rate_trial.proofs.Halving.{search_done, search_over, search_start, search_under}
use Rattle.rate_trial.proofs.search.halve.Goals as goal

pub loop-lo-preserved-then-over : goal.loop-lo-preserved-then-over
loop-lo-preserved-then-over g c =
    let l = c.loop-lo in
    let mid = (l.lo + l.hi) / 2 in
    let i = l.invariant in (
      λ said n h t.
          search_over said n 0 c.args.top l.lo l.hi l.trials (i.0 said n h t) (omega (arith, c.loop-lo-test.true))
          (sym (t l.over _ mid c.over.result i.1 (omega arith) c.over.ensures) ∙ c.if-over.true),
      called _ _ mid c.over.result i.1 (omega arith) c.over.ensures,
      omega (arith, c.loop-lo-test.true),
      omega (arith, i.2),
      omega (arith, i.2, c.loop-lo-test.true),
    )

pub loop-lo-preserved : goal.loop-lo-preserved
loop-lo-preserved g c =
    let l = c.loop-lo in
    let mid = (l.lo + l.hi) / 2 in
    let i = l.invariant in (
      λ said n h t.
          search_under said n 0 c.args.top l.lo l.hi l.trials (i.0 said n h t) (omega (arith, c.loop-lo-test.true))
          (sym (t l.over _ mid c.over.result i.1 (omega arith) c.over.ensures) ∙ c.if-over.false),
      called _ _ mid c.over.result i.1 (omega arith) c.over.ensures,
      omega (arith, c.loop-lo-test.true),
      omega (arith, i.2),
      omega (arith, i.2, c.loop-lo-test.true),
    )

pub returns-clause-halved : goal.returns-clause-halved
returns-clause-halved g c said n h t =
    let l = c.loop-lo in
    search_done said n 0 c.args.top l.lo l.hi l.trials (l.invariant.0 said n h t) (omega (arith, c.loop-lo-test.false))

pub loop-lo-init : goal.loop-lo-init
loop-lo-init g c = (
  λ said n h t. search_start said n 0 c.args.top (omega (arith, c.requires.bounds)) (omega (arith, h)),
  lent,
  omega (arith, c.requires.bounds),
  omega arith,
  omega arith,
)
