-- `laplace::chain::walk`: what is left of the walk from the step on gives the whole walk, whatever is said of `more`. Assumes nothing.
use mathlib.Core.Path.{sym, ◌∙◌, refl}
use native.Mathlib.Omega.{arith}
use Rattle.modes.proofs.Laplace.{legal_parts}
use Rattle.laplace.specs.Chain.{first_step}
use Rattle.laplace.proofs.Walks.{along_first, along_within, along_high, along_next, left_next, left_done, on_here, off_here, off_end}
use Rattle.laplace.proofs.chain.walk.Goals as goal

pub first_of-s-requires : goal.first_of-s-requires
first_of-s-requires g c = let p = legal_parts _ _ c.requires.model in (p.most, p.slow)

pub loop-s-init : goal.loop-s-init
loop-s-init g c = rw c.first_of-s.ensures (along_first c.args.fs c.args.decay (legal_parts _ _ c.requires.model), λ said t. refl, refl)

pub more-requires : goal.more-requires
more-requires g c = c.requires.asks _ (along_within _ _ c.loop-s.invariant.0)

pub returns-then-not-more : goal.returns-then-not-more
returns-then-not-more g c said t =
    let l = c.loop-s in
    left_done said c.args.decay (first_step c.args.fs c.args.decay) l.s
    (off_here said l.s (sym (t l.s c.more.result (along_within _ _ l.invariant.0) c.more.ensures) ∙ c.if-not-more.true))
    (l.invariant.1 said t)

pub next-s-requires : goal.next-s-requires
next-s-requires g c =
    let l = c.loop-s in
    (along_within _ _ l.invariant.0, along_high _ _ l.invariant.0 c.loop-s-test.true, (legal_parts _ _ c.requires.model).slow)

pub loop-s-smaller : goal.loop-s-smaller
loop-s-smaller g c = let h = along_high _ _ c.loop-s.invariant.0 c.loop-s-test.true in rw c.next-s.ensures (omega arith)

pub loop-s-preserved : goal.loop-s-preserved
loop-s-preserved g c =
    let l = c.loop-s in
    let p = c.loop-s-test.true in
    rw c.next-s.ensures (
      along_next _ _ l.invariant.0 p,
      λ said t.
          left_next c.args.decay l.s l.invariant.0 said (first_step c.args.fs c.args.decay)
          (on_here said l.s p (sym (t l.s c.more.result (along_within _ _ l.invariant.0) c.more.ensures) ∙ c.if-not-more.false)) (l.invariant.1 said t),
      refl,
    )

pub returns : goal.returns
returns g c said t =
    let l = c.loop-s in
    left_done said c.args.decay (first_step c.args.fs c.args.decay) l.s (off_end said l.s c.loop-s-test.false) (l.invariant.1 said t)
