-- `laplace::chain::locate`: the walk to the place, and what is found there. Assumes nothing.
use native.Mathlib.Omega.{arith}
use mathlib.Core.Path.{◌∙◌, ap}
use Rattle.std.proofs.Common.{rules}
use Rattle.modes.proofs.Laplace.{legal_parts}
use Rattle.laplace.specs.declared.chain.Step.{Step}
use Rattle.laplace.specs.Chain.{past, first_step, locate_at}
use Rattle.laplace.proofs.Spans.{walk_went, past-le, locate-more, locate-none, found_proper}
use Rattle.laplace.proofs.chain.locate.Goals as goal

pub found-requires : goal.found-requires
found-requires c =
    let a = c.args in
    let p = c.requires in
    let w = walk_went (past a.fm) 32 a.decay (first_step a.fs a.decay) (legal_parts a.fs a.decay p.0).ended in
    rw (c.walk-s.ensures (past a.fm) (λ s r h m. search rules)) (w.within, w.most, past-le a.fm 32 a.decay (first_step a.fs a.decay) c.if-fm-fs.false, p.1)

pub returns-then-fm-fs : goal.returns-then-fm-fs
returns-then-fm-fs c =
    let a = c.args in
    let q = locate-none a.fm a.fs a.decay c.if-fm-fs.true in
    let f = found_proper a.fs a.decay (legal_parts a.fs a.decay c.requires.0) a.fm c.requires.1 in
    (q, rw q f.0, omega arith, c.if-fm-fs.true)

pub returns-else-fm-fs : goal.returns-else-fm-fs
returns-else-fm-fs c =
    let a = c.args in
    let q = c.found.ensures ∙ ap (λ (s : Step). locate_at a.fm s) (c.walk-s.ensures (past a.fm) (λ s r h m. search rules)) ∙ locate-more a.fm a.fs a.decay
    c.if-fm-fs.false in
    let f = found_proper a.fs a.decay (legal_parts a.fs a.decay c.requires.0) a.fm c.requires.1 in
    (q, rw q f.0, rw q f.1, rw q f.2)
