-- `laplace::chain::span_by`: the walk to the value, and what stands for it there. Assumes nothing.
use mathlib.Core.Path.{◌∙◌, ap}
use Rattle.std.proofs.Common.{rules}
use Rattle.modes.proofs.Laplace.{legal_parts}
use Rattle.laplace.specs.declared.chain.Step.{Step}
use Rattle.laplace.specs.Chain.{up_to, first_step, span_at}
use Rattle.laplace.proofs.Spans.{walk_went, up_to-le, span_more, span_none, span_proper}
use Rattle.laplace.proofs.chain.span_by.Goals as goal

pub coded-requires : goal.coded-requires
coded-requires c =
    let a = c.args in
    let p = c.requires in
    let w = walk_went (up_to a.a) 32 a.decay (first_step a.fs a.decay) (legal_parts a.fs a.decay p).ended in
    rw (c.walk-s.ensures (up_to a.a) (λ s r h m. search rules)) (w.within, w.most, up_to-le a.a 32 a.decay (first_step a.fs a.decay) c.if-a-gt0.true)

pub returns-then-a-gt0 : goal.returns-then-a-gt0
returns-then-a-gt0 c =
    let a = c.args in
    let q = c.coded.ensures ∙ ap (λ (s : Step). span_at a.neg a.a s) (c.walk-s.ensures (up_to a.a) (λ s r h m. search rules)) ∙ span_more a.neg a.a a.fs a.decay
    c.if-a-gt0.true in
    (q, rw q (span_proper a.fs a.decay (legal_parts a.fs a.decay c.requires) a.neg a.a))

pub returns-else-a-gt0 : goal.returns-else-a-gt0
returns-else-a-gt0 c =
    let a = c.args in
    let q = span_none a.neg a.a a.fs a.decay c.if-a-gt0.false in
    (q, rw q (span_proper a.fs a.decay (legal_parts a.fs a.decay c.requires) a.neg a.a))
