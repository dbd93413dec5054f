-- `text::places::place`: the invariant: p is the place of field k; once a place ends with the line, all later ones are at its end. Assumes nothing.
use mathlib.Core.Path.{◌≡◌, ap, ◌∙◌}
use native.Mathlib.Omega.{arith}
use Rattle.text.specs.Fields.{place_of}
use Rattle.text.proofs.PlaceLaws.{place-first, place-next, place-past, field_is}
use Rattle.text.proofs.places.place.Goals as goal

pub loop-init : goal.loop-init
loop-init c = c.span_from-p.ensures ∙ place-first c.args.s.now

pub returns-then-s-p : goal.returns-then-s-p
returns-then-s-p c =
    let l = c.loop in
    let s = c.args.s.now in
    field_is s c.args.n (c.span_from.ensures ∙ place-past s l.counter c.args.n l.invariant c.loop-test.true c.if-s-p.true)

pub loop-preserved : goal.loop-preserved
loop-preserved c = place-next c.args.s.now c.loop.counter c.loop.invariant c.next-p.ensures

pub returns : goal.returns
returns c =
    let l = c.loop in
    let e : l.counter ≡ c.args.n = omega (arith, l.auto.counter-end, c.loop-test.false) in
    field_is c.args.s.now c.args.n (l.invariant ∙ ap (place_of c.args.s.now) e)
