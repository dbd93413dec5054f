-- `rate_trial::search::sixtyfourths_of`: the search is the definition's, in at most 6 trials, of which none changes the closure. Assumes nothing.
use mathlib.Core.Path.{ap}
use native.Mathlib.Omega.{arith}
use Rattle.std.proofs.Common.{rules, of_calls}
use Rattle.rate_bands.specs.Inputs.{alloc_in}
use Rattle.rate_spec.specs.Trials.{over, sixtyfourths}
use Rattle.rate_spec.specs.Vectors.{interpolated}
use Rattle.rate_trial.proofs.Calls.{left-same}
use Rattle.rate_trial.proofs.Points.{point_ok, point_says}
use Rattle.rate_trial.proofs.search.sixtyfourths_of.Goals as goal

pub returns : goal.returns
unfolding sixtyfourths
returns c =
    let a = alloc_in c.args.f c.args.offsets.now c.args.caps.now in
    let p = c.requires in
    let e =
    c.halve.ensures.halved (λ q. over a (interpolated a c.args.v q)) 6 (omega arith)
    (λ f g x r l w s.
    let q = left-same l (λ g k y r w s. search of_calls) in
    let m = rw q at s in
    point_says c.args.f c.args.offsets.now c.args.caps.now p.0 p.1 c.args.v p.4 x (search (rules, of_calls))) in
    (ap (λ r. r.0) e, omega (arith, c.halve.ensures.within))

pub halve-requires-clause-tries : goal.halve-requires-clause-tries
halve-requires-clause-tries c f x l h =
    let p = c.requires in
    let e = left-same l (λ g k y r w s. search of_calls) in
    rw e (p.0, point_ok c.args.f c.args.offsets.now c.args.caps.now p.0 p.1 c.args.v p.4 x (omega (arith, h)), p.1.caps-le, p.2, p.3)
