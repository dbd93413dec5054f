-- `rate_trial::search::vector_of`: the search is the definition's, in at most 4 trials: each leaves what it looks at, and the list's length. Assumes nothing.
use mathlib.Core.Path.{ap, refl, ◌≡◌}
use native.Mathlib.Omega.{arith}
use lib.ListN.{length}
use Rattle.std.proofs.Common.{rules, of_calls}
use Rattle.rate_bands.specs.Inputs.{alloc_in}
use Rattle.rate_spec.specs.Trials.{over, vector}
use Rattle.rate_spec.specs.Vectors.{lower_bits}
use Rattle.rate_trial.proofs.Calls.{left-keeps}
use Rattle.rate_trial.proofs.search.vector_of.Goals as goal

pub returns : goal.returns
unfolding vector
returns c =
    let g = c.args in
    let a = alloc_in g.t.now.f g.offsets.now g.caps.now in
    let e =
    c.halve.ensures.halved (λ v. over a (lower_bits a v)) 4 (omega arith)
    (λ f k x r l w s.
    let q = left-keeps l (λ h. h.0.now ≡ g.t.now × h.1.now ≡ g.offsets.now × h.2.now ≡ g.caps.now × h.3.now ≡ g.shared
    × h.4.now ≡ g.steps.now × h.5.now ≡ g.thresholds.now × length h.6.now ≡ 21)
    (refl, refl, refl, refl, refl, refl, search) (λ h k y r p w s. search (rules, of_calls)) in
    let m : r ≡ over (alloc_in f.0.now.f f.1.now f.2.now) (lower_bits (alloc_in f.0.now.f f.1.now f.2.now) x) = search (rules, of_calls) in
    rw (q.0, q.1, q.2) at m) in
    (ap (λ r. r.0) e, ap (λ r. r.1) e, c.halve.ensures.within)

pub halve-requires-clause-tries : goal.halve-requires-clause-tries
halve-requires-clause-tries c f x l h =
    let g = c.args in
    let p = c.requires in
    let q = left-keeps l (λ h. h.0.now ≡ g.t.now × h.1.now ≡ g.offsets.now × h.2.now ≡ g.caps.now × h.3.now ≡ g.shared
    × h.4.now ≡ g.steps.now × h.5.now ≡ g.thresholds.now × length h.6.now ≡ 21)
    (refl, refl, refl, refl, refl, refl, search) (λ h k y r p w s. search (rules, of_calls)) in
    rw (q.0, q.1, q.2, q.3, q.4, q.5) (p.0, p.1, p.2, p.3, h, q.6)
