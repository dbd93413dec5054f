-- `quant_bands::work::finalise`: the passes done so far. Assumes nothing.
use Prim.Native.Nat.{ℕ, ◌-◌}
use mathlib.Core.Path.{◌≡◌, ap, ◌∙◌}
use native.Mathlib.Omega.{arith}
use Rattle.laws.specs.Places.{over_places}
use Rattle.laws.proofs.Places.{places-none, places-up}
use Rattle.quant_bands.specs.Finalise.{spending}
use Rattle.quant_bands.specs.Question.{count_at}
use Rattle.quant_bands.proofs.Ranged.{pass_of, passes_ready}
use Rattle.quant_bands.proofs.Accepts.{finalise-is}
use Rattle.quant_bands.proofs.work.finalise.Goals as goal

pub loop-pass-init : goal.loop-pass-init
loop-pass-init c =
    let a = c.args in
    (places-none (pass_of a.b.c (count_at a.fine.now) (count_at a.priorities.now) a.b.start a.b.end a.s.now) 0 _)

pub spend_pass-y-requires : goal.spend_pass-y-requires
spend_pass-y-requires c =
    let l = c.loop-pass in
    let a = c.args in
    let q = c.requires.lent in record {
      lent = (l.auto.energies ∙ q.0, q.1, q.2);
      ready = passes_ready a.b.c (count_at a.fine.now) (count_at a.priorities.now) a.b.start a.b.end a.s.now l.pass
          (spending a.energies.now a.left a.d)
          a.b.within.end-le (omega arith) c.requires.ready l.invariant;
    }

pub loop-pass-preserved : goal.loop-pass-preserved
loop-pass-preserved c =
    let r = c.spend_pass-y in
    let l = c.loop-pass in
    let a = c.args in
    places-up (pass_of a.b.c (count_at a.fine.now) (count_at a.priorities.now) a.b.start a.b.end a.s.now) 0 l.pass _ (omega arith)
    l.invariant
    r.ensures

pub returns : goal.returns
returns c =
    let l = c.loop-pass in
    let a = c.args in
    let e : l.pass - 0 ≡ 2 = omega arith in
    finalise-is a.b.c (count_at a.fine.now) (count_at a.priorities.now) a.b.start a.b.end a.left a.s.now a.d a.energies.now
    (l.invariant
    ∙ ap (λ (n : ℕ). over_places (pass_of a.b.c (count_at a.fine.now) (count_at a.priorities.now) a.b.start a.b.end a.s.now) 0 n
    (spending a.energies.now a.left a.d)) e)
