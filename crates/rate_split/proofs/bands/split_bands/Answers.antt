-- `rate_split::bands::split_bands`: the coded bands, then the skipped ones. Assumes nothing.
use mathlib.Core.Path.{ap}
use native.Mathlib.Omega.{arith}
use lib.IntN.{pos}
use Rattle.rate_spec.specs.Types.{Band}
use Rattle.rate_split.proofs.Fills.{coded-is, fill_parts, lent_next, skipped-is}
use Rattle.rate_split.proofs.bands.split_bands.Goals as goal

pub returns-clause-filled : goal.returns-clause-filled
returns-clause-filled c =
    let a = c.args in
    let o = c.requires in
    let e = c.split_coded-balance.ensures.filled in
    let s = c.split_skipped.ensures.filled in (
      e.0,
      fill_parts _ _ _ a.f.start a.coded a.f.end a.lists.now.pulses.now (omega arith) (omega arith)
          (λ i p. ap (λ (b : Band). pos b.pulses) (coded-is a.f a.caps.now a.bits.now a.coded a.left a.intensity a.dual a.kept.now
          i p))
          (λ i p q. ap (λ (b : Band). pos b.pulses) (skipped-is a.f a.caps.now a.bits.now a.coded a.left a.intensity a.dual
          a.kept.now i p q))
          e.1 s.0,
      fill_parts _ _ _ a.f.start a.coded a.f.end a.lists.now.fine.now (omega arith) (omega arith)
          (λ i p. ap (λ (b : Band). pos b.fine) (coded-is a.f a.caps.now a.bits.now a.coded a.left a.intensity a.dual a.kept.now i
          p))
          (λ i p q. ap (λ (b : Band). pos b.fine) (skipped-is a.f a.caps.now a.bits.now a.coded a.left a.intensity a.dual
          a.kept.now i p q))
          e.2 s.1,
      fill_parts _ _ _ a.f.start a.coded a.f.end a.lists.now.priorities.now (omega arith) (omega arith)
          (λ i p. ap (λ (b : Band). pos b.prio) (coded-is a.f a.caps.now a.bits.now a.coded a.left a.intensity a.dual a.kept.now i
          p))
          (λ i p q. ap (λ (b : Band). pos b.prio) (skipped-is a.f a.caps.now a.bits.now a.coded a.left a.intensity a.dual
          a.kept.now i p q))
          e.3 s.2,
    )

pub returns-clause-same : goal.returns-clause-same
returns-clause-same c = lent_next c.split_coded-balance.ensures.same c.split_skipped.ensures.same
