-- `rate_split::bands::split_skipped`: the loop has filled the lists up to j. Assumes nothing.
use mathlib.Core.Path.{refl, ap, ◌∙◌}
use lib.IntN.{pos}
use Rattle.laws.proofs.Lists.{fill_none, fill-up}
use Rattle.rate_spec.specs.Types.{Band}
use Rattle.rate_split.proofs.Fills.{lent_next}
use Rattle.rate_split.proofs.bands.split_skipped.Goals as goal

pub loop-j-init : goal.loop-j-init
loop-j-init c =
    let a = c.args in (
      fill_none _ a.coded a.lists.now.pulses.now,
      fill_none _ a.coded a.lists.now.fine.now,
      fill_none _ a.coded a.lists.now.priorities.now,
      record { pulses_are = refl; fine_are = refl; priorities_are = refl },
    )

pub loop-j-preserved : goal.loop-j-preserved
loop-j-preserved c =
    let e = c.skipped_of-p.ensures in
    let a = c.args in
    let v = c.loop-j.invariant in
    let s = c.store.ensures.stored in (
      s.0 ∙ fill-up _ a.coded c.loop-j.j a.lists.now.pulses.now c.loop-j.auto.j v.0 (ap (λ (b : Band). pos b.pulses) e.0),
      s.1 ∙ fill-up _ a.coded c.loop-j.j a.lists.now.fine.now c.loop-j.auto.j v.1 (ap (λ (b : Band). pos b.fine) e.0),
      s.2 ∙ fill-up _ a.coded c.loop-j.j a.lists.now.priorities.now c.loop-j.auto.j v.2 (ap (λ (b : Band). pos b.prio) e.0),
      lent_next v.3 c.store.ensures.same,
    )
