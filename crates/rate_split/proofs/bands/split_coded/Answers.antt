-- `rate_split::bands::split_coded`: the loop has filled the lists up to j, and the balance is what reaches band j. Assumes nothing.
use Prim.Native.Nat.{◌<◌}
use mathlib.Core.Path.{◌≡◌, refl, ap, ◌∙◌}
use native.Mathlib.Omega.{arith}
use lib.IntN.{pos}
use Rattle.laws.proofs.Lists.{fill_none, fill-up}
use Rattle.rate_spec.specs.Types.{Band}
use Rattle.rate_split.specs.declared.Share.{Share}
use Rattle.rate_split.proofs.CodedBands.{CodedPart, above-first, carried_none, coded-part, within}
use Rattle.rate_split.proofs.Fills.{lent_next}
use Rattle.rate_split.proofs.bands.split_coded.Goals as goal
use Rattle.rate_split.proofs.bands.split_coded.Goals.{After-part_of-p}

-- what part_of gives for the loop's band is that band's part
part_at : (c : After-part_of-p) →
    let a = c.args in
    CodedPart a.f a.caps.now a.bits.now a.coded a.left a.intensity a.dual c.loop-j.j c.part_of-p.result
part_at c =
    let a = c.args in
    let v = c.loop-j.invariant in
    coded-part a.f a.caps.now a.bits.now a.coded a.left a.intensity a.dual c.requires c.loop-j.j c.loop-j.auto.j (omega arith)
    c.share_of-g.ensures v.0 c.edge_of-hi.ensures.0 v.1 c.part_of-p.ensures.0

pub loop-j-init : goal.loop-j-init
loop-j-init c =
    let a = c.args in (
      ap (λ (g : Share). g.first) c.share_of-g.ensures,
      carried_none a.f a.caps.now a.bits.now a.coded a.left a.intensity a.dual,
      fill_none _ a.f.start a.lists.now.pulses.now,
      fill_none _ a.f.start a.lists.now.fine.now,
      fill_none _ a.f.start a.lists.now.priorities.now,
      record { pulses_are = refl; fine_are = refl; priorities_are = refl },
    )

pub part_of-p-requires : goal.part_of-p-requires
part_of-p-requires c =
    let a = c.args in
    let o = c.requires in
    let v = c.loop-j.invariant in
    let h = c.edge_of-hi.ensures.0 in
    let k : c.loop-j.j < a.coded = omega arith in (
      o.frame,
      omega (arith, o.frame),
      v.0,
      h,
      above-first a.f a.caps.now a.bits.now a.coded a.left a.intensity a.dual o c.loop-j.j c.loop-j.auto.j k c.share_of-g.ensures
          v.0 h v.1,
      within a.f a.caps.now a.bits.now a.coded a.left a.intensity a.dual o c.loop-j.j c.loop-j.auto.j k c.share_of-g.ensures v.0 h
          v.1,
    )

pub store-requires : goal.store-requires
store-requires c =
    let t = part_at (goal.at.store-requires c).After-part_of-p in
    (omega (arith, t.pulses-le), omega (arith, t.fine_le), omega (arith, c.part_of-p.ensures.1), omega (arith, c.requires.frame))

pub loop-j-preserved : goal.loop-j-preserved
loop-j-preserved c =
    let t = part_at (goal.at.loop-j-preserved c).After-part_of-p in
    let a = c.args in
    let v = c.loop-j.invariant in
    let s = c.store.ensures.stored in (
      c.edge_of-hi.ensures.0,
      t.next,
      s.0 ∙ fill-up _ a.f.start c.loop-j.j a.lists.now.pulses.now c.loop-j.auto.j v.2 (ap (λ (b : Band). pos b.pulses) t.part-is),
      s.1 ∙ fill-up _ a.f.start c.loop-j.j a.lists.now.fine.now c.loop-j.auto.j v.3 (ap (λ (b : Band). pos b.fine) t.part-is),
      s.2 ∙ fill-up _ a.f.start c.loop-j.j a.lists.now.priorities.now c.loop-j.auto.j v.4 (ap (λ (b : Band). pos b.prio) t.part-is),
      lent_next v.5 c.store.ensures.same,
    )

-- found without it too: it stands so that a wrong edit fails by this fact, and not by a limit of the search
pub returns-clause-filled : goal.returns-clause-filled
returns-clause-filled c =
    let v = c.loop-j.invariant in
    let e : c.loop-j.j ≡ c.args.coded = omega arith in
    (rw e at v.1, rw e at v.2, rw e at v.3, rw e at v.4)
