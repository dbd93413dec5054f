-- `cwrs::work::decode`: the number that is read is below the count, so its vector has k pulses and a small energy. Assumes nothing.
use native.Mathlib.Omega.{arith}
use Rattle.cwrs_counts.proofs.Recurrence.{V_four, count-is}
use Rattle.cwrs.proofs.Back.{first-pulses-le}
use Rattle.cwrs.proofs.Answers.{places, found}
use Rattle.cwrs.proofs.work.decode.Goals as goal

pub uniform-i-requires : goal.uniform-i-requires
uniform-i-requires c =
    let a = c.args in
    let p = c.requires.le_n in record { ready = c.requires.ready; le_ft = omega (arith, count-is a.n a.k c.pvq_v-v.ensures p.5, V_four a.n a.k p.0 p.3) }

pub cwrsi-requires : goal.cwrsi-requires
cwrsi-requires c =
    let b = c.args in
    let p = c.requires.le_n in
    (p.2, p.1, p.4, count-is b.n b.k c.pvq_v-v.ensures p.5)

pub energy-requires : goal.energy-requires
energy-requires c =
    let b = c.args in
    let p = c.requires.le_n in
    let w = c.cwrsi in
    (omega (arith, w.auto.y, p.2), p.1, first-pulses-le b.n b.k _ 128 _ w.ensures p.4)

pub returns : goal.returns
returns c =
    let a = c.args in
    let p = c.requires.le_n in
    let v = c.pvq_v-v.ensures in
    let r = c.uniform-i.ensures in
    let w = c.cwrsi.ensures in (
      found a.n a.k a.s.now a.d a.y.now p.5 v r w c.energy.ensures.0,
      places a.n a.k a.s.now a.d a.y.now p.5 v r w,
    )
