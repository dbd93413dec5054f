-- `cwrs::work::encode`: the vector's number is below the count, so it can be written as a uniform one. Assumes nothing.
use native.Mathlib.Omega.{arith}
use Rattle.entenc.specs.Write.{wr}
use Rattle.cwrs_counts.proofs.Recurrence.{V_four, count-is}
use Rattle.cwrs.proofs.Inverse.{index_below}
use Rattle.cwrs.proofs.Answers.{wrote}
use Rattle.cwrs.proofs.work.encode.Goals as goal

pub put_uint-requires : goal.put_uint-requires
put_uint-requires c =
    let a = c.args in
    let p = c.requires.le_n in
    let v = count-is a.n a.k c.pvq_v-v.ensures p.5 in (
      c.requires.ready,
      omega (arith, v, V_four a.n a.k p.0 p.3),
      omega (arith, v, c.icwrs-i.ensures, index_below a.n a.k a.y.now p.2 p.6),
    )

pub returns : goal.returns
returns c =
    let a = c.args in
    let v = c.pvq_v-v in
    let i = c.icwrs-i in
    wrote a.n a.k a.y.now (wr a.w a.buf.now) c.requires.le_n.5 v.ensures i.ensures c.put_uint.ensures
