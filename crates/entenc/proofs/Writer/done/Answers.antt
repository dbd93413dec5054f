-- `entenc::Writer::done`: the last bytes do not depend on the range that they are shifted with, so that the code may take 1. Assumes nothing.
use native.Mathlib.Omega.{arith}
use Rattle.entenc_sink.specs.Out.{out}
use Rattle.entenc.specs.Write.{wr}
use Rattle.entenc_sink.proofs.Outs.{emit-fit, flushed-fit}
use Rattle.entenc.proofs.Tails.{tail_bits_lem, tail_end_lem, close-fit, close-is}
use Rattle.entenc.proofs.Writer.done.Goals as goal

pub overflow_add-k : goal.overflow_add-k
overflow_add-k c =
    let a = c.args in
    let p = c.requires.sound in
    let t = tail_bits_lem a.self.val a.self.rng p.range_gt p.end_lt in
    let b = c.last_of-t.ensures.0 in
    omega arith

pub last_bytes-w-requires : goal.last_bytes-w-requires
last_bytes-w-requires c =
    let a = c.args in
    let p = c.requires.sound in
    let t = tail_bits_lem a.self.val a.self.rng p.range_gt p.end_lt in
    let b = c.last_of-t.ensures.0 in
    (c.requires, rw c.last_of-t.ensures.1 (tail_end_lem a.self.val a.self.rng p.range_gt p.end_lt), omega arith)

pub carry-s2-requires : goal.carry-s2-requires
carry-s2-requires c =
    let a = c.args in
    let p = c.requires.sound in
    let k = c.last_bytes-w in
    let f = close-fit (wr a.self a.buf.now) (wr k.result k.new.buf) _ _ c.requires k.ensures in
    (f.0, f.1, omega arith)

pub flush-f-requires : goal.flush-f-requires
flush-f-requires c =
    let a = c.args in
    let p = c.requires.sound in
    let k = c.last_bytes-w in
    let f = close-fit (wr a.self a.buf.now) (wr k.result k.new.buf) _ _ c.requires k.ensures in
    rw c.carry-s2.ensures (emit-fit _ _ f.0)

pub overflow_mul-k : goal.overflow_mul-k
overflow_mul-k c =
    let a = c.args in
    let p = c.requires.sound in
    let t = tail_bits_lem a.self.val a.self.rng p.range_gt p.end_lt in
    let b = c.last_of-t.ensures.0 in
    omega arith

pub finish-s4-requires : goal.finish-s4-requires
finish-s4-requires c =
    let a = c.args in
    let p = c.requires.sound in
    let k = c.last_bytes-w in
    let f = close-fit (wr a.self a.buf.now) (wr k.result k.new.buf) _ _ c.requires k.ensures in
    (rw c.flush-f.ensures.0 (flushed-fit _ _ _ (rw c.carry-s2.ensures (emit-fit _ _ f.0))), omega arith)

pub returns : goal.returns
returns c =
    let a = c.args in
    let l = c.last_of-t in
    let k = c.last_bytes-w in
    let y = c.carry-s2 in
    let f = c.flush-f in
    let z = c.finish-s4 in
    close-is (wr a.self a.buf.now) (wr k.result k.new.buf) l.result.bits l.result.end (out y.result y.new.buf)
    (out f.result.sink f.new.buf) (out z.result z.new.buf) _ _ _
    l.ensures.0 l.ensures.1 k.ensures y.ensures c.rest_rem.ensures f.ensures.0 f.ensures.1 f.ensures.2 z.ensures
