-- `entenc::Writer::put_uint`: in one piece or in two. Assumes nothing.
use mathlib.Core.Path.{◌≡◌, ◌∙◌}
use native.Mathlib.Omega.{arith}
use Rattle.entcode.proofs.Pieces.{uint-few}
use Rattle.entcode.specs.Sym.{low_bits}
use Rattle.entenc.specs.Write.{wr}
use Rattle.entenc.proofs.Chain.{ready_cut}
use Rattle.entenc.proofs.Forms.{halves, uint_one, uint-two}
use Rattle.entenc.proofs.Writer.put_uint.Goals as goal

pub encode-requires : goal.encode-requires
encode-requires c =
    let a = c.args in
    let p = c.requires in
    let z : low_bits a.ft ≡ 0 = omega (arith, c.if-n-le8.true, c.ilog-n.ensures.0) in
    let f = uint-few a.ft c.ranges.ft.fits z in
    (p.0, omega arith, omega arith, omega arith)

pub encode-w-requires : goal.encode-w-requires
encode-w-requires c =
    let a = c.args in
    let h = halves a.ft a.fl _ _ c.ilog-n.ensures.0 c.if-n-le8.false c.pow2-u.ensures
    c.ranges.ft.fits c.requires.2 in
    (c.requires.0, h.cut_ok.lt, h.cut_ok.le, h.cut_ok.ft-le)

pub put_bits-requires : goal.put_bits-requires
put_bits-requires c =
    let a = c.args in
    let h = halves a.ft a.fl _ _ c.ilog-n.ensures.0 c.if-n-le8.false c.pow2-u.ensures c.ranges.ft.fits c.requires.2 in
    let k = c.encode-w in
    let r = ready_cut _ _ _ (wr a.self a.buf.now) (wr k.result k.new.buf) h.cut_ok c.requires.0 k.ensures in
    (r, h.raw-ok.bits_pos, h.raw-ok.bits-le, h.raw-ok.value-lt)

pub returns-then-n-le8 : goal.returns-then-n-le8
returns-then-n-le8 c =
    let a = c.args in
    let p = c.requires in
    let z : low_bits a.ft ≡ 0 = omega (arith, c.if-n-le8.true, c.ilog-n.ensures.0) in
    c.encode.ensures ∙ uint_one a.ft a.fl (wr a.self a.buf.now) z

pub returns-else-n-le8 : goal.returns-else-n-le8
returns-else-n-le8 c =
    let a = c.args in
    let h = halves a.ft a.fl _ _ c.ilog-n.ensures.0 c.if-n-le8.false c.pow2-u.ensures c.ranges.ft.fits c.requires.2 in
    let k = c.encode-w in
    c.put_bits.ensures ∙ uint-two a.ft a.fl _ _ (wr a.self a.buf.now) (wr k.result k.new.buf) h
    c.pow2-u.ensures k.ensures
