-- `entdec::Reader::uniform`: more than eight digits: the upper eight and the raw others. Assumes nothing.
use mathlib.Core.Path.{sym, ◌∙◌}
use Prim.Native.Nat.{◌-◌, ◌≤◌, ◌<◌}
use native.Mathlib.Omega.{arith}
use Rattle.entcode.specs.Range.{ilog}
use Rattle.entdec.proofs.Uniform.{few, many, uint-flat, uint-long}
use Rattle.entdec.proofs.Reader.uniform.Goals as goal

pub flat-requires : goal.flat-requires
flat-requires c =
    let a = c.args in
    let p = c.requires in
    let e : ilog (a.ft - 1) ≤ 8 = rw c.ilog-b.ensures.0 at c.if-b-le8.true in record { ready = p.ready; le_ft = (p.le_ft, few a.ft p.le_ft (omega arith) e) }

pub long-requires : goal.long-requires
long-requires c =
    let a = c.args in
    let p = c.requires in
    let e : 8 < ilog (a.ft - 1) = rw c.ilog-b.ensures.0 at c.if-b-le8.false in
    let m = many (a.ft - 1) (omega arith) (omega arith) e in
    rw c.ilog-b.ensures.0 (record { ready = p.ready; b_bound = (m.bits-le, m.upper_pos, m.upper_lt) })

pub returns-then-b-le8 : goal.returns-then-b-le8
returns-then-b-le8 c =
    let a = c.args in
    let e : ilog (a.ft - 1) ≤ 8 = rw c.ilog-b.ensures.0 at c.if-b-le8.true in
    c.flat.ensures ∙ sym (uint-flat a.s.now a.self a.ft (omega arith))

pub returns-else-b-le8 : goal.returns-else-b-le8
returns-else-b-le8 c =
    let a = c.args in
    let i = c.ilog-b.ensures.0 in
    let e : 8 < ilog (a.ft - 1) = rw i at c.if-b-le8.false in
    rw (c.long.ensures, i) (sym (uint-long a.s.now a.self a.ft (λ z. omega arith)))
