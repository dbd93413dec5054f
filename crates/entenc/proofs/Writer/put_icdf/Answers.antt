-- `entenc::Writer::put_icdf`: by whether the symbol is the first. Assumes nothing.
use mathlib.Core.Path.{◌∙◌}
use native.Mathlib.Omega.{arith}
use Rattle.entenc.specs.Write.{wr}
use Rattle.entenc.proofs.Forms.{takes_first, takes-next, put_first, put_next}
use Rattle.entenc.proofs.Writer.put_icdf.Goals as goal

pub overflow_mul-q : goal.overflow_mul-q
overflow_mul-q c =
    let a = c.args in
    let p = c.requires in
    let t = takes_first a.self.rng a.ftb a.t.now a.s _ p.2 p.1 c.wide-x.ensures.0 p.3 p.0.sound.range_gt in
    omega arith

pub overflow_sub-self : goal.overflow_sub-self
overflow_sub-self c =
    let a = c.args in
    let p = c.requires in
    let t = takes_first a.self.rng a.ftb a.t.now a.s _ p.2 p.1 c.wide-x.ensures.0 p.3
    p.0.sound.range_gt in
    omega arith

pub narrow-requires : goal.narrow-requires
narrow-requires c =
    let a = c.args in
    let p = c.requires in
    let t = takes_first a.self.rng a.ftb a.t.now a.s _ p.2 p.1 c.wide-x.ensures.0 p.3
    p.0.sound.range_gt in
    (p.0, omega arith, omega arith)

pub overflow_mul-q-else-s-eq0 : goal.overflow_mul-q-else-s-eq0
overflow_mul-q-else-s-eq0 c =
    let a = c.args in
    let p = c.requires in
    let t = takes-next a.self.rng a.ftb a.t.now a.s _ p.2 p.1 c.wide-x.ensures.0 p.3 p.0.sound.range_gt _
    c.if-s-eq0.false c.wide-y.ensures.0 in
    omega arith

pub overflow_sub-self-else-s-eq0 : goal.overflow_sub-self-else-s-eq0
overflow_sub-self-else-s-eq0 c =
    let a = c.args in
    let p = c.requires in
    let t = takes-next a.self.rng a.ftb a.t.now a.s _ p.2 p.1 c.wide-x.ensures.0 p.3 p.0.sound.range_gt _
    c.if-s-eq0.false
    c.wide-y.ensures.0 in
    t.upper-le

pub overflow_sub-y : goal.overflow_sub-y
overflow_sub-y c =
    let a = c.args in
    let p = c.requires in
    let t = takes-next a.self.rng a.ftb a.t.now a.s _ p.2 p.1 c.wide-x.ensures.0 p.3 p.0.sound.range_gt _
    c.if-s-eq0.false
    c.wide-y.ensures.0 in
    omega arith

pub overflow_mul-q-else-s-eq0-2 : goal.overflow_mul-q-else-s-eq0-2
overflow_mul-q-else-s-eq0-2 c =
    let a = c.args in
    let p = c.requires in
    let t = takes-next a.self.rng a.ftb a.t.now a.s _ p.2 p.1 c.wide-x.ensures.0 p.3 p.0.sound.range_gt _
    c.if-s-eq0.false
    c.wide-y.ensures.0 in
    omega arith

pub narrow-requires-else-s-eq0 : goal.narrow-requires-else-s-eq0
narrow-requires-else-s-eq0 c =
    let a = c.args in
    let p = c.requires in
    let t = takes-next a.self.rng a.ftb a.t.now a.s _ p.2 p.1 c.wide-x.ensures.0 p.3 p.0.sound.range_gt _
    c.if-s-eq0.false
    c.wide-y.ensures.0 in
    (p.0, t.width-pos, omega arith)

pub returns-then-s-eq0 : goal.returns-then-s-eq0
returns-then-s-eq0 c =
    let a = c.args in
    let p = c.requires in
    c.narrow.ensures ∙ put_first a.ftb a.t.now p.2 (wr a.self a.buf.now) a.s _ p.1 c.if-s-eq0.true
    c.wide-x.ensures.0

pub returns-else-s-eq0 : goal.returns-else-s-eq0
returns-else-s-eq0 c =
    let a = c.args in
    let p = c.requires in
    c.narrow-else-s-eq0.ensures ∙ put_next a.ftb a.t.now p.2 (wr a.self a.buf.now) a.s _ _ p.1 c.if-s-eq0.false
    c.wide-x.ensures.0 c.wide-y.ensures.0
