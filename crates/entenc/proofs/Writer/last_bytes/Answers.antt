-- `entenc::Writer::last_bytes`: by how many bytes there are. Assumes nothing.
use mathlib.Core.Path.{refl, ap, ◌∙◌}
use Rattle.entenc.specs.Close.{ending_at}
use Rattle.entenc.specs.Write.{wr, shift_w}
use Rattle.entenc.proofs.Tails.{ending_renorm, by-none, by_one, by_two, second}
use Rattle.entenc.proofs.Writer.last_bytes.Goals as goal

pub shift-requires-else-k-eq1 : goal.shift-requires-else-k-eq1
shift-requires-else-k-eq1 c =
    let a = c.args in
    let w = ending_at a.end 1 (wr a.self a.buf.now) in
    let k = c.shift-w in
    second w (wr k.result k.new.buf) k.ensures (ending_renorm _ _ c.requires.0 c.requires.1) refl

pub returns-then-k-eq0 : goal.returns-then-k-eq0
returns-then-k-eq0 c =
    let a = c.args in
    let w = ending_at a.end 1 (wr a.self a.buf.now) in
    by-none a.k w c.if-k-eq0.true

pub returns-then-k-eq1 : goal.returns-then-k-eq1
returns-then-k-eq1 c =
    let a = c.args in
    let w = ending_at a.end 1 (wr a.self a.buf.now) in
    c.shift.ensures ∙ by_one a.k w c.if-k-eq1.true

pub returns-else-k-eq1 : goal.returns-else-k-eq1
returns-else-k-eq1 c =
    let a = c.args in
    let w = ending_at a.end 1 (wr a.self a.buf.now) in
    c.shift-else-k-eq1.ensures ∙ ap shift_w c.shift-w.ensures ∙ by_two a.k w c.if-k-eq0.false c.if-k-eq1.false c.requires.2
