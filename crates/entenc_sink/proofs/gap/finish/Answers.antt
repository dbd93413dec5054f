-- `entenc_sink::gap::finish`: by the cases of the last byte. Assumes nothing.
use mathlib.Core.Path.{sym, ◌∙◌}
use Rattle.entenc_sink.specs.Out.{out}
use Rattle.entenc_sink.proofs.Gaps.{fin-error, fin-none, fin_full, fin_bust, fin-join}
use Rattle.entenc_sink.proofs.gap.finish.Goals as goal

pub returns-then-s : goal.returns-then-s
returns-then-s c =
    let a = c.args in
    fin-error a.window a.used a.spare (out a.s a.buf.now) c.if-s.true

pub returns-then-used-eq0 : goal.returns-then-used-eq0
returns-then-used-eq0 c =
    let a = c.args in
    fin-none a.window a.used a.spare (out a.s a.buf.now) _ c.if-s.false c.if-used-eq0.true c.clear.ensures

pub returns-then-s-2 : goal.returns-then-s-2
returns-then-s-2 c =
    let a = c.args in
    fin_full a.window a.used a.spare (out a.s a.buf.now) _ c.if-s.false c.if-used-eq0.false c.if-s-2.true
    c.clear.ensures

pub returns-then-is_bust : goal.returns-then-is_bust
returns-then-is_bust c =
    let a = c.args in
    fin_bust a.window a.used a.spare (out a.s a.buf.now) _ c.if-s.false c.if-used-eq0.false c.if-s-2.false
    (sym c.is_bust.ensures ∙ c.if-is_bust.true) c.clear.ensures c.pow2.ensures
    c.join_at.ensures

pub returns-else-is_bust : goal.returns-else-is_bust
returns-else-is_bust c =
    let a = c.args in
    fin-join a.window a.used a.spare (out a.s a.buf.now) _ c.if-s.false c.if-used-eq0.false c.if-s-2.false
    (sym c.is_bust.ensures ∙ c.if-is_bust.false) c.clear.ensures c.join_at-else-is_bust.ensures
