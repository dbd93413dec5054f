-- `replay_io::push_hex`: the invariant: the text has the first bytes in hex after it, as far as there is room.
use Rattle.std.proofs.Common.{length, take, refl, ap, ◌∙◌, arith}
use Rattle.text.specs.Digits.{glyph_of}
use Rattle.replay_io.proofs.Texts.{hex-none, hex-more}
use Rattle.replay_io.proofs.push_hex.Goals as goal

pub loop-b-init : goal.loop-b-init
loop-b-init c =
    let a = c.args in
    (refl, hex-none a.out.now a.n a.s.now)

pub loop-b-preserved : goal.loop-b-preserved
loop-b-preserved c =
    let a = c.args in
    let l = c.loop-b in
    let p = c.push-k in
    let q = c.push-k-in-loop-b in
    let e = p.auto.out ∙ l.invariant.0 in (
      q.auto.out ∙ e,
      hex-more (length a.out.now) (take a.n a.out.now) a.s.now l.b-index (omega arith) l.invariant.0 e l.invariant.1
          (c.glyph.ensures ∙ ap glyph_of c.from.ensures)
          (c.glyph-in-loop-b.ensures ∙ ap glyph_of c.from-in-loop-b.ensures)
          p.ensures
          q.ensures,
    )
