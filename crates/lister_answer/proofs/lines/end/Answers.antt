-- `lister_answer::lines::end`: what is written so far, and the line feed after it. Assumes nothing.
use Prim.Native.Nat.{◌*◌}
use mathlib.Core.Path.{◌≡◌, refl, ◌∙◌}
use mathlib.Core.List.{[], ◌∷◌}
use native.Mathlib.Omega.{arith}
use lib.IntN.{pos}
use lib.ListN.{length, get_or}
use mir.Syntax.{w32}
use mir.Val.{SFits}
use mir.Facts.{to_z-of_z}
use borrow.Author.Rules.{rules}
use Rattle.std.proofs.Math.Seq.{take-length}
use Rattle.text.specs.Fields.{tabbed}
use Rattle.text.specs.Written.{signed_of}
use Rattle.text.proofs.Tabbed.{texts, put-none, put_next}
use Rattle.text.proofs.Texts.{put-join}
use Rattle.lister_answer.proofs.lines.end.Goals as goal

pub loop-z-init : goal.loop-z-init
loop-z-init c = let a = c.args in (refl, put-none signed_of (pos 0) 12 a.fields.now a.buf.now a.at)

pub loop-z-preserved : goal.loop-z-preserved
loop-z-preserved c =
    let a = c.args in
    let l = c.loop-z in
    let s : SFits w32 (get_or a.fields.now l.z-index (pos 0)) = search rules in (
      c.signed_field-to.auto.buf ∙ l.invariant.0,
      put_next signed_of (pos 0) 12 a.fields.now a.buf.now a.at l.z-index (omega (arith, c.loop-z-test.true)) l.invariant.1
          (rw (to_z-of_z s) at c.signed_field-to.ensures),
    )

pub returns : goal.returns
unfolding tabbed
returns c =
    let a = c.args in
    let l = c.loop-z in
    let n : l.z-index ≡ length a.fields.now = omega (arith, c.loop-z-test.false, l.auto.z-index-end) in
    put-join (12 * length a.fields.now) 1 (texts signed_of (pos 0) 12 a.fields.now) (10 ∷ [])
    (rw (n, take-length a.fields.now) at l.invariant.1) c.feed.ensures
