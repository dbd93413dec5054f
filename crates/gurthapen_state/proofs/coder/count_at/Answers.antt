-- `gurthapen_state::coder::count_at`: a number that fits is itself. Assumes nothing.
use mathlib.Core.Path.{◌≡◌, sym, ◌∙◌}
use mathlib.Core.Bool.{true, false, true≢false}
use lib.Dec.{lit<}
use lib.IntN.{ℤ}
use borrow.Author.Tests.{ne_eqb}
use mir.Syntax.{w64}
use mir.Val.{SFits}
use mir.Facts.{to_z-of_z}
use Rattle.gurthapen_state.specs.State.{is_count, count_of, entry}
use Rattle.gurthapen_state.proofs.Numbers.{counted}
use Rattle.gurthapen_state.proofs.coder.count_at.Given.{Over}
use Rattle.gurthapen_state.proofs.coder.count_at.Goals as goal
use Rattle.gurthapen_state.proofs.coder.count_at.Goals.{Then-is_count, Else-is_count, then-this-ne0, else-this-ne0}

-- a number that is taken as it is fits, by what is known or by the test
fit : (g : Over) (c : Then-is_count g) → is_count (entry c.args.state.now c.args.i) ≡ true
fit g c =
    let s : SFits w64 (entry c.args.state.now c.args.i) = record { sfits = c.x-1.given } in
    elim c.if-this-ne0.branch [
      | then-this-ne0 w ↦ c.requires.i_value (sym w.value-is ∙ c.if-is_count.true)
      | else-this-ne0 w ↦ sym (rw (to_z-of_z s) at w.is_count.ensures) ∙ sym w.value-is ∙ c.if-is_count.true
    ]

-- any other does not
unfit : (g : Over) (c : Else-is_count g) → is_count (entry c.args.state.now c.args.i) ≡ false
unfit g c =
    let s : SFits w64 (entry c.args.state.now c.args.i) = record { sfits = c.x-1.given } in
    elim c.if-this-ne0.branch [
      | then-this-ne0 w ↦ absurd (true≢false (sym (rw (ne_eqb _ _ w.if-this-ne0.true) at w.value-is) ∙ c.if-is_count.false))
      | else-this-ne0 w ↦ sym (rw (to_z-of_z s) at w.is_count.ensures) ∙ sym w.value-is ∙ c.if-is_count.false
    ]

pub returns-then-is_count : goal.returns-then-is_count
unfolding count_of
returns-then-is_count g c =
    let z : ℤ = entry c.args.state.now c.args.i in
    let s : SFits w64 z = record { sfits = c.x-1.given } in
    let e : is_count z ≡ true = fit g (goal.at.returns-then-is_count g c).Then-is_count in
    rw (to_z-of_z s, e) (counted 4294967295 z (lit< tt) e).is

pub returns-else-is_count : goal.returns-else-is_count
unfolding count_of
returns-else-is_count g c = rw (unfit g (goal.at.returns-else-is_count g c).Else-is_count)
