-- `gurthapen_state::coder::held_at`: a byte is itself. Assumes nothing.
use mathlib.Core.Path.{◌≡◌}
use mathlib.Core.Bool.{true, false}
use lib.Dec.{lit<}
use lib.IntN.{ℤ, pos}
use mir.Syntax.{w64}
use mir.Val.{SFits}
use mir.Facts.{to_z-of_z}
use Rattle.laws.specs.Signs.{in_range}
use Rattle.gurthapen_state.specs.State.{held_of, entry}
use Rattle.gurthapen_state.proofs.Numbers.{Counted, counted}
use Rattle.gurthapen_state.proofs.coder.held_at.Goals as goal
use Rattle.gurthapen_state.proofs.coder.held_at.Goals.{After-x-1, Then-x}

-- the number
abbrev it : After-x-1 → ℤ
it c = entry c.args.state.now 9

fits : (c : After-x-1) → SFits w64 (it c)
fits c = record { sfits = c.x-1.given }

-- the test's answer
inside : (c : Then-x) → in_range (pos 0) (pos 255) (it (goal.at.Then-x c).After-x-1) ≡ true
inside c = rw (to_z-of_z (fits (goal.at.Then-x c).After-x-1)) at c.if-x.true

is : (c : Then-x) → Counted (it (goal.at.Then-x c).After-x-1)
is c = counted 255 (it (goal.at.Then-x c).After-x-1) (lit< tt) (inside c)

pub returns-then-x : goal.returns-then-x
unfolding held_of
returns-then-x c = rw (to_z-of_z (fits (goal.at.returns-then-x c).After-x-1), inside (goal.at.returns-then-x c).Then-x)
    (is (goal.at.returns-then-x c).Then-x).is

pub returns-else-x : goal.returns-else-x
unfolding held_of
returns-else-x c =
    let e : in_range (pos 0) (pos 255) (it (goal.at.returns-else-x c).After-x-1)
    ≡ false = rw (to_z-of_z (fits (goal.at.returns-else-x c).After-x-1)) at c.if-x.false in
    rw e
