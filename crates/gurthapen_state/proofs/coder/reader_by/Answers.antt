-- `gurthapen_state::coder::reader_by`: number by number, and a range where all fit. Assumes nothing.
use Prim.Native.Nat.{ℕ, ◌<◌}
use mathlib.Core.Path.{◌≡◌, ◌∙◌}
use mathlib.Core.Bool.{true}
use mathlib.Core.List.{List}
use native.Mathlib.Omega.{arith}
use borrow.Author.Tests.{ne_eqb}
use lib.Dec.{lit<}
use lib.IntN.{ℤ, pos}
use lib.ListN.{length}
use Rattle.gurthapen_state.specs.State.{is_count, entry, range_of, reader_fits, reader_of}
use Rattle.gurthapen_state.proofs.Firsts.{first-at}
use Rattle.gurthapen_state.proofs.coder.reader_by.Goals as goal
use Rattle.gurthapen_state.proofs.coder.reader_by.Goals.{then-this-ne0, else-this-ne0}

-- each count fits
fit : (l : List ℤ) (i : ℕ) → i < 10 → length l ≡ 12 → reader_fits l ≡ true → is_count (entry l i) ≡ true
fit l i h n e = first-at is_count (pos 0) 10 i l h (omega (arith, n)) e

pub count_at-requires-clause-i_value : goal.count_at-requires-clause-i_value
count_at-requires-clause-i_value g c e = fit c.args.state.now 0 (lit< tt) c.requires.state_len (c.requires.state_value ∙ e)

pub count_at-requires-2-clause-i_value : goal.count_at-requires-2-clause-i_value
count_at-requires-2-clause-i_value g c e = fit c.args.state.now 5 (lit< tt) c.requires.state_len (c.requires.state_value ∙ e)

pub count_at-requires-3-clause-i_value : goal.count_at-requires-3-clause-i_value
count_at-requires-3-clause-i_value g c e = fit c.args.state.now 1 (lit< tt) c.requires.state_len (c.requires.state_value ∙ e)

pub count_at-requires-4-clause-i_value : goal.count_at-requires-4-clause-i_value
count_at-requires-4-clause-i_value g c e = fit c.args.state.now 2 (lit< tt) c.requires.state_len (c.requires.state_value ∙ e)

pub count_at-requires-5-clause-i_value : goal.count_at-requires-5-clause-i_value
count_at-requires-5-clause-i_value g c e = fit c.args.state.now 3 (lit< tt) c.requires.state_len (c.requires.state_value ∙ e)

pub count_at-requires-6-clause-i_value : goal.count_at-requires-6-clause-i_value
count_at-requires-6-clause-i_value g c e = fit c.args.state.now 4 (lit< tt) c.requires.state_len (c.requires.state_value ∙ e)

pub count_at-requires-then-this-ne0-clause-i_value : goal.count_at-requires-then-this-ne0-clause-i_value
count_at-requires-then-this-ne0-clause-i_value g c e = fit c.args.state.now 6 (lit< tt) c.requires.state_len (c.requires.state_value ∙ e)

pub count_at-requires-7-clause-i_value : goal.count_at-requires-7-clause-i_value
count_at-requires-7-clause-i_value g c e = fit c.args.state.now 7 (lit< tt) c.requires.state_len (c.requires.state_value ∙ e)

pub count_at-requires-8-clause-i_value : goal.count_at-requires-8-clause-i_value
count_at-requires-8-clause-i_value g c e = fit c.args.state.now 8 (lit< tt) c.requires.state_len (c.requires.state_value ∙ e)

pub count_at-requires-9-clause-i_value : goal.count_at-requires-9-clause-i_value
count_at-requires-9-clause-i_value g c e = fit c.args.state.now 9 (lit< tt) c.requires.state_len (c.requires.state_value ∙ e)

pub returns : goal.returns
unfolding reader_of range_of
returns g c =
    elim c.if-this-ne0.branch [
      | then-this-ne0 w ↦ rw (
        c.count_at.ensures,
        c.count_at-2.ensures,
        c.count_at-3.ensures,
        c.count_at-4.ensures,
        c.count_at-5.ensures,
        c.count_at-6.ensures,
        c.count_at-7.ensures,
        c.count_at-8.ensures,
        c.count_at-9.ensures,
        c.mark_at.ensures,
        w.result-is,
        w.count_at-then-this-ne0.ensures,
        c.requires.state_value,
        ne_eqb _ _ w.if-this-ne0.true,
      )
      | else-this-ne0 w ↦ rw (
        c.count_at.ensures,
        c.count_at-2.ensures,
        c.count_at-3.ensures,
        c.count_at-4.ensures,
        c.count_at-5.ensures,
        c.count_at-6.ensures,
        c.count_at-7.ensures,
        c.count_at-8.ensures,
        c.count_at-9.ensures,
        c.mark_at.ensures,
        w.result-is,
        c.requires.state_value,
        w.if-this-ne0.false,
      )
    ]
