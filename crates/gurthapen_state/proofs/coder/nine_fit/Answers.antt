-- `gurthapen_state::coder::nine_fit`: place by place. Assumes nothing.
use mathlib.Core.Path.{sym}
use native.Mathlib.Omega.{arith}
use lib.IntN.{pos}
use Rattle.gurthapen_state.specs.State.{is_count}
use Rattle.gurthapen_state.proofs.Firsts.{firsts, every_first}
use Rattle.gurthapen_state.proofs.coder.nine_fit.Goals as goal

pub returns : goal.returns
unfolding firsts
returns c =
    rw (
      c.fits_at.ensures,
      c.fits_at-2.ensures,
      c.fits_at-3.ensures,
      c.fits_at-4.ensures,
      c.fits_at-5.ensures,
      c.fits_at-6.ensures,
      c.fits_at-7.ensures,
      c.fits_at-8.ensures,
      c.fits_at-9.ensures,
    ) (sym (every_first is_count (pos 0) 8 c.args.state.now (omega (arith, c.requires))))
