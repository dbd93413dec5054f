-- `gurthapen_state::coder::reader_fits`: the first nine numbers, and the tenth. Assumes nothing.
use mathlib.Core.Path.{sym}
use native.Mathlib.Omega.{arith}
use lib.IntN.{pos}
use Rattle.gurthapen_state.specs.State.{is_count}
use Rattle.gurthapen_state.proofs.Firsts.{every-last}
use Rattle.gurthapen_state.proofs.coder.reader_fits.Goals as goal

pub returns : goal.returns
returns c =
    rw (c.nine_fit.ensures, c.fits_at.ensures) (sym (every-last is_count (pos 0) 9 c.args.state.now (omega (arith, c.requires))))
