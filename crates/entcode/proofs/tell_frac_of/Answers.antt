-- `entcode::tell_frac_of`: the top sixteen digits are where the eighths are looked up. Assumes nothing.
use native.Mathlib.Omega.{arith}
use Rattle.entcode.proofs.Logs.{digits_from, tops}
use Rattle.entcode.proofs.tell_frac_of.Goals as goal

pub overflow_sub-l : goal.overflow_sub-l
overflow_sub-l c = omega (arith, c.ilog-l.ensures.0, digits_from 15 c.args.rng (omega arith) (omega arith))

pub eighths_of-e-requires : goal.eighths_of-e-requires
eighths_of-e-requires c =
    let t = tops c.args.rng (omega arith) (omega arith) in
    rw c.ilog-l.ensures.0 (t.from, t.to)
