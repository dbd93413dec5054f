-- `modes::energy_model::decay_in`: the lent table is the definition's list, and a pair's decay is at most 1. Assumes nothing.
use Prim.Native.Nat.{ℕ, ◌+◌, ◌*◌}
use mathlib.Core.Path.{◌≡◌, ap}
use native.Mathlib.Omega.{arith}
use lib.ListN.{length}
use Rattle.modes.specs.EnergyModel.{decay_at}
use Rattle.modes.proofs.Entries.{lent, read}
use Rattle.modes.proofs.EnergyModelRule.{energy_model-length, pair_parts}
use Rattle.modes.proofs.energy_model.decay_in.Goals as goal

pub bounds-t-k : goal.bounds-t-k
bounds-t-k c = omega (arith, ap length c.requires.0, energy_model-length)

pub returns : goal.returns
unfolding decay_at
returns c =
    let k = c.args.k in
    let p = pair_parts k c.requires.1 in
    let e : c.wide.result * 64 ≡ decay_at k = ap (λ (x : ℕ). x * 64) (lent (2 * k + 1) c.requires.0 c.wide.ensures.0) in
    read e p.slow
