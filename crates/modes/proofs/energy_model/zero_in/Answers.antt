-- `modes::energy_model::zero_in`: the lent table is the definition's list, and zero has a place in each pair. Assumes nothing.
use Prim.Native.Nat.{ℕ, ◌*◌}
use mathlib.Core.Path.{◌≡◌, ap}
use native.Mathlib.Omega.{arith}
use lib.ListN.{length}
use Rattle.modes.specs.EnergyModel.{zero_at}
use Rattle.modes.proofs.Entries.{lent, read_between}
use Rattle.modes.proofs.EnergyModelRule.{energy_model-length, pair_parts}
use Rattle.modes.proofs.energy_model.zero_in.Goals as goal

pub bounds-t-k : goal.bounds-t-k
bounds-t-k c = omega (arith, ap length c.requires.0, energy_model-length)

pub returns : goal.returns
unfolding zero_at
returns c =
    let k = c.args.k in
    let p = pair_parts k c.requires.1 in
    let e : c.wide.result * 128 ≡ zero_at k = ap (λ (x : ℕ). x * 128) (lent (2 * k) c.requires.0 c.wide.ensures.0) in
    read_between e p.some p.most
