-- `entdec::Reader::symbol`: the search from entry k on finds what the whole search finds, and hi and lo are the ends of entry k. Assumes nothing.
use Prim.Native.Nat.{◌+◌, ◌-◌, ◌*◌, ◌^◌, ◌≤◌, ◌<◌}
use mathlib.Core.Path.{◌≡◌}
use lib.ListN.{length, get_or, drop}
use Rattle.entcode.specs.Sym.{find_sym}
use Rattle.entdec.specs.Read.{decoded_place}
use Rattle.entdec.proofs.Tables.{edge}
use Rattle.entdec.proofs.Reader.symbol.Given as goal

abbrev pub invariant-loop-lo : goal.invariant-loop-lo
invariant-loop-lo l =
    (l.k < length l.t) × (l.lo ≡ l.q * get_or l.t l.k 0) × (l.v < l.hi) × (l.hi ≤ l.self.rng) × (l.hi ≡ edge l.self.rng l.q l.t l.k)
    × (l.k + find_sym (decoded_place (2 ^ l.ftb) l.self) (2 ^ l.ftb) (drop l.k l.t) ≡ find_sym (decoded_place (2 ^ l.ftb) l.self) (2 ^ l.ftb) l.t)

abbrev pub decreases-loop-lo : goal.decreases-loop-lo
decreases-loop-lo l = length l.t - l.k
