-- `trip_call::given::given_ok`: a table's kind is 1. The check finds the answer alone, but the edit table_past_its_end_is_taken would then fall only by a limit
-- of the search. Assumes nothing.
use Prim.Native.Nat.{◌*◌}
use mathlib.Core.Path.{◌≡◌, refl}
use lib.ListN.{get_or}
use Rattle.std.proofs.Common.{rules}
use Rattle.trip_call.proofs.given.given_ok.Goals as goal

pub returns-in-Ok-Table : goal.returns-in-Ok-Table
returns-in-Ok-Table c =
    let e : get_or c.args.symbols.now (5 * c.args.i) 0 ≡ 1 = search rules in
    rw e refl
