-- A record that grows by what was moved. Assumes nothing.
use Rattle.std.proofs.Common.{◌≡◌, ℕ, ◌+◌, ◌%◌, List, get_or, sym, ap, ◌∙◌, arith}
use Rattle.tool_io.specs.Moved.{UsedOnce}

-- ---- the count of calls

-- a count that was raised is another, also where it goes round
pub used_once : UsedOnce
used_once k k' calls h c e =
    let same : k' ≡ k = ap (λ (l : List ℕ). get_or l 0 0) (sym c.lent ∙ e) in
    let more : k' ≡ (k + 1) % 18446744073709551616 = c.more in
    omega (arith, same, more)
