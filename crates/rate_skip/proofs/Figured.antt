-- A round's figures, put together from the steps. Assumes nothing.
use Prim.Native.Nat.{ℕ, suc, ◌+◌, ◌-◌, ◌*◌, ◌/◌, ◌%◌, max}
use mathlib.Core.Bool.{Bool, true, false, cond}
use mathlib.Core.List.{List, []}
use mathlib.Core.Path.{◌≡◌}
use native.Mathlib.Omega.{arith}
use lib.Dec.{leb, ltb, eqb}
use lib.ListN.{get_or}
use Rattle.modes.specs.Edges.{edge, width}
use Rattle.modes.specs.Fractions.{fraction}
use Rattle.rate_spec.specs.Reserves.{alloc_floor}
use Rattle.rate_spec.specs.Skips as skips
use Rattle.rate_spec.specs.Trials.{floored}
use Rattle.rate_spec.specs.Vectors.{threshold}
use Rattle.rate_bands.specs.Inputs.{bare}
use Rattle.rate_bands.specs.declared.AllocCounts.{AllocCounts}
use Rattle.rate_skip.specs.Rounds.{RoundIn, round_of, round_figures}

-- a flag is asked where something was paid for it
asked_is : (b : Bool) {x : ℕ} → x ≡ cond b 8 0 → ltb 0 x ≡ b
asked_is true e = rw e
asked_is false e = rw e

module _ (f : AllocCounts) (bits : List ℕ) (coded left reserve : ℕ) (o : RoundIn f bits coded left reserve) {first lo hi : ℕ}
    (first-is : first ≡ edge f.start)
    (lo-is : lo ≡ edge (coded - 1)) (hi-is : hi ≡ edge coded) where
  -- the band between the two edges is the top one
  pub width_is : hi - lo ≡ width (coded - 1)
  unfolding width
  width_is = let e : suc (coded - 1) ≡ coded = omega (arith, o.start-lt) in rw (e, hi-is, lo-is)

  module _ {top paid keep next : ℕ} (top-is : top ≡ get_or bits (coded - 1) 0 + left / (hi - first) * (hi - lo) + (left % (hi - first) - (lo - first)))
      (paid-is : paid ≡ cond (leb (max (threshold (bare f) (coded - 1)) (alloc_floor (bare f) + 8)) top) 8 0)
      (keep-is : keep ≡ floored (bare f) (top - paid))
      (next-is : next ≡ cond (eqb reserve 0) 0 (fraction (coded - 1 - f.start))) where
    top_def : top ≡ skips.top_bits (bare f) (λ j. get_or bits j 0) (round_of coded left reserve [])
    unfolding skips.top_bits skips.width_up_to
    top_def = rw (← hi-is, ← lo-is, ← first-is, ← width_is) top-is

    paid_def : paid ≡ skips.paid (bare f) (λ j. get_or bits j 0) (round_of coded left reserve [])
    unfolding skips.paid skips.asks
    paid_def = rw (← top_def) paid-is

    asked_def : ltb 0 paid ≡ skips.asks (bare f) (λ j. get_or bits j 0) (round_of coded left reserve [])
    unfolding skips.paid
    asked_def = asked_is (skips.asks (bare f) (λ j. get_or bits j 0) (round_of coded left reserve [])) paid_def

    keep_def : keep ≡ skips.keep (bare f) (λ j. get_or bits j 0) (round_of coded left reserve [])
    unfolding skips.keep
    keep_def = rw (← top_def, ← paid_def) keep-is

    next_def : next ≡ skips.reserve_next (bare f) (round_of coded left reserve [])
    unfolding skips.reserve_next
    next_def = next-is

    -- all figures are those of the definition
    pub figures-are :
        record { top = top; asked = ltb 0 paid; keep = keep; left = left + get_or bits (coded - 1) 0 + (reserve - next) - paid - keep; reserve = next }
        ≡ round_figures (bare f) (λ j. get_or bits j 0) (round_of coded left reserve [])
    unfolding skips.dropped
    figures-are = rw (asked_def, ← top_def, ← paid_def, ← keep_def, ← next_def)
