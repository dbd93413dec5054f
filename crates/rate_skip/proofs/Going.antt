-- One round of the loop, whoever answers. Assumes nothing.
use Prim.Native.Nat.{ℕ, suc, ◌+◌, ◌-◌, ◌≤◌, ◌<◌}
use mathlib.Core.Bool.{Bool, true, false}
use mathlib.Core.List.{List, [], ◌∷◌}
use mathlib.Core.Path.{◌≡◌, ap, sym, ◌∙◌}
use native.Mathlib.Omega.{arith}
use lib.ListN.{length, get_or, set, length-set}
use lib.Seq.{drop-cons, drop-set-lt, get_or-set_same}
use Rattle.rate_spec.specs.Types.{Ask}
use Rattle.rate_spec.specs.Skips.{Round, asks, dropped, flag_of, keep, paid, reserve_next, skip, top_bits}
use Rattle.rate_spec.proofs.Bounds.{drop_less}
use Rattle.rate_spec.proofs.Loops.{skip_drops, skip-stops}
use Rattle.rate_spec.proofs.Rounds.{Sound, drop-sound, holds, sum_top}
use Rattle.rate_bands.specs.Inputs.{AllocCountsOk, bare}
use Rattle.rate_bands.specs.declared.AllocCounts.{AllocCounts}
use Rattle.rate_skip.specs.declared.RoundFigures.{RoundFigures}
use Rattle.rate_skip.specs.Asks.{when_asked}
use Rattle.rate_skip.specs.Rounds.{RoundIn, skip_ending, kept_of, round_of, round_figures}

-- what the dropped band kept is stored below what the others kept
pub kept_next : (end coded x : ℕ) (l : List ℕ) → 0 < coded → coded ≤ end → coded - 1 < length l
    → kept_of end (coded - 1) (set l (coded - 1) x) ≡ x ∷ kept_of end coded l
kept_next end coded x l p q h =
    let e : end - (coded - 1) ≡ suc (end - coded) = omega arith in
    let g : suc (coded - 1) ≡ coded = omega arith in
    let k : coded - 1 < length (set l (coded - 1) x) = simp length-set h in
    rw (e, drop-cons (set l (coded - 1) x) (coded - 1) 0 k, g, drop-set-lt coded l (coded - 1) x (omega arith), get_or-set_same l (coded - 1) x 0 h)

module _ {σ : Type 0} (f : AllocCounts) (bits : List ℕ) (A : Ask σ) (low : ℕ) where
  -- what holds before a round: the rounds that are left give what all of them gave
  pub record Going (all : Round × Bool × σ) (r : Round) (s : σ) : Type 0 where
    pub above : low < r.coded
    pub sound : Sound (bare f) (r.coded - suc low) r
    pub within : holds (bare f) (λ j. get_or bits j 0) r ≤ 81600
    pub same : skip_ending (skip (bare f) (λ j. get_or bits j 0) A (r.coded - suc low) r s) ≡ all

  module _ {all : Round × Bool × σ} {r : Round} {s : σ} (g : Going all r s) where
    -- no band is left to drop
    pub going_done : r.coded ≤ low + 1 → (r, false, s) ≡ all
    unfolding skip
    going_done h = let e : r.coded - suc low ≡ 0 = omega arith in rw e at g.same

    module _ (more : low + 1 < r.coded) where
      one_more : r.coded - suc low ≡ suc (r.coded - 1 - suc low)
      one_more = omega arith

      sound_more : Sound (bare f) (suc (r.coded - 1 - suc low)) r
      sound_more = rw one_more at g.sound

      -- the next round is one that its figures are worked out for
      pub round_in : AllocCountsOk f → RoundIn f bits r.coded r.left r.reserve
      round_in o =
          record {
            frame = o;
            start-lt = omega (arith, g.sound.above);
            coded-le = g.sound.below;
            within = omega (arith, g.within, sum_top (bare f) (λ j. get_or bits j 0) (r.coded - 1 - suc low) r sound_more);
          }

      module _ {stop : Bool} {t : σ} {y : RoundFigures} (y-is : y ≡ round_figures (bare f) (λ j. get_or bits j 0) (round_of r.coded r.left r.reserve []))
          (flag : (stop, t) ≡ when_asked y.asked (A.skip r.coded y.top s) s) where
        flag_is : flag_of (bare f) (λ j. get_or bits j 0) A r s ≡ (stop, t)
        unfolding flag_of asks top_bits
        flag_is = sym (rw y-is at flag)

        -- its flag says stop
        pub going-stops : stop ≡ true → (r, true, t) ≡ all
        going-stops h =
            let e : flag_of (bare f) (λ j. get_or bits j 0) A r s ≡ (true, t) = rw h at flag_is in
            sym (ap skip_ending (skip-stops (bare f) (λ j. get_or bits j 0) A (r.coded - 1 - suc low) r s t e)) ∙ rw one_more at g.same

        dropped-is : dropped (bare f) (λ j. get_or bits j 0) r ≡ round_of (r.coded - 1) y.left y.reserve (y.keep ∷ r.kept)
        unfolding dropped keep paid asks top_bits reserve_next
        dropped-is = rw y-is

        ending_next : stop ≡ false
            → skip_ending (skip (bare f) (λ j. get_or bits j 0) A (r.coded - 1 - suc low) (dropped (bare f) (λ j. get_or bits j 0) r) t) ≡ all
        ending_next h =
            let e : flag_of (bare f) (λ j. get_or bits j 0) A r s ≡ (false, t) = rw h at flag_is in
            let d = skip_drops (bare f) (λ j. get_or bits j 0) A (r.coded - 1 - suc low) r s t e in
            rw (← d.0, ← d.1, ← d.2) (rw one_more at g.same)

        going-dropped : stop ≡ false → Going all (dropped (bare f) (λ j. get_or bits j 0) r) t
        unfolding dropped
        going-dropped h =
            record {
              above = omega arith;
              sound = drop-sound (bare f) (λ j. get_or bits j 0) (r.coded - 1 - suc low) r sound_more;
              within = omega (arith, g.within, drop_less (bare f) (λ j. get_or bits j 0) (r.coded - 1 - suc low) r sound_more);
              same = ending_next h;
            }

        -- it goes on, from the figures that were worked out
        pub going_on : stop ≡ false → Going all (round_of (r.coded - 1) y.left y.reserve (y.keep ∷ r.kept)) t
        going_on h = rw dropped-is at (going-dropped h)
