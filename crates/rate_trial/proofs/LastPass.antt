-- The last pass, from the top down: how it begins, one band on, and how it ends. Assumes nothing.
use Prim.Native.Nat.{ℕ, ◌+◌, ◌-◌, ◌*◌, ◌≤◌, ◌<◌, min}
use mathlib.Core.Bool.{Bool, false, cond, ◌||◌}
use mathlib.Core.List.{List, []}
use mathlib.Core.Path.{◌≡◌, sym, ◌∙◌}
use native.Mathlib.Omega.{arith}
use lib.Dec.{leb}
use lib.ListN.{set}
use Rattle.laws.proofs.Lists.{fill-down}
use Rattle.laws.proofs.Sums.{sum-down, sum-none}
use Rattle.laws.specs.Lists.{fill}
use Rattle.laws.specs.Places.{sum_of}
use Rattle.rate_spec.specs.Types.{AllocIn}
use Rattle.rate_spec.specs.Trials.{floored, kept_bits, reached}
use Rattle.rate_spec.specs.Vectors.{threshold}
use Rattle.rate_spec.proofs.Loops.{reached-down}
use Rattle.rate_bands.specs.Inputs.{alloc_in, bare}
use Rattle.rate_bands.specs.declared.AllocCounts.{AllocCounts}

module _ (f : AllocCounts) (caps : List ℕ) (x : ℕ → ℕ) where
  -- the question without its boosts, which the last pass does not look at
  abbrev a : AllocIn
  a = alloc_in f [] caps

  -- the bands from j up were looked at: whether one of them has its threshold, and the sum of g over them
  abbrev pub Down : (ℕ → ℕ) → ℕ → Bool → ℕ → Type 0
  Down g j done sum =
      (a.start ≤ j) × (j ≤ a.end) × (sum ≤ 32767 * (a.end - j)) × (done ≡ reached a x j (a.end - j)) × (sum ≡ sum_of g j (a.end - j))

  -- at first there are no such bands
  pub down-none : (g : ℕ → ℕ) → a.start < a.end → Down g a.end false 0
  unfolding reached
  down-none g h =
      let z : a.end - a.end ≡ 0 = omega arith in
      (omega arith, omega arith, omega arith, rw z, rw z (sym (sum-none g a.end)))

  module _ (j : ℕ) (low : a.start < j) {done : Bool} {th t : ℕ} (p : th ≡ threshold (bare f) (j - 1)) (q : t ≡ x (j - 1)) where
    reached_on : j ≤ a.end → done ≡ reached a x j (a.end - j) → (leb th t || done) ≡ reached a x (j - 1) (a.end - (j - 1))
    unfolding threshold
    reached_on high d = rw (reached-down j a.end (omega arith) high a x, p, q, d)

    keeps-is : j ≤ a.end → done ≡ reached a x j (a.end - j)
        → min (cond (leb th t || done) t (floored (bare f) t)) (a.cap (j - 1)) ≡ kept_bits a x (j - 1)
    unfolding kept_bits floored
    keeps-is high d = rw (reached_on high d, q)

    down_on : (g : ℕ → ℕ) {sum k : ℕ} → Down g j done sum → k ≡ g (j - 1) → k ≤ 32767 → Down g (j - 1) (leb th t || done) (sum + k)
    down_on g d e h =
        (omega arith, omega arith, omega arith, reached_on d.1 d.3, sum-down g j a.end (omega arith) d.1 d.4 e)

    -- one band more: the flag and the sum
    pub keep_on : {sum k : ℕ} → Down (kept_bits a x) j done sum
        → k ≡ min (cond (leb th t || done) t (floored (bare f) t)) (a.cap (j - 1)) → k ≤ 32767
        → Down (kept_bits a x) (j - 1) (leb th t || done) (sum + k)
    keep_on d e h = down_on (kept_bits a x) d (e ∙ keeps-is d.1 d.3) h

    -- one band more: the list
    pub bits_on : {sum k : ℕ} (l : List ℕ) {b : List ℕ} → Down (kept_bits a x) j done sum
        → k ≡ min (cond (leb th t || done) t (floored (bare f) t)) (a.cap (j - 1))
        → b ≡ fill (kept_bits a x) j (a.end - j) l → set b (j - 1) k ≡ fill (kept_bits a x) (j - 1) (a.end - (j - 1)) l
    bits_on l d e f = fill-down (kept_bits a x) j a.end l (omega arith) d.1 f (e ∙ keeps-is d.1 d.3)
