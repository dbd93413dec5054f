-- The two parts of a trial: the top from above down, the rest from below up, and both together. Assumes nothing.
use Prim.Native.Nat.{ℕ, zero, suc, ◌+◌, ◌-◌, ◌*◌, ◌≤◌, ◌<◌, min}
use mathlib.Core.Bool.{Bool, true, false, true≢false, ◌||◌}
use mathlib.Core.List.{List, []}
use mathlib.Core.Path.{◌≡◌, refl, sym, ◌∙◌, ap}
use native.Mathlib.Omega.{arith}
use lib.Dec.{leb}
use lib.ListN.{get_or}
use borrow.Author.Tests.{le-leb, lt-leb}
use Rattle.laws.proofs.Tests.{split_on}
use Rattle.laws.proofs.Sums.{sum_append, sum-down, sum-none, sum_same, sum-up}
use Rattle.laws.specs.Places.{sum_of}
use Rattle.rate_spec.specs.Types.{AllocIn}
use Rattle.rate_spec.specs.Trials.{floored, reached, trial_takes}
use Rattle.rate_spec.specs.Vectors.{threshold}
use Rattle.rate_spec.proofs.Loops.{reached-down}
use Rattle.rate_bands.specs.Inputs.{bare, alloc_in}
use Rattle.rate_bands.specs.declared.AllocCounts.{AllocCounts}
use Rattle.rate_trial.specs.Points.{TopOf, capped}
use Rattle.rate_trial.proofs.Points.{reached_any}

module _ (a : AllocIn) (x : ℕ → ℕ) where
  -- the bands from j up were looked at: none has its threshold, and they take s
  abbrev pub Above : ℕ → ℕ → Type 0
  Above j s =
      (a.start ≤ j) × (j ≤ a.end) × (s ≤ 16 * (a.end - j)) × (reached a x j (a.end - j) ≡ false) × (s ≡ sum_of (λ i. floored a (x i)) j (a.end - j))

  -- at first there are no such bands
  pub above-none : a.start < a.end → Above a.end 0
  unfolding reached
  above-none h =
      let z : a.end - a.end ≡ 0 = omega arith in
      (omega arith, omega arith, omega arith, rw z, rw z (sym (sum-none (λ i. floored a (x i)) a.end)))

  module _ (j : ℕ) (low : a.start < j) {s th t : ℕ} (d : Above j s) (p : th ≡ threshold a (j - 1)) (q : t ≡ x (j - 1)) where
    here : reached a x (j - 1) (a.end - (j - 1)) ≡ leb th t
    here = reached-down j a.end (omega arith) d.1 a x ∙ rw (d.3, ← p, ← q) (or_false (leb th t))
      where
        or_false : (b : Bool) → (b || false) ≡ b
        or_false true = refl
        or_false false = refl

    -- the next band has its threshold: the top is found
    pub above-stop : th ≤ t → TopOf a x j s
    above-stop h =
        record { start-le = d.0; le-end = d.1; none_above = d.3; one_below = λ g. here ∙ le-leb th t h; sum_is = d.4; sum-le = d.2 }

    -- it has not, and takes a floor or nothing
    pub above_on : {k : ℕ} → t < th → k ≡ floored a t → k ≤ 16 → Above (j - 1) (s + k)
    above_on h e g = (
      omega arith,
      omega arith,
      omega arith,
      here ∙ lt-leb th t h,
      sum-down (λ i. floored a (x i)) j a.end (omega arith) d.1 d.4 (e ∙ ap (floored a) q),
    )

module _ (start : ℕ) (caps : List ℕ) (x : ℕ → ℕ) where
  -- the bands from the first up to j take s, each up to its cap
  abbrev pub Rest : ℕ → ℕ → ℕ → Type 0
  Rest b j s = (start ≤ j) × (j ≤ b) × (s ≤ 32767 * (j - start)) × (s ≡ sum_of (capped caps x) start (j - start))

  -- at first there are no such bands
  pub rest-none : (b : ℕ) → start ≤ b → Rest b start 0
  rest-none b h =
      let z : start - start ≡ 0 = omega arith in
      (omega arith, omega arith, omega arith, rw z (sym (sum-none (capped caps x) start)))

  -- one band more
  pub rest_on : (b j : ℕ) {s t k : ℕ} → j < b → Rest b j s → t ≡ x j → k ≡ min t (get_or caps j 0) → get_or caps j 0 ≤ 32767 → Rest b (j + 1) (s + k)
  rest_on b j h d q e g =
      (omega arith, omega arith, omega arith, sum-up (capped caps x) start j d.0 d.3 (e ∙ ap (λ (n : ℕ). min n (get_or caps j 0)) q))

module _ (a : AllocIn) (x : ℕ → ℕ) where
  -- of the bands from j up one has its threshold where one of those from a band above j up has
  reached-below : (n j : ℕ) → reached a x (j + n) (a.end - (j + n)) ≡ true → j + n ≤ a.end → reached a x j (a.end - j) ≡ true
  reached-below zero j e h = let z : j + 0 ≡ j = omega arith in rw z at e
  reached-below (suc n) j e h =
      let z : j + suc n ≡ suc j + n = omega arith in
      let y : suc j - 1 ≡ j = omega arith in
      rw y at (reached-down (suc j) a.end (omega arith) (omega arith) a x) ∙ rw (reached-below n (suc j) (rw z at e) (omega arith))
      (or-true (leb (threshold a j) (x j)))
    where
      or-true : (b : Bool) → (b || true) ≡ true
      or-true true = refl
      or-true false = refl

  -- no band above one that has none from it up has its threshold
  none_from : (b j : ℕ) → reached a x b (a.end - b) ≡ false → b ≤ j → j ≤ a.end → reached a x j (a.end - j) ≡ false
  none_from b j e h g =
      let z : b + (j - b) ≡ j = omega arith in
      split_on (reached a x j (a.end - j)) (λ t. absurd (true≢false (sym (reached-below (j - b) b (rw z t) (omega arith)) ∙ e))) (λ t. t)

module _ (f : AllocCounts) (caps : List ℕ) (x : ℕ → ℕ) {b s : ℕ} (t : TopOf (bare f) x b s) where
  -- the highest band that has its threshold, and those below it, take their bits up to their caps
  takes-capped : (j : ℕ) → f.start ≤ j → j < b → trial_takes (alloc_in f [] caps) x j ≡ capped caps x j
  unfolding trial_takes
  takes-capped j k h =
      let z : j + (b - 1 - j) ≡ b - 1 = omega arith in
      let g : f.start < b = omega arith in
      rw (reached_any f [] [] caps [] x (f.end - j) j, reached-below (bare f) x (b - 1 - j) j (rw z (t.one_below g)) (omega (arith, t.le-end)))

  -- those above it take a floor or nothing
  takes-floored : (j : ℕ) → b ≤ j → j < f.end → trial_takes (alloc_in f [] caps) x j ≡ floored (bare f) (x j)
  unfolding trial_takes floored
  takes-floored j h g =
      rw (reached_any f [] [] caps [] x (f.end - j) j, none_from (bare f) x b j t.none_above h (omega arith))

  -- both parts
  pub together : {r : ℕ} → r ≡ sum_of (capped caps x) f.start (b - f.start) → s + r ≡ sum_of (trial_takes (alloc_in f [] caps) x) f.start (f.end - f.start)
  together q =
      let takes = trial_takes (alloc_in f [] caps) x in
      let e : f.end - f.start ≡ (b - f.start) + (f.end - b) = omega (arith, t.start-le, t.le-end) in
      let z : f.start + (b - f.start) ≡ b = omega (arith, t.start-le) in
      let low = sum_same takes (capped caps x) (b - f.start) f.start (λ i p w. takes-capped i p (omega arith)) in
      let high = sum_same takes (λ j. floored (bare f) (x j)) (f.end - b) b (λ i p w. takes-floored i p (omega (arith, t.le-end))) in
      rw e (omega (arith, low, high, t.sum_is, rw z at (sum_append takes (b - f.start) (f.end - b) f.start)))
