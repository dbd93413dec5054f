-- Only the bands start..end-1 count: figures that agree there give the same steps. A list that was filled there serves for the definition's function.
-- Assumes nothing.
use Prim.Native.Nat.{ℕ, zero, suc, ◌+◌, ◌-◌, ◌≤◌, ◌<◌}
use mathlib.Core.Bool.{Bool}
use mathlib.Core.List.{List}
use mathlib.Core.Path.{◌≡◌, refl, ◌∙◌, ap}
use native.Mathlib.Omega.{arith}
use lib.Dec.{ltb}
use Rattle.laws.proofs.Sums.{sum_same}
use Rattle.rate_spec.specs.Types.{Ask, Band, AllocIn}
use Rattle.rate_spec.specs.Skips.{Round, asks, dropped, flag_of, keep, paid, skip, top_bits}
use Rattle.rate_spec.specs.Alloc.{band_of, carried, split_band, spread}
use Rattle.rate_spec.specs.Reserves.{budget}
use Rattle.rate_spec.specs.Trials.{kept_bits, over, reached, trial_takes}

module _ (a : AllocIn) (f g : ℕ → ℕ) where
  -- f and g agree from band j up to band e
  abbrev pub Agree : ℕ → ℕ → Type 0
  Agree j e = (i : ℕ) → j ≤ i → i < e → f i ≡ g i

  -- a trial
  pub reached-same : (n j : ℕ) → Agree j (j + n) → reached a f j n ≡ reached a g j n
  unfolding reached
  reached-same zero j h = refl
  reached-same (suc n) j h = rw (h j (omega arith) (omega arith), reached-same n (suc j) (λ i p q. h i (omega arith) (omega arith)))

  module _ (j : ℕ) (low : j < a.end) (h : Agree j a.end) where
    reached_here : reached a f j (a.end - j) ≡ reached a g j (a.end - j)
    reached_here = reached-same (a.end - j) j (λ i p q. h i p (omega arith))

    -- what a trial counts for band j
    pub takes_same : trial_takes a f j ≡ trial_takes a g j
    unfolding trial_takes
    takes_same = rw (reached_here, h j (omega arith) low)

    -- what band j keeps
    pub keeps_same : kept_bits a f j ≡ kept_bits a g j
    unfolding kept_bits
    keeps_same = rw (reached_here, h j (omega arith) low)

  -- whether a trial is over the budget
  pub over-same : a.start ≤ a.end → Agree a.start a.end → over a f ≡ over a g
  unfolding over
  over-same l h =
      ap (ltb (budget a)) (sum_same (trial_takes a f) (trial_takes a g) (a.end - a.start) a.start
      (λ i p q. takes_same i (omega arith) (λ k u v. h k (omega arith) v)))

  -- a round
  module _ (r : Round) (h : f (r.coded - 1) ≡ g (r.coded - 1)) where
    -- what the top band would get
    pub top-same : top_bits a f r ≡ top_bits a g r
    unfolding top_bits
    top-same = rw h

    -- whether a flag is asked
    pub asks-same : asks a f r ≡ asks a g r
    unfolding asks
    asks-same = rw top-same

    -- the round after the top band was dropped
    pub dropped-same : dropped a f r ≡ dropped a g r
    unfolding dropped paid keep
    dropped-same = rw (top-same, asks-same, h)

    answer-same : {σ : Type 0} (A : Ask σ) (s : σ) → flag_of a f A r s ≡ flag_of a g A r s
    unfolding flag_of
    answer-same A s = rw (top-same, asks-same)

    coded-next : (dropped a g r).coded ≡ r.coded - 1
    unfolding dropped
    coded-next = refl

  round_same : {σ : Type 0} (A : Ask σ) (n : ℕ) (r : Round) (s : σ) → f (r.coded - 1) ≡ g (r.coded - 1)
      → ((t : σ) → skip a f A n (dropped a g r) t ≡ skip a g A n (dropped a g r) t) → skip a f A (suc n) r s ≡ skip a g A (suc n) r s
  unfolding skip
  round_same A n r s e ih = rw (answer-same r e A s, asks-same r e, dropped-same r e, ih (flag_of a g A r s).1)

  -- skipping, which looks at the bands from start up
  pub skip-same : {σ : Type 0} (A : Ask σ) (n : ℕ) (r : Round) (s : σ) → a.start + n < r.coded → Agree a.start r.coded
      → skip a f A n r s ≡ skip a g A n r s
  unfolding skip
  skip-same A zero r s l h = refl
  skip-same A (suc n) r s l h =
      let e = h (r.coded - 1) (omega arith) (omega arith) in
      let c = coded-next r e in
      round_same A n r s e (λ t. skip-same A n (dropped a g r) t (omega arith) (λ i p q. h i p (omega arith)))

  -- the bands
  module _ (coded left intensity : ℕ) (dual : Bool) where
    -- a band's bits with its part of what is left
    pub spread_same : (j : ℕ) → f j ≡ g j → spread a f coded left j ≡ spread a g coded left j
    unfolding spread
    spread_same j h = rw h

    -- its split
    pub split-same : (j balance : ℕ) → f j ≡ g j → split_band a f coded left intensity dual j balance ≡ split_band a g coded left intensity dual j balance
    unfolding split_band
    split-same j balance h = rw (spread_same j h)

    -- the balance that reaches a band
    pub carried_same : (n : ℕ) → Agree a.start (a.start + n) → carried a f coded left intensity dual n ≡ carried a g coded left intensity dual n
    unfolding carried
    carried_same zero h = refl
    carried_same (suc n) h =
        ap (λ (b : ℕ). (split_band a f coded left intensity dual (a.start + n) b).balance) (carried_same n (λ i p q. h i p (omega arith)))
        ∙ ap (λ (b : Band). b.balance) (split-same (a.start + n) (carried a g coded left intensity dual n) (h (a.start + n) (omega arith) (omega arith)))

    -- a band of the answer
    pub band-same : (kept : List ℕ) (j : ℕ) → a.start ≤ j → Agree a.start (suc j)
        → band_of a f coded left intensity dual kept j ≡ band_of a g coded left intensity dual kept j
    unfolding band_of
    band-same kept j l h =
        rw (
          carried_same (j - a.start) (λ i p q. h i p (omega arith)),
          split-same j (carried a g coded left intensity dual (j - a.start))
              (h j l (omega arith)),
        )
