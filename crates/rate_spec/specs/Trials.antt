-- Each band's bits before skipping: a point between two allocation vectors that the budget pays for, found by halving. Highest states what
-- halving finds.
use Rattle.std.specs.Prelude.{ℕ, zero, suc, ◌+◌, ◌-◌, ◌/◌, min, Bool, false, cond, ◌||◌, leb, ltb}
use Rattle.laws.specs.Places.{sum_of}
use Rattle.rate_spec.specs.Types.{AllocIn}
use Rattle.rate_spec.specs.Reserves.{alloc_floor, budget}
use Rattle.rate_spec.specs.Vectors.{threshold, lower_bits, interpolated}

-- lo is within the budget, hi is taken to be over it: they are brought together until they are neighbours, in at most n trials. It gives lo
-- and the number of trials. (For the vectors, rate.rs's own lo and hi are lo + 1 and hi - 1.)
unfoldable pub halve : (ℕ → Bool) → ℕ → ℕ → ℕ → ℕ × ℕ
halve over zero lo hi = (lo, 0)
halve over (suc n) lo hi =
    let mid = (lo + hi) / 2 in
    let (found, trials) = halve over n (cond (over mid) lo mid) (cond (over mid) mid hi) in
    cond (leb hi (suc lo)) (lo, 0) (found, suc trials)

-- A trial of x, the bits that each band is to have.
module _ (a : AllocIn) where
  -- one of the n bands from j up has its threshold (done)
  unfoldable pub reached : (ℕ → ℕ) → ℕ → ℕ → Bool
  reached x j zero = false
  reached x j (suc n) = leb (threshold a j) (x j) || reached x (suc j) n

  -- a floor of x bits that have one, else nothing
  unfoldable pub floored : ℕ → ℕ
  floored x = cond (leb (alloc_floor a) x) (alloc_floor a) 0

  -- what a trial counts for band j: its bits up to its cap, from the highest band that has its threshold down; above that band a floor or nothing
  unfoldable pub trial_takes : (ℕ → ℕ) → ℕ → ℕ
  trial_takes x j = cond (reached x j (a.end - j)) (min (x j) (a.cap j)) (floored (x j))

  -- the bands together take (psum) more than they share
  unfoldable pub over : (ℕ → ℕ) → Bool
  over x = ltb (budget a) (sum_of (trial_takes x) a.start (a.end - a.start))

  -- a vector within the budget whose next is over it, or is the 11th, which is not tried; with the number of trials. It is the highest within
  -- the budget where no cap is below the floor (Highest)
  unfoldable pub vector : ℕ × ℕ
  vector = halve (λ v. over (lower_bits a v)) 4 0 11

  -- how many 64ths of the way from vector v to the next, where v is within the budget: they are within it too, and one more is over it, or is the
  -- 64th, which is not tried. It is the highest number of 0..63 within the budget where no cap is below the floor (Highest)
  unfoldable pub sixtyfourths : ℕ → ℕ
  sixtyfourths v = (halve (λ q. over (interpolated a v q)) 6 0 64).0

  -- what band j keeps of x: as in a trial, but no more than its cap in any case
  unfoldable pub kept_bits : (ℕ → ℕ) → ℕ → ℕ
  kept_bits x j = min (cond (reached x j (a.end - j)) (x j) (floored (x j))) (a.cap j)

  -- each band's bits before skipping (bits, at the end of the last pass of interp_bits2pulses)
  unfoldable pub bits_of : ℕ → ℕ
  bits_of = kept_bits (interpolated a vector.0 (sixtyfourths vector.0))
