-- A search whose own count of trials tells what is left of it. Assumes nothing.
use Prim.Native.Nat.{ℕ, zero, suc, ◌+◌, ◌-◌, ◌*◌, ◌/◌, ◌^◌, ◌≤◌, ◌<◌}
use mathlib.Core.Bool.{Bool, true, false}
use mathlib.Core.Path.{◌≡◌, refl, sym, ◌∙◌, ap}
use native.Mathlib.Omega.{arith}
use borrow.Author.Tests.{le-leb}
use Rattle.laws.proofs.Powers.{pow_half, pow_some}
use Rattle.rate_spec.specs.Trials.{halve}
use Rattle.rate_spec.proofs.Loops.{halve-over, halve-under}

-- of a search from lo₀ and hi₀ in at most n trials: `trials` were made, lo and hi are left
module _ (over : ℕ → Bool) (n lo₀ hi₀ : ℕ) where
  -- what is left of the search: its ends are no more than a power of 2 apart, and it will find and count what the whole one does
  pub record Search (lo hi trials : ℕ) : Type 0 where
    pub apart : lo < hi
    pub hi-le : hi ≤ hi₀
    pub trials-le : trials ≤ n
    pub near : hi ≤ lo + 2 ^ (n - trials)
    pub found-is : (halve over (n - trials) lo hi).0 ≡ (halve over n lo₀ hi₀).0
    pub count-is : trials + (halve over (n - trials) lo hi).1 ≡ (halve over n lo₀ hi₀).1

  -- before the first trial
  pub search_start : lo₀ < hi₀ → hi₀ ≤ lo₀ + 2 ^ n → Search lo₀ hi₀ 0
  search_start h g =
      let e : n - 0 ≡ n = omega arith in
      record {
        apart = h;
        hi-le = omega arith;
        trials-le = omega arith;
        near = rw e g;
        found-is = rw e;
        count-is = rw e (omega arith);
      }

  module _ (lo hi trials : ℕ) (s : Search lo hi trials) where
    some_left : suc lo < hi → 0 < n - trials
    some_left h = pow_some (n - trials) (omega (arith, s.near))

    module _ (h : suc lo < hi) where
      next : n - trials ≡ suc (n - (trials + 1))
      next = omega (arith, some_left h)

      half : 2 ^ (n - trials) ≡ 2 * 2 ^ (n - (trials + 1))
      half =
          let e : n - trials - 1 ≡ n - (trials + 1) = omega arith in
          pow_half (n - trials) (some_left h) ∙ ap (λ (k : ℕ). 2 * 2 ^ k) e

      -- after a trial that is over
      pub search_over : over ((lo + hi) / 2) ≡ true → Search lo ((lo + hi) / 2) (trials + 1)
      search_over o =
          let e = halve-over over (n - (trials + 1)) lo hi h o in
          record {
            apart = omega arith;
            hi-le = omega (arith, s.hi-le);
            trials-le = omega (arith, some_left h);
            near = omega (arith, s.near, half);
            found-is = sym (ap (λ (r : ℕ × ℕ). r.0) e) ∙ (rw next at s.found-is);
            count-is = omega (arith, ap (λ (r : ℕ × ℕ). r.1) e, rw next at s.count-is);
          }

      -- after one that is within
      pub search_under : over ((lo + hi) / 2) ≡ false → Search ((lo + hi) / 2) hi (trials + 1)
      search_under o =
          let e = halve-under over (n - (trials + 1)) lo hi h o in
          record {
            apart = omega arith;
            hi-le = s.hi-le;
            trials-le = omega (arith, some_left h);
            near = omega (arith, s.near, half);
            found-is = sym (ap (λ (r : ℕ × ℕ). r.0) e) ∙ (rw next at s.found-is);
            count-is = omega (arith, ap (λ (r : ℕ × ℕ). r.1) e, rw next at s.count-is);
          }

    none_left : (k : ℕ) → hi ≤ suc lo → halve over k lo hi ≡ (lo, 0)
    unfolding halve
    none_left zero h = refl
    none_left (suc k) h = rw (le-leb hi (suc lo) h)

    -- neighbours: lo is what the whole search finds, and the trials made are all of them
    pub search_done : hi ≤ suc lo → (lo, trials) ≡ halve over n lo₀ hi₀
    search_done h =
        let e = none_left (n - trials) h in
        let found : lo ≡ (halve over n lo₀ hi₀).0 = sym (ap (λ (r : ℕ × ℕ). r.0) e) ∙ s.found-is in
        let count : trials ≡ (halve over n lo₀ hi₀).1 = omega (arith, ap (λ (r : ℕ × ℕ). r.1) e, s.count-is) in
        rw (found, count) refl
