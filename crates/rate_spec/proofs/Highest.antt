-- What halving ends at, whatever is over, and that it is the highest where what is over stays over further up. Assumes nothing.
use Prim.Native.Nat.{ℕ, zero, suc, ◌+◌, ◌*◌, ◌/◌, ◌^◌, ◌≤◌, ◌<◌}
use mathlib.Core.Bool.{Bool, true, false, true≢false}
use mathlib.Core.Logic.{inl, inr, ⊎_elim}
use mathlib.Core.Path.{◌≡◌, refl, sym, ap, ◌∙◌}
use native.Mathlib.Nat.{pow-succ'}
use native.Mathlib.Omega.{arith}
use Rattle.laws.proofs.Tests.{by_le, split_on}
use Rattle.rate_spec.specs.Highest.{EndsAt, HalvingEnds, Highest}
use Rattle.rate_spec.specs.Trials.{halve}
use Rattle.rate_spec.proofs.Loops.{halve-done, halve-over, halve-under}

module _ (over : ℕ → Bool) where
  -- neighbours: lo is where it ends
  done : (n lo hi : ℕ) → suc lo ≡ hi → EndsAt over lo hi (halve over n lo hi).0
  done n lo hi e = rw (halve-done over n lo hi (omega arith)) (record { lo-le = omega arith; lt-hi = omega arith; within = inl refl; next = inl e })

  -- mid was over: it is the next above, or the next above lies below it
  lowered : (lo mid hi : ℕ) {found : ℕ} → mid < hi → over mid ≡ true → EndsAt over lo mid found → EndsAt over lo hi found
  lowered lo mid hi h e r =
      record { lo-le = r.lo-le; lt-hi = omega (arith, r.lt-hi); within = r.within; next = inr (⊎_elim (λ p. ap over p ∙ e) (λ p. p) r.next) }

  -- mid was within
  raised : (lo mid hi : ℕ) {found : ℕ} → lo < mid → over mid ≡ false → EndsAt over mid hi found → EndsAt over lo hi found
  raised lo mid hi h e r =
      record { lo-le = omega (arith, r.lo-le); lt-hi = r.lt-hi; within = inr (⊎_elim (λ p. ap over p ∙ e) (λ p. p) r.within); next = r.next }

  ends : (n lo hi : ℕ) → lo < hi → hi ≤ lo + 2 ^ n → EndsAt over lo hi (halve over n lo hi).0
  ends zero lo hi h g = done zero lo hi (omega arith)
  ends (suc n) lo hi h g =
      by_le hi (suc lo) (λ p. done (suc n) lo hi (omega arith))
      (λ p.
      let mid = (lo + hi) / 2 in
      let q : hi ≤ lo + 2 * 2 ^ n = rw (pow-succ' 2 n) at g in
      split_on (over mid)
      (λ e. rw (halve-over over n lo hi p e) (lowered lo mid hi (omega arith) e (ends n lo mid (omega arith) (omega arith))))
      (λ e. rw (halve-under over n lo hi p e) (raised lo mid hi (omega arith) e (ends n mid hi (omega arith) (omega arith)))))

-- where halving ends, whatever is over
pub halving_ends : HalvingEnds
halving_ends = ends

-- what is over stays over further up, below hi: then where it ends is the highest within
module _ (over : ℕ → Bool) (hi : ℕ) (stays : (f g : ℕ) → f ≤ g → g < hi → over f ≡ true → over g ≡ true) where
  -- of the figures below hi the highest that is within
  pub highest : (found : ℕ) → EndsAt over 0 hi found → over found ≡ false → Highest over hi found
  highest found r e = record { lt-hi = r.lt-hi; within = e; highest = λ f h w. by_le f found (λ p. p) (λ p. absurd (above f h w p)) }
    where
      above : (f : ℕ) → f < hi → over f ≡ false → found < f → ⊥
      above f h w p = ⊎_elim (λ q. omega arith) (λ q. true≢false (sym (stays (suc found) f p h q) ∙ w)) r.next
