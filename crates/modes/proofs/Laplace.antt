-- What a Laplace model says of its two figures, and of its chain one step on. Assumes nothing.
use Prim.Native.Nat.{ℕ, zero, suc, ◌≤◌, ◌<◌}
use mathlib.Core.Path.{◌≡◌}
use mathlib.Core.Bool.{true, ◌&&◌, and-eq-true_iff}
use native.Mathlib.Omega.{arith}
use lib.Dec.{leb, ltb, eqb}
use borrow.Author.Tests.{leb-true, ltb-true, eqb-true, lt-ltb}
use Rattle.laws.proofs.Tests.{split_on}
use Rattle.modes.specs.Laplace.{freq1, next_start, lowered, runs_out, legal}

-- `legal` as facts: zero has a place, and at least 32 are left to the others; the chain falls and comes to its end
pub record Legal (fs dec : ℕ) : Type 0 where
  pub some : 1 ≤ fs
  pub most : fs ≤ 32736
  pub slow : dec ≤ 16384
  pub ended : runs_out 32 dec fs (freq1 fs dec) ≡ true

-- the test gives the facts
pub legal_parts : (fs dec : ℕ) → legal fs dec ≡ true → Legal fs dec
unfolding legal
legal_parts fs dec t =
    let a = (and-eq-true_iff (ltb 0 fs && leb fs 32736 && leb dec 16384) (runs_out 32 dec fs (freq1 fs dec))).0 t in
    let b = (and-eq-true_iff (ltb 0 fs && leb fs 32736) (leb dec 16384)).0 a.0 in
    let c = (and-eq-true_iff (ltb 0 fs) (leb fs 32736)).0 b.0 in
    record { some = ltb-true 0 fs c.0; most = leb-true fs 32736 c.1; slow = leb-true dec 16384 b.1; ended = a.1 }

module _ (dec : ℕ) where
  -- a value further on
  pub runs_out-next : (k fl f : ℕ) → 0 < f → runs_out (suc k) dec fl f ≡ true → runs_out k dec (next_start fl f) (lowered dec f) ≡ true
  unfolding runs_out
  runs_out-next k fl f p t = rw (lt-ltb 0 f p) at t

  -- with no step left f is 0
  pub runs_out-zero : (fl f : ℕ) → runs_out zero dec fl f ≡ true → f ≡ 0
  unfolding runs_out
  runs_out-zero fl f t = eqb-true f 0 ((and-eq-true_iff (eqb f 0) (leb fl 32766)).0 t).0

  -- two places are left from here
  pub runs_out-room : (k fl f : ℕ) → runs_out k dec fl f ≡ true → fl ≤ 32766
  unfolding runs_out
  runs_out-room zero fl f t = leb-true fl 32766 ((and-eq-true_iff (eqb f 0) (leb fl 32766)).0 t).1
  runs_out-room (suc k) fl f t =
      split_on (ltb 0 f)
      (λ e. omega (arith, runs_out-room k (next_start fl f) (lowered dec f) (rw e at t)))
      (λ e. leb-true fl 32766 (rw e at t))

  -- and, while f is not 0, from the next value
  pub runs_out-after : (k fl f : ℕ) → 0 < f → runs_out k dec fl f ≡ true → next_start fl f ≤ 32766
  runs_out-after zero fl f p t = absurd (omega (arith, runs_out-zero fl f t))
  runs_out-after (suc k) fl f p t = runs_out-room k (next_start fl f) (lowered dec f) (runs_out-next k fl f p t)
