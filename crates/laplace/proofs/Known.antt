-- The pairs of the coarse-energy model: a known pair is the model's pair k for some k, and makes a Laplace model. Assumes nothing.
use Prim.Native.Nat.{ℕ, zero, suc, ◌≤◌, ◌<◌}
use mathlib.Core.Path.{◌≡◌}
use mathlib.Core.Bool.{true, and-eq-true_iff, or-true}
use native.Mathlib.Omega.{arith}
use lib.Dec.{eqb}
use borrow.Author.Tests.{eqb-true, eq-eqb}
use Rattle.laws.proofs.Tests.{split_on, by_le}
use Rattle.modes.specs.EnergyModel.{zero_at, decay_at}
use Rattle.modes.specs.Laplace.{legal}
use Rattle.modes.proofs.EnergyModelRule.{pair_legal}
use Rattle.modes.proofs.Laplace.{Legal, legal_parts}
use Rattle.laplace.specs.Pairs.{is_pair, among, pair_known}

-- the numbers of a pair that is found
pub record PairAt (fs dec : ℕ) : Type 0 where
  pub k : ℕ
  pub below : k < 168
  pub zero : zero_at k ≡ fs
  pub decay : decay_at k ≡ dec

-- a search that finds a pair gives its index
among-at : (n fs dec : ℕ) → n ≤ 168 → among n fs dec ≡ true → PairAt fs dec
unfolding among
among-at zero fs dec h e = let z : ◌≡◌ {A = ℕ} 0 1 = cc in absurd (omega arith)
among-at (suc n) fs dec h e =
    split_on (is_pair fs dec n)
    (λ p.
    let b = (and-eq-true_iff (eqb (zero_at n) fs) (eqb (decay_at n) dec)).0 p in
    record { k = n; below = omega arith; zero = eqb-true (zero_at n) fs b.0; decay = eqb-true (decay_at n) dec b.1 })
    (λ p. among-at n fs dec (omega arith) (rw p at e))

-- and a pair that is there is found
among_of : (n fs dec k : ℕ) → k < n → zero_at k ≡ fs → decay_at k ≡ dec → among n fs dec ≡ true
unfolding among
among_of zero fs dec k h a b = absurd (omega arith)
among_of (suc n) fs dec k h a b =
    by_le n k
    (λ l.
    let e : k ≡ n = omega arith in
    let x : zero_at n ≡ fs = rw e at a in
    let y : decay_at n ≡ dec = rw e at b in
    rw (eq-eqb (zero_at n) fs x, eq-eqb (decay_at n) dec y))
    (λ l. rw (among_of n fs dec k l a b, or-true))

-- a known pair has an index
pub known_at : (fs dec : ℕ) → pair_known fs dec ≡ true → PairAt fs dec
unfolding pair_known
known_at fs dec e = among-at 168 fs dec (omega arith) e

-- a known pair makes a model
pub known-legal : (fs dec : ℕ) → pair_known fs dec ≡ true → legal fs dec ≡ true
known-legal fs dec e =
    let p = known_at fs dec e in
    let l = pair_legal p.k p.below in
    rw (p.zero, p.decay) at l

-- and what has one is known
pub at-known : (fs dec : ℕ) → PairAt fs dec → pair_known fs dec ≡ true
unfolding pair_known
at-known fs dec p = among_of 168 fs dec p.k p.below p.zero p.decay

-- as facts
pub known_parts : (fs dec : ℕ) → pair_known fs dec ≡ true → Legal fs dec
known_parts fs dec e = legal_parts fs dec (known-legal fs dec e)
