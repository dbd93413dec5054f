-- How skipping ends: no more bands are dropped than may be, and only the last flag says stop. Assumes nothing.
use Prim.Native.Nat.{ℕ, zero, suc, ◌+◌, ◌-◌, ◌≤◌, ◌<◌}
use mathlib.Core.Bool.{Bool, true, false, cond}
use mathlib.Core.List.{List, [], ◌∷◌}
use mathlib.Core.Path.{◌≡◌, refl}
use native.Mathlib.Omega.{arith}
use lib.Dec.{eqb}
use lib.ListN.{length}
use Rattle.laws.proofs.Tests.{cond-by}
use Rattle.rate_spec.specs.Types.{Ask, AllocIn}
use Rattle.rate_spec.specs.Laws.{last_flag}
use Rattle.rate_spec.specs.Ledger.{go_ons}
use Rattle.rate_spec.specs.Skips.{Round, Skipped, asks, dropped, last_boost, skip, skip_start, top_bits}
use Rattle.rate_spec.proofs.Steps.{skip_on, skip_stop, skip_unasked}

-- the highest boosted band is one of the bands
module _ (a : AllocIn) where
  boost_in : (n : ℕ) → 0 < n → (a.start ≤ last_boost a n) × (last_boost a n < a.start + n)
  unfolding last_boost
  boost_in zero h = absurd (omega arith)
  boost_in (suc zero) h =
      cond-by (λ (x : ℕ). (a.start ≤ x) × (x < a.start + 1)) (eqb (a.offset (a.start + 0)) 0) (λ e. omega arith) (λ e. omega arith)
  boost_in (suc (suc n)) h =
      let b = boost_in (suc n) (omega arith) in
      cond-by (λ (x : ℕ). (a.start ≤ x) × (x < a.start + suc (suc n))) (eqb (a.offset (a.start + suc n)) 0) (λ e. omega arith) (λ e. omega arith)

  -- the band below which none is skipped is one of the bands
  pub low_in : a.start < a.end → (a.start ≤ skip_start a) × (skip_start a < a.end)
  unfolding skip_start
  low_in h = let b = boost_in (a.end - a.start) (omega arith) in omega arith

-- a flag that says go on, before all others, changes neither
before_last : (fs : List Bool) → last_flag (false ∷ fs) ≡ last_flag fs
unfolding last_flag
before_last [] = refl
before_last (f ∷ fs) = refl

module _ (a : AllocIn) (bits : ℕ → ℕ) where
  -- how skipping by up to n rounds from r ends: the bands dropped, what stopped it, and the flags before that
  pub record Ends (n : ℕ) (r : Round) (k : Skipped) : Type 0 where
    pub rounds-le : r.coded ≤ k.last.coded + n
    pub stopped-is : k.stopped ≡ last_flag k.flags
    pub others : go_ons k.flags + cond k.stopped 1 0 ≡ length k.flags

  module _ {σ : Type 0} (A : Ask σ) where
    drop-coded : (r : Round) → (dropped a bits r).coded ≡ r.coded - 1
    unfolding dropped
    drop-coded r = refl

    round : (n : ℕ) (r : Round) → ((s : σ) → Ends n (dropped a bits r) (skip a bits A n (dropped a bits r) s).0) → (s : σ)
        → Ends (suc n) r (skip a bits A (suc n) r s).0
    unfolding go_ons last_flag
    round n r ih s = go (asks a bits r) refl (A.skip r.coded (top_bits a bits r) s) refl
      where
        asked : (s₁ : σ) (stop : Bool) → asks a bits r ≡ true → A.skip r.coded (top_bits a bits r) s ≡ (stop, s₁)
            → Ends (suc n) r (skip a bits A (suc n) r s).0
        asked s₁ true p q = rw (skip_stop a bits A n r s s₁ p q) (record { rounds-le = omega arith; stopped-is = refl; others = omega arith })
        asked s₁ false p q =
            let g = ih s₁ in
            rw (skip_on a bits A n r s s₁ p q)
            (record {
              rounds-le = omega (arith, g.rounds-le, drop-coded r);
              stopped-is = rw (before_last (skip a bits A n (dropped a bits r) s₁).0.flags) g.stopped-is;
              others = omega (arith, g.others);
            })

        go : (q : Bool) → asks a bits r ≡ q → (x : Bool × σ) → A.skip r.coded (top_bits a bits r) s ≡ x → Ends (suc n) r (skip a bits A (suc n) r s).0
        go true p x e = asked x.1 x.0 p e
        go false p x e =
            let g = ih s in
            rw (skip_unasked a bits A n r s p)
            (record { rounds-le = omega (arith, g.rounds-le, drop-coded r); stopped-is = g.stopped-is; others = g.others })

    -- skipping by up to n rounds from r ends so
    pub skip-ends : (n : ℕ) (r : Round) (s : σ) → Ends n r (skip a bits A n r s).0
    unfolding skip go_ons last_flag
    skip-ends zero r s = record { rounds-le = omega arith; stopped-is = refl; others = refl }
    skip-ends (suc n) r s = round n r (skip-ends n (dropped a bits r)) s
