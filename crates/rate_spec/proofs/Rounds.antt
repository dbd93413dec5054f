-- No bit is lost in a round of skipping. Assumes nothing.
use Prim.Native.Nat.{ℕ, zero, suc, ◌+◌, ◌-◌, ◌*◌, ◌≤◌, ◌<◌, max}
use mathlib.Core.Bool.{Bool, true, false, cond}
use mathlib.Core.List.{List, [], ◌∷◌}
use mathlib.Core.Logic.{◌⊎◌, inl, inr, ⊎_elim}
use mathlib.Core.Path.{◌≡◌, refl}
use native.Mathlib.Omega.{arith}
use lib.Dec.{leb, eqb}
use lib.ListN.{length}
use borrow.Author.Tests.{leb-true, eqb-false}
use Rattle.laws.proofs.Tests.{cond-is, cond-le}
use Rattle.laws.proofs.Division.{share-rest-le}
use Rattle.laws.proofs.Sums.{sum-last}
use Rattle.laws.specs.Places.{sum_of}
use Rattle.modes.proofs.EdgeRule.{edge-le}
use Rattle.modes.specs.Fractions.{fraction}
use Rattle.modes.proofs.FractionRule.{fraction-le}
use Rattle.modes.specs.Edges.{width}
use Rattle.rate_spec.specs.Types.{Ask, AllocIn}
use Rattle.rate_spec.specs.Skips.{Round, Skipped, asks, dropped, keep, paid, reserve_next, skip, top_bits, width_up_to}
use Rattle.rate_spec.specs.Reserves.{alloc_floor}
use Rattle.rate_spec.specs.Trials.{floored}
use Rattle.rate_spec.specs.Ledger.{go_ons}
use Rattle.rate_spec.specs.Vectors.{threshold}
use Rattle.rate_spec.proofs.Steps.{skip_on, skip_stop, skip_unasked}

-- a floor is part of the bits that have it
pub floored-le : (a : AllocIn) (x : ℕ) → floored a x ≤ x
unfolding floored
floored-le a x = cond-le (leb (alloc_floor a) x) (λ e. leb-true (alloc_floor a) x e) (λ e. omega arith)

-- the sum of a list
abbrev pub sum_list : List ℕ → ℕ
sum_list [] = 0
sum_list (x ∷ l) = x + sum_list l

module _ (a : AllocIn) where
  -- n bands can still be dropped; the intensity reservation, if there is one, is the table's
  pub record Sound (n : ℕ) (r : Round) : Type 0 where
    pub above : a.start + n < r.coded
    pub below : r.coded ≤ 21
    pub reserve-is : (r.reserve ≡ fraction (r.coded - a.start)) ⊎ (r.reserve ≡ 0)

  -- each dropped band kept a floor or nothing
  abbrev pub Floors : List ℕ → Type 0
  Floors [] = Unit {0}
  Floors (x ∷ l) = ((x ≡ alloc_floor a) ⊎ (x ≡ 0)) × Floors l

  floored-is : (x : ℕ) → (floored a x ≡ alloc_floor a) ⊎ (floored a x ≡ 0)
  unfolding floored
  floored-is x = cond-is (leb (alloc_floor a) x) (alloc_floor a) 0

module _ (a : AllocIn) (bits : ℕ → ℕ) where
  -- what a round's bands, rest and reservation hold together
  abbrev pub holds : Round → ℕ
  holds r = r.left + sum_of bits a.start (r.coded - a.start) + sum_list r.kept + r.reserve

  module _ (n : ℕ) (r : Round) (o : Sound a (suc n) r) where
    width_is : width (r.coded - 1) ≡ width_up_to a r.coded - width_up_to a (r.coded - 1)
    unfolding width width_up_to
    width_is =
        let e : suc (r.coded - 1) ≡ r.coded = omega arith in
        rw e (omega (arith, edge-le a.start (r.coded - 1) (omega arith) (omega arith)))

    -- the top band would get no more than its bits and what is left
    pub top-le : top_bits a bits r ≤ bits (r.coded - 1) + r.left
    unfolding top_bits
    top-le = rw width_is (omega (arith, share-rest-le r.left (width_up_to a r.coded) (width_up_to a (r.coded - 1))))

  -- the flag and what the band keeps are paid from the top band's bits
  paid-le : (r : Round) → paid a bits r ≤ top_bits a bits r
  unfolding paid asks
  paid-le r =
      cond-le (asks a bits r) (λ e. omega (arith, leb-true (max (threshold a (r.coded - 1)) (alloc_floor a + 8)) (top_bits a bits r) e)) (λ e. omega arith)

  -- and both together
  pub costs_le : (r : Round) → paid a bits r + keep a bits r ≤ top_bits a bits r
  unfolding keep
  costs_le r = omega (arith, paid-le r, floored-le a (top_bits a bits r - paid a bits r))

  module _ (n : ℕ) (r : Round) (o : Sound a (suc n) r) where
    reserve-falls : reserve_next a r ≤ r.reserve
    unfolding reserve_next
    reserve-falls = cond-le (eqb r.reserve 0) (λ e. omega arith) (λ e. go o.reserve-is e)
      where
        go : (r.reserve ≡ fraction (r.coded - a.start)) ⊎ (r.reserve ≡ 0) → eqb r.reserve 0 ≡ false → fraction (r.coded - 1 - a.start) ≤ r.reserve
        go (inl z) e = omega (arith, fraction-le (r.coded - 1 - a.start) (r.coded - a.start) (omega arith) (omega arith))
        go (inr z) e = absurd (eqb-false r.reserve 0 e z)

    reserve-next : (reserve_next a r ≡ fraction (r.coded - 1 - a.start)) ⊎ (reserve_next a r ≡ 0)
    unfolding reserve_next
    reserve-next = ⊎_elim inr inl (cond-is (eqb r.reserve 0) 0 (fraction (r.coded - 1 - a.start)))

    -- a sound round stays sound when a band is dropped
    pub drop-sound : Sound a n (dropped a bits r)
    unfolding dropped
    drop-sound = record { above = omega arith; below = omega arith; reserve-is = reserve-next }

    -- the bands of a round are those of the next and the top one
    pub sum_top : sum_of bits a.start (r.coded - a.start) ≡ sum_of bits a.start (r.coded - 1 - a.start) + bits (r.coded - 1)
    sum_top =
        let e : r.coded - a.start ≡ suc (r.coded - 1 - a.start) = omega arith in
        let g : a.start + (r.coded - 1 - a.start) ≡ r.coded - 1 = omega arith in
        rw (e, sum-last, g)

    -- dropping a band loses the flag's bits and no others
    pub drop-holds : holds (dropped a bits r) + paid a bits r ≡ holds r
    unfolding dropped
    drop-holds = omega (arith, costs_le r, top-le n r o, reserve-falls, sum_top)

    -- a band that is asked about has more than the flag's 8
    pub ask_enough : asks a bits r ≡ true → 8 ≤ holds r
    unfolding asks
    ask_enough e = omega (arith, sum_top, top-le n r o, leb-true (max (threshold a (r.coded - 1)) (alloc_floor a + 8)) (top_bits a bits r) e)

  -- what holds after skipping from r
  pub record After (r : Round) (k : Skipped) : Type 0 where
    pub sound : Sound a 0 k.last
    pub ledger : holds k.last + 8 * go_ons k.flags ≡ holds r
    pub bands : k.last.coded + length k.last.kept ≡ r.coded + length r.kept
    pub fewer : k.last.coded ≤ r.coded
    pub floors : Floors a k.last.kept
    pub enough : cond k.stopped 8 0 ≤ holds r

  module _ {σ : Type 0} (A : Ask σ) where
    -- n rounds from a sound round lose nothing but the flags' bits
    abbrev Good : ℕ → Round → Type 0
    Good n r = Sound a n r → Floors a r.kept → (s : σ) → After r (skip a bits A n r s).0

    drop_floors : (r : Round) → Floors a r.kept → Floors a (dropped a bits r).kept
    unfolding dropped keep
    drop_floors r f = (floored-is a (top_bits a bits r - paid a bits r), f)

    drop-bands : (r : Round) → (dropped a bits r).coded ≡ r.coded - 1
    unfolding dropped
    drop-bands r = refl

    drop-kept : (r : Round) → length (dropped a bits r).kept ≡ suc (length r.kept)
    unfolding dropped
    drop-kept r = refl

    paid-asked : (r : Round) → asks a bits r ≡ true → paid a bits r ≡ 8
    unfolding paid
    paid-asked r e = rw e

    paid_unasked : (r : Round) → asks a bits r ≡ false → paid a bits r ≡ 0
    unfolding paid
    paid_unasked r e = rw e

    round : (n : ℕ) (r : Round) → Good n (dropped a bits r) → Good (suc n) r
    unfolding go_ons
    round n r ih o f s = go (asks a bits r) refl (A.skip r.coded (top_bits a bits r) s) refl
      where
        next : (s₁ : σ) → After (dropped a bits r) (skip a bits A n (dropped a bits r) s₁).0
        next s₁ = ih (drop-sound n r o) (drop_floors r f) s₁

        asked : (s₁ : σ) (stop : Bool) → asks a bits r ≡ true → A.skip r.coded (top_bits a bits r) s ≡ (stop, s₁) → After r (skip a bits A (suc n) r s).0
        asked s₁ true p q =
            rw (skip_stop a bits A n r s s₁ p q)
            (record {
              sound = record { above = omega arith; below = o.below; reserve-is = o.reserve-is };
              ledger = omega arith;
              bands = refl;
              fewer = omega arith;
              floors = f;
              enough = ask_enough n r o p;
            })
        asked s₁ false p q =
            let g = next s₁ in
            rw (skip_on a bits A n r s s₁ p q)
            (record {
              sound = g.sound;
              ledger = omega (arith, g.ledger, drop-holds n r o, paid-asked r p);
              bands = omega (arith, g.bands, drop-bands r, drop-kept r);
              fewer = omega (arith, g.fewer, drop-bands r);
              floors = g.floors;
              enough = omega (arith, g.enough, drop-holds n r o);
            })

        go : (q : Bool) → asks a bits r ≡ q → (x : Bool × σ) → A.skip r.coded (top_bits a bits r) s ≡ x → After r (skip a bits A (suc n) r s).0
        go true p x e = asked x.1 x.0 p e
        go false p x e =
            let g = next s in
            rw (skip_unasked a bits A n r s p)
            (record {
              sound = g.sound;
              ledger = omega (arith, g.ledger, drop-holds n r o, paid_unasked r p);
              bands = omega (arith, g.bands, drop-bands r, drop-kept r);
              fewer = omega (arith, g.fewer, drop-bands r);
              floors = g.floors;
              enough = omega (arith, g.enough, drop-holds n r o);
            })

    -- by induction over the rounds
    pub skip_good : (n : ℕ) (r : Round) → Good n r
    unfolding skip go_ons
    skip_good zero r o f s = record { sound = o; ledger = omega arith; bands = refl; fewer = omega arith; floors = f; enough = omega arith }
    skip_good (suc n) r o f s = round n r (skip_good n (dropped a bits r)) o f s
