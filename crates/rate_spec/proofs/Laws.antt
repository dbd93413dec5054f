-- The laws of every allocation: each band's pulses, fine bits and priority, and how skipping ended. Assumes nothing.
use Prim.Native.Nat.{ℕ, suc, ◌+◌, ◌-◌, ◌*◌, ◌^◌, ◌≤◌, ◌<◌, min}
use mathlib.Core.Bool.{Bool}
use mathlib.Core.Logic.{◌⊎◌, inl, inr}
use mathlib.Core.Path.{◌≡◌, refl}
use native.Mathlib.Nat.{mul-le-mul_left, div_self, zero-div}
use native.Mathlib.Omega.{arith}
use lib.Dec.{leb, eqb}
use lib.ListN.{get_or}
use borrow.Author.Tests.{le-ltb, lt-ltb}
use Rattle.laws.proofs.Tests.{by_le, cond-by, cond-le}
use Rattle.modes.specs.Edges.{width}
use Rattle.modes.specs.LogWidths.{log_width}
use Rattle.rate_spec.specs.Alloc.{alloc, alloc_from, degrees, finish, first_round, skipped, split_band, spread}
use Rattle.rate_spec.specs.Types.{Ask, Band, AllocIn, AllocOut}
use Rattle.rate_spec.specs.Domain.{AllocInOk}
use Rattle.rate_spec.specs.Laws.{EachBand, Ending, Laws, NoPulses, Signs, UpToCap}
use Rattle.rate_spec.specs.Reserves.{alloc_floor}
use Rattle.rate_spec.specs.Skips.{skip, skip_start}
use Rattle.rate_spec.specs.Split.{extra, fine_of, prio_of, spill, split_of, with_offset}
use Rattle.rate_spec.specs.Trials.{bits_of}
use Rattle.rate_spec.proofs.Bands.{fair, fine-paid, split_fair}
use Rattle.rate_spec.proofs.Budget.{floors_at, kept-all, the_after}
use Rattle.rate_spec.proofs.Ending.{low_in, skip-ends}
use Rattle.rate_spec.proofs.Loops.{band-coded, band-skipped}
use Rattle.rate_spec.proofs.Within.{first-within}

-- ---- a band's excess

module _ (C : ℕ) where
  -- a band before its excess is spent: pulses stay, fine bits only grow, the priority is 0 or 1
  record Spilled (pulses fine : ℕ) (b : Band) : Type 0 where
    stay : b.pulses ≡ pulses
    grow : fine ≤ b.fine
    prio-le : b.prio ≤ 1

  spilled : (pulses fine prio excess balance : ℕ) → prio ≤ 1 → Spilled pulses fine (spill C pulses fine prio excess balance)
  unfolding spill
  spilled pulses fine prio excess balance h =
      cond-by (Spilled pulses fine) (eqb excess 0) (λ e. record { stay = refl; grow = omega arith; prio-le = h })
      (λ e. record {
        stay = refl;
        grow = omega arith;
        prio-le = cond-le (leb excess (8 * C * extra C fine excess + balance)) (λ t. omega arith)
            (λ t. omega arith);
      })

-- ---- a split

module _ (C n den lg : ℕ) (low : 1 ≤ C) where
  prio_of-le : (b : ℕ) → prio_of C n den lg b ≤ 1
  unfolding prio_of
  prio_of-le b = cond-le (leb (with_offset n den lg b) (8 * den * fine_of C n den lg b + 21 * den)) (λ t. omega arith) (λ t. omega arith)

  module _ (cap x balance : ℕ) where
    -- the band that the split gives
    abbrev band : Band
    band = split_of C n den lg cap x balance

    several_is : 1 < n
        → band ≡ spill C (min x cap - 8 * C * fine_of C n den lg (min x cap)) (fine_of C n den lg (min x cap)) (prio_of C n den lg (min x cap))
        (x - cap) balance
    unfolding split_of
    several_is h = rw (lt-ltb 1 n h)

    one_is : n ≤ 1 → band ≡ spill C (min x (8 * C)) 0 1 (x - 8 * C) balance
    unfolding split_of
    one_is h = rw (le-ltb 1 n h)

    split_several : 1 < n → UpToCap C cap band
    split_several h =
        let fine = fine_of C n den lg (min x cap) in
        let s : Spilled C (min x cap - 8 * C * fine) fine band = rw (several_is h) (spilled C _ fine _ (x - cap) balance (prio_of-le (min x cap))) in
        let f = split_fair C n den lg cap x balance low in
        let paid = fine-paid C n den lg (min x cap) in
        let eight : 8 * C * band.fine ≤ 8 * C * 8 = mul-le-mul_left (8 * C) f.fine_le in
        record {
          bought = fine;
          bought-le = s.grow;
          whole = omega (arith, s.stay, f.whole, paid);
          pulses-le = omega (arith, s.stay);
          within = λ g. omega arith;
          price-le = omega (arith, s.stay, eight);
        }

    split_one : n ≤ 1 → Signs C band
    split_one h =
        let s : Spilled C (min x (8 * C)) 0 band = rw (one_is h) (spilled C (min x (8 * C)) 0 1 (x - 8 * C) balance (omega arith)) in
        let f = split_fair C n den lg cap x balance low in
        let eight : 8 * C * band.fine ≤ 8 * C * 8 = mul-le-mul_left (8 * C) f.fine_le in
        record { whole = omega (arith, s.stay, f.whole); price-le = omega (arith, s.stay, eight) }

    split-prio : band.prio ≤ 1
    split-prio =
        by_le n 1 (λ h. rw (one_is h) (spilled C (min x (8 * C)) 0 1 (x - 8 * C) balance (omega arith)).prio-le)
        (λ h. rw (several_is h) (spilled C _ _ _ (x - cap) balance (prio_of-le (min x cap))).prio-le)

-- ---- a band of an allocation

module _ (a : AllocIn) (o : AllocInOk a) where
  -- what was kept is a floor or nothing
  dropped-band : (kept : ℕ) → (kept ≡ alloc_floor a) ⊎ (kept ≡ 0) → NoPulses (skipped a kept)
  unfolding skipped
  dropped-band kept (inl e) =
      let p : 0 < alloc_floor a = omega (arith, o.C_low) in
      rw (e, div_self p) (record { pulses-none = refl; either = inl (refl, refl) })
  dropped-band kept (inr e) = rw (e, zero-div) (record { pulses-none = refl; either = inr (refl, refl) })

  module _ (bits : ℕ → ℕ) (coded left intensity : ℕ) (dual : Bool) (j balance : ℕ) where
    -- band j's split
    abbrev here : Band
    here = split_band a bits coded left intensity dual j balance

    here_several : 1 < width j * 2 ^ a.LM → UpToCap a.C (a.cap j) here
    unfolding split_band
    here_several h = split_several a.C (width j * 2 ^ a.LM) (degrees a intensity dual j) (log_width j + 8 * a.LM) o.C_low (a.cap j)
        (spread a bits coded left j + balance) balance h

    here_one : width j * 2 ^ a.LM ≤ 1 → Signs a.C here
    unfolding split_band
    here_one h = split_one a.C (width j * 2 ^ a.LM) (degrees a intensity dual j) (log_width j + 8 * a.LM) o.C_low (a.cap j)
        (spread a bits coded left j + balance) balance h

    here_prio : here.prio ≤ 1
    unfolding split_band
    here_prio = split-prio a.C (width j * 2 ^ a.LM) (degrees a intensity dual j) (log_width j + 8 * a.LM) o.C_low (a.cap j)
        (spread a bits coded left j + balance) balance

  module _ {σ : Type 0} (A : Ask σ) (s : σ) where
    -- the allocation
    abbrev out : AllocOut
    out = (alloc a A s).0

    -- the split of a coded band, and what a skipped one kept
    coded-at : (P : Band → Type 0) (j : ℕ)
        → ((bits : ℕ → ℕ) (coded left intensity : ℕ) (dual : Bool) (balance : ℕ) → P (split_band a bits coded left intensity dual j balance))
        → j < out.coded → P (out.band j)
    unfolding alloc alloc_from finish
    coded-at P j f h = rw (band-coded a (bits_of a) _ _ _ _ _ j h) (f _ _ _ _ _ _)

    skipped_at : (j : ℕ) → out.coded ≤ j → NoPulses (out.band j)
    unfolding alloc alloc_from finish
    skipped_at j h =
        let kept = (skip a (bits_of a) A (a.end - suc (skip_start a)) (first_round a (bits_of a)) s).0.last.kept in
        rw (band-skipped a (bits_of a) _ _ _ _ kept j h)
        (dropped-band (get_or kept (j - out.coded) 0) (floors_at a o (bits_of a) kept (the_after a o A s).floors (j - out.coded)))

    none-le : (b : Band) → NoPulses b → (b.fine ≤ 8) × (b.prio ≤ 1)
    none-le b n = go n.either
      where
        go : ((b.fine ≡ 1) × (b.prio ≡ 0)) ⊎ ((b.fine ≡ 0) × (b.prio ≡ 1)) → (b.fine ≤ 8) × (b.prio ≤ 1)
        go (inl e) = omega arith
        go (inr e) = omega arith

    -- every band of an allocation
    pub each_band : EachBand a out
    each_band =
        record {
          fine_le =
              λ j. by_le out.coded j (λ h. (none-le (out.band j) (skipped_at j h)).0)
              (λ h. coded-at (λ b. b.fine ≤ 8) j (λ bits coded left intensity dual balance. (fair a o.C_low bits coded left intensity dual j
              balance).fine_le) h);
          prio-le =
              λ j. by_le out.coded j (λ h. (none-le (out.band j) (skipped_at j h)).1)
              (λ h. coded-at (λ b. b.prio ≤ 1) j (λ bits coded left intensity dual balance. here_prio bits coded left intensity dual j balance) h);
          several_coefficients = λ j h g. coded-at (UpToCap a.C (a.cap j)) j
              (λ bits coded left intensity dual balance. here_several bits coded left intensity dual j balance g) h;
          one_coefficient =
              λ j h g. coded-at (Signs a.C) j (λ bits coded left intensity dual balance. here_one bits coded left intensity dual j balance g) h;
          skipped = skipped_at;
        }

    -- ---- how skipping ended

    first-coded : (first_round a (bits_of a)).coded ≡ a.end
    unfolding first_round
    first-coded = refl

    -- how its skipping ended
    pub ending : Ending a out
    unfolding alloc alloc_from finish
    ending =
        let e = skip-ends a (bits_of a) A (a.end - suc (skip_start a)) (first_round a (bits_of a)) s in
        let k = kept-all a o (bits_of a) _ (first-within a o) (the_after a o A s) in
        record {
          boosted = omega (arith, e.rounds-le, first-coded, low_in a o.start-lt);
          rounds_are = omega (arith, k);
          stopped-is = e.stopped-is;
          others_go_on = e.others;
        }

-- both, for every question of the domain and whoever answers
pub laws : Laws
laws a o σ A s = (each_band a o A s, ending a o A s)
