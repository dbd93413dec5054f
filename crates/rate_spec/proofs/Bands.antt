-- What is left is spread whole, and the split of a band's bits loses none. Assumes nothing.
use Prim.Native.Nat.{ℕ, zero, suc, ◌+◌, ◌-◌, ◌*◌, ◌/◌, ◌%◌, ◌≤◌, ◌<◌, min}
use mathlib.Core.Bool.{Bool, true, false, cond}
use mathlib.Core.Logic.{◌⊎◌, inl, inr}
use mathlib.Core.Path.{◌≡◌, refl}
use native.Mathlib.Nat.{mul-add, mul-zero, mul_assoc, mul-div-le, div-add-mod, div-add-mod', mod-lt, mul-le-mul_left, min-le_left, min-le_right, min-eq_left}
use native.Mathlib.Omega.{arith}
use lib.Dec.{leb, ltb, eqb}
use borrow.Author.Tests.{ltb-false, eqb-true, leb-true, leb-false}
use Rattle.laws.proofs.Tests.{split_on}
use Rattle.laws.proofs.Sums.{sum-last, sum-none}
use Rattle.laws.specs.Places.{sum_of}
use Rattle.modes.proofs.EdgeRule.{edge-le, edge-lt}
use Rattle.modes.specs.Edges.{width}
use Rattle.rate_spec.specs.Types.{Band, AllocIn}
use Rattle.rate_spec.specs.Alloc.{carried, split_band, spread}
use Rattle.rate_spec.specs.Ledger.{price}
use Rattle.rate_spec.specs.Split.{extra, fine_of, prio_of, spill, split_of, wanted}
use Rattle.rate_spec.specs.Skips.{width_up_to}

-- the coefficients below a band
before-first : (a : AllocIn) → width_up_to a a.start ≡ 0
unfolding width_up_to
before-first a = omega arith

before-next : (a : AllocIn) (j : ℕ) → a.start ≤ j → j < 21 → width_up_to a (suc j) ≡ width_up_to a j + width j
unfolding width_up_to width
before-next a j h g = omega (arith, edge-le a.start j h (omega arith), edge-le j (suc j) (omega arith) (omega arith))

-- some coefficient lies below a band above the first
pub before-pos : (a : AllocIn) (j : ℕ) → a.start < j → j ≤ 21 → 0 < width_up_to a j
unfolding width_up_to
before-pos a j h g = omega (arith, edge-lt a.start j h g)

module _ (a : AllocIn) (bits : ℕ → ℕ) (coded left intensity : ℕ) (dual : Bool) where
  spread-part : (n : ℕ) → a.start + n ≤ 21 → sum_of (spread a bits coded left) a.start n
      ≡ sum_of bits a.start n + left / width_up_to a coded * width_up_to a (a.start + n) + min (left % width_up_to a coded) (width_up_to a (a.start + n))
  unfolding spread
  spread-part zero h =
      let e : a.start + 0 ≡ a.start = omega arith in
      rw (e, before-first a, mul-zero) (omega (arith, sum-none bits a.start, sum-none (spread a bits coded left) a.start))
  spread-part (suc n) h =
      let e : a.start + suc n ≡ suc (a.start + n) = omega arith in
      rw (e, sum-last (spread a bits coded left) n a.start, sum-last bits n a.start, before-next a (a.start + n) (omega arith) (omega arith), mul-add)
      (omega (arith, spread-part n (omega arith)))

  -- the coded bands have together what they had and what was left
  pub spread-sum : a.start < coded → coded ≤ 21
      → sum_of (spread a bits coded left) a.start (coded - a.start) ≡ sum_of bits a.start (coded - a.start) + left
  spread-sum h g =
      let e : a.start + (coded - a.start) ≡ coded = omega arith in
      let p = before-pos a coded h g in
      omega (arith, rw e at (spread-part (coded - a.start) (omega arith)), div-add-mod' left (width_up_to a coded), mod-lt left p)

-- a split of x bits: none is lost, and what is handed on is less than a bit for each channel unless the band has all its fine bits
pub record Fair (C x : ℕ) (b : Band) : Type 0 where
  pub whole : price C b + b.balance ≡ x
  pub fine_le : b.fine ≤ 8
  pub rest : (b.balance < 8 * C) ⊎ (b.fine ≡ 8)

module _ (C n den lg : ℕ) where
  -- fine bits are at most 8, and paid for
  pub fine_le : (b : ℕ) → fine_of C n den lg b ≤ 8
  unfolding fine_of
  fine_le b = min-le_left 8 (cond (ltb (b / 8) (C * wanted n den lg b)) (b / (8 * C)) (wanted n den lg b))

  -- the bits pay for the fine bits
  pub fine-paid : (b : ℕ) → 8 * C * fine_of C n den lg b ≤ b
  unfolding fine_of
  fine-paid b = go (ltb (b / 8) (C * wanted n den lg b)) refl
    where
      go : (t : Bool) → ltb (b / 8) (C * wanted n den lg b) ≡ t → 8 * C * min 8 (cond t (b / (8 * C)) (wanted n den lg b)) ≤ b
      go true e = omega (arith, mul-le-mul_left (8 * C) (min-le_right 8 (b / (8 * C))), mul-div-le b (8 * C))
      go false e =
          omega (
            arith,
            mul-le-mul_left (8 * C) (min-le_right 8 (wanted n den lg b)),
            mul_assoc 8 C (wanted n den lg b),
            ltb-false (b / 8) (C * wanted n den lg b) e,
          )

  extra-le : (fine excess : ℕ) → 8 * C * extra C fine excess ≤ excess
  unfolding extra
  extra-le fine excess =
      omega (arith, mul-le-mul_left (8 * C) (min-le_left (excess / (8 * C)) (8 - fine)), mul-div-le excess (8 * C))

  extra_eight : (fine excess : ℕ) → fine ≤ 8 → fine + extra C fine excess ≤ 8
  unfolding extra
  extra_eight fine excess g = omega (arith, min-le_right (excess / (8 * C)) (8 - fine))

  extra-rest : (fine excess : ℕ) → 1 ≤ C → fine ≤ 8 → (excess - 8 * C * extra C fine excess < 8 * C) ⊎ (fine + extra C fine excess ≡ 8)
  unfolding extra
  extra-rest fine excess h g =
      let p : 0 < 8 * C = omega arith in
      split_on (leb (excess / (8 * C)) (8 - fine))
      (λ e. inl (rw (min-eq_left (leb-true (excess / (8 * C)) (8 - fine) e)) (omega (arith, div-add-mod excess (8 * C), mod-lt excess p))))
      (λ e. inr (omega (arith, leb-false (excess / (8 * C)) (8 - fine) e)))

  spill_fair : (pulses fine prio excess balance : ℕ) → 1 ≤ C → fine ≤ 8 → Fair C (pulses + 8 * C * fine + excess) (spill C pulses fine prio excess balance)
  unfolding spill
  spill_fair pulses fine prio excess balance h g = go (eqb excess 0) refl
    where
      go : (t : Bool) → eqb excess 0 ≡ t → Fair C (pulses + 8 * C * fine + excess)
          (cond t (record { pulses = pulses; fine = fine; prio = prio; balance = 0 })
          (record {
            pulses = pulses;
            fine = fine + extra C fine excess;
            prio = cond (leb excess (8 * C * extra C fine excess + balance)) 1 0;
            balance = excess - 8 * C * extra C fine excess;
          }))
      go true e = record { whole = omega (arith, eqb-true excess 0 e); fine_le = g; rest = inl (omega arith) }
      go false e =
          record {
            whole = omega (arith, extra-le fine excess, mul-add (8 * C) fine (extra C fine excess));
            fine_le = extra_eight fine excess g;
            rest = extra-rest fine excess h g;
          }

  -- the split of x bits is fair
  pub split_fair : (cap x balance : ℕ) → 1 ≤ C → Fair C x (split_of C n den lg cap x balance)
  unfolding split_of
  split_fair cap x balance h = go (ltb 1 n)
    where
      fine : ℕ
      fine = fine_of C n den lg (min x cap)

      go : (t : Bool) → Fair C x
          (cond t (spill C (min x cap - 8 * C * fine) fine (prio_of C n den lg (min x cap)) (x - cap) balance)
          (spill C (min x (8 * C)) 0 1 (x - 8 * C) balance))
      go true =
          let e : min x cap - 8 * C * fine + 8 * C * fine + (x - cap) ≡ x = omega (arith, fine-paid (min x cap)) in
          rw e at (spill_fair (min x cap - 8 * C * fine) fine (prio_of C n den lg (min x cap)) (x - cap) balance h (fine_le (min x cap)))
      go false =
          let e : min x (8 * C) + 8 * C * 0 + (x - 8 * C) ≡ x = omega arith in
          rw e at (spill_fair (min x (8 * C)) 0 1 (x - 8 * C) balance h (omega arith))

module _ (a : AllocIn) (h : 1 ≤ a.C) (bits : ℕ → ℕ) (coded left intensity : ℕ) (dual : Bool) where
  -- so is that of a coded band
  pub fair : (j balance : ℕ) → Fair a.C (spread a bits coded left j + balance) (split_band a bits coded left intensity dual j balance)
  unfolding split_band
  fair j balance = split_fair _ _ _ _ (a.cap j) (spread a bits coded left j + balance) balance h

  -- what band j takes, where the bands below it handed on what they did
  unfoldable pub priced : ℕ → ℕ
  priced j = price a.C (split_band a bits coded left intensity dual j (carried a bits coded left intensity dual (j - a.start)))

  priced_at : (n : ℕ)
      → priced (a.start + n) ≡ price a.C (split_band a bits coded left intensity dual (a.start + n) (carried a bits coded left intensity dual n))
  unfolding priced
  priced_at n = let e : a.start + n - a.start ≡ n = omega arith in rw e

  -- the first n coded bands, and what they hand on
  pub split-sum : (n : ℕ) → sum_of priced a.start n + carried a bits coded left intensity dual n ≡ sum_of (spread a bits coded left) a.start n
  unfolding carried
  split-sum zero = omega (arith, sum-none (spread a bits coded left) a.start, sum-none priced a.start)
  split-sum (suc n) =
      omega (
        arith,
        sum-last priced n a.start,
        sum-last (spread a bits coded left) n a.start,
        priced_at n,
        (fair (a.start + n) (carried a bits coded left intensity dual n)).whole,
        split-sum n,
      )

  -- what the last coded band hands on
  pub split_rest : (n : ℕ) → (carried a bits coded left intensity dual (suc n) < 8 * a.C)
      ⊎ ((split_band a bits coded left intensity dual (a.start + n) (carried a bits coded left intensity dual n)).fine ≡ 8)
  unfolding carried
  split_rest n = (fair (a.start + n) (carried a bits coded left intensity dual n)).rest
