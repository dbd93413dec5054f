-- The definition's figures in ℕ are the signed ones of the RFC's source. Assumes nothing.
use Prim.Native.Nat.{ℕ, zero, suc, ◌+◌, ◌-◌, ◌*◌, ◌/◌, ◌^◌, ◌≤◌, ◌<◌}
use mathlib.Core.Bool.{cond}
use mathlib.Core.Path.{◌≡◌, refl, sym, ◌∙◌, ap}
use native.Mathlib.Omega.{arith}
use lib.Dec.{ltb, eqb}
use lib.IntN.{pos, negsuc, neg_ℤ, ◌+ℤ◌, ◌*ℤ◌, sub_ℕ}
use lib.Signed.{lt_z, le_z, shr_z}
use Rattle.laws.proofs.Differences.{add-sub, by_sign, clip-sub, le-sub, lt-sub, pos_less, sub-add, sub_less, sub-neg, sub-pos, sub_same}
use Rattle.laws.specs.Signs.{clip}
use Rattle.modes.specs.Edges.{width}
use Rattle.rate_spec.specs.Types.{AllocIn}
use Rattle.rate_spec.specs.Reserves.{alloc_floor}
use Rattle.rate_spec.specs.Split.{fine_of, prio_of, wanted, with_offset}
use Rattle.rate_spec.specs.Signed.{fine_offset, fine_sum, trim_offset, PrioIs, TrimmedIs, WantedIs}
use Rattle.rate_spec.specs.Vectors.{slope, trim_down, trim_up, trimmed}

-- the shift rounds down: a part above 0 is cut, a part below 0 raised in size
down : (m : ℕ) → shr_z (neg_ℤ (pos m)) 64 ≡ sub_ℕ 0 ((m + 63) / 64)
down zero = refl
down (suc m) = let g : m / 64 ≡ (suc m + 63) / 64 - suc 0 = omega arith in ap negsuc g ∙ sym (sub-neg 0 ((suc m + 63) / 64) (omega arith))

shifted : (s t k : ℕ) → shr_z (pos s *ℤ sub_ℕ t k) 64 ≡ sub_ℕ (s * (t - k) / 64) ((s * (k - t) + 63) / 64)
shifted s t k = by_sign t k (λ z. shr_z (pos s *ℤ z) 64 ≡ sub_ℕ (s * (t - k) / 64) ((s * (k - t) + 63) / 64)) up low
  where
    up : k ≤ t → pos (s * (t - k) / 64) ≡ sub_ℕ (s * (t - k) / 64) ((s * (k - t) + 63) / 64)
    up h =
        let z : k - t ≡ 0 = omega arith in
        let g : s * (t - k) / 64 ≡ s * (t - k) / 64 - (s * 0 + 63) / 64 = omega arith in
        rw z (ap pos g ∙ sym (sub-pos (s * (t - k) / 64) ((s * 0 + 63) / 64) (omega arith)))

    low : t < k → shr_z (neg_ℤ (pos (s * suc (k - suc t)))) 64 ≡ sub_ℕ (s * (t - k) / 64) ((s * (k - t) + 63) / 64)
    low h =
        let z : t - k ≡ 0 = omega arith in
        let y : suc (k - suc t) ≡ k - t = omega arith in
        let w : s * 0 / 64 ≡ 0 = omega arith in
        rw (y, z, w) (down (s * (k - t)))

-- the trim: max (0, x + offset) where x is not 0
module _ (a : AllocIn) (j : ℕ) where
  trim-is : trim_offset a j ≡ sub_ℕ (trim_up a j) (trim_down a j)
  unfolding trim_offset trim_up trim_down
  trim-is = rw (pos_less a.trim (5 + a.LM), shifted (slope a j) a.trim (5 + a.LM))
      (sub_less (slope a j * (a.trim - (5 + a.LM)) / 64) ((slope a j * (5 + a.LM - a.trim) + 63) / 64)
      (cond (eqb (width j * 2 ^ a.LM) 1) (alloc_floor a) 0))

  trimmed-at : (x : ℕ) → trimmed a x j ≡ cond (eqb x 0) 0 (clip (pos x +ℤ trim_offset a j))
  unfolding trimmed
  trimmed-at x = rw (trim-is, add-sub x (trim_up a j) (trim_down a j), clip-sub (x + trim_up a j) (trim_down a j))

-- the corrections for few bits look at u - 21·den as the RFC does, at u with 21·den on the other side
corrected
    : (u den p q : ℕ) → sub_ℕ u (21 * den) +ℤ pos (cond (lt_z (sub_ℕ u (21 * den)) (pos (16 * den))) p (cond (lt_z (sub_ℕ u (21 * den)) (pos (24 * den))) q 0))
    ≡ sub_ℕ (u + cond (ltb u (37 * den)) p (cond (ltb u (45 * den)) q 0)) (21 * den)
corrected u den p q =
    let e : 16 * den + 21 * den ≡ 37 * den = omega arith in
    let g : 24 * den + 21 * den ≡ 45 * den = omega arith in
    rw (lt-sub u (21 * den) (16 * den), lt-sub u (21 * den) (24 * den), e, g) (sub-add u (21 * den) _)

-- the split: bits + offset, the fine bits that it asks for, and the priority
module _ (n den lg b : ℕ) where
  offset-is : pos b +ℤ fine_offset n den lg ≡ sub_ℕ (b + den * lg / 2 + cond (eqb n 2) (2 * den) 0) (21 * den)
  unfolding fine_offset
  offset-is =
      rw (
        pos_less (den * lg / 2) (21 * den),
        sub-add (den * lg / 2) (21 * den) (cond (eqb n 2) (2 * den) 0),
        add-sub b
            (den * lg / 2 + cond (eqb n 2) (2 * den) 0) (21 * den),
      )
      (sub_same (b + (den * lg / 2 + cond (eqb n 2) (2 * den) 0)) (21 * den) (b + den * lg / 2 + cond (eqb n 2) (2 * den) 0) (21 * den) (omega arith))

  sum_is : fine_sum n den lg b ≡ sub_ℕ (with_offset n den lg b) (21 * den)
  unfolding fine_sum with_offset
  sum_is = rw offset-is (corrected (b + den * lg / 2 + cond (eqb n 2) (2 * den) 0) den (den * lg / 4) (den * lg / 8))

  wanted-at : wanted n den lg b ≡ clip (fine_sum n den lg b +ℤ pos (4 * den)) / den / 8
  unfolding wanted
  wanted-at =
      let e : with_offset n den lg b + 4 * den - 21 * den ≡ with_offset n den lg b - 17 * den = omega arith in
      rw (sum_is, sub-add (with_offset n den lg b) (21 * den) (4 * den), clip-sub (with_offset n den lg b + 4 * den) (21 * den), e)

  prio-at : (C : ℕ) → prio_of C n den lg b ≡ cond (le_z (fine_sum n den lg b) (pos (8 * den * fine_of C n den lg b))) 1 0
  unfolding prio_of
  prio-at C = rw (sum_is, le-sub (with_offset n den lg b) (21 * den) (8 * den * fine_of C n den lg b))

-- the trim, as in the RFC's source
pub trimmed-is : TrimmedIs
trimmed-is a j x = trimmed-at a j x

-- the fine bits asked for
pub wanted-is : WantedIs
wanted-is n den lg b = wanted-at n den lg b

-- the priority
pub prio-is : PrioIs
prio-is n den lg b C = prio-at n den lg b C
