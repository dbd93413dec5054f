-- A trial of more bits takes more where no cap is below the floor, and bits rise with the vector and with the 64ths: both searches of Trials
-- find the highest. Assumes nothing.
use Prim.Native.Nat.{ℕ, zero, suc, ◌+◌, ◌-◌, ◌*◌, ◌^◌, ◌≤◌, ◌<◌, min}
use mathlib.Core.Bool.{Bool, true, false, cond, ◌||◌, false≢true}
use mathlib.Core.Logic.{⊎_elim}
use mathlib.Core.Path.{◌≡◌, refl, ap, ◌∙◌}
use native.Mathlib.Nat.{mul-le-mul_left, mul-le-mul_right, mul-le-mul, le_trans}
use native.Mathlib.Omega.{arith}
use lib.Dec.{leb, eqb}
use lib.Pow.{pow_mono}
use borrow.Author.Tests.{le-leb, leb-true, ltb-true, lt-ltb, eqb-true, eqb-false}
use Rattle.laws.proofs.Tests.{or_parts, cond-le}
use Rattle.laws.proofs.Sums.{sum_mono}
use Rattle.laws.specs.Places.{sum_of}
use Rattle.modes.proofs.CapRule.{cap-least}
use Rattle.modes.proofs.EdgeRule.{width_some}
use Rattle.modes.proofs.VectorRule.{step-le}
use Rattle.modes.specs.Caps.{cap_entry}
use Rattle.modes.specs.Edges.{edge, edges, width}
use Rattle.modes.specs.Fractions.{fraction, fractions}
use Rattle.modes.specs.Vectors.{vector_entry, vectors}
use Rattle.rate_spec.specs.Types.{AllocIn}
use Rattle.rate_spec.specs.Caps.{cap_of}
use Rattle.rate_spec.specs.Highest.{CapsHaveFloor, DecoderCapsHaveFloor, SixtyfourthsEnd, SixtyfourthsHighest, VectorEnds, NotHighest, VectorHighest}
use Rattle.rate_spec.specs.Highest.{over_between, over_vector}
use Rattle.rate_spec.specs.Reserves.{alloc_floor, budget, dual_reserve, intensity_reserve, skip_reserve, stereo_fits}
use Rattle.rate_spec.specs.Trials.{floored, halve, over, reached, sixtyfourths, trial_takes, vector}
use Rattle.rate_spec.specs.Vectors.{upper_bits, interpolated, lower_bits, slope, threshold, trim_down, trim_up, trimmed, vector_bits}
use Rattle.rate_spec.proofs.Highest.{halving_ends, highest}
use Rattle.rate_spec.proofs.Rounds.{floored-le}
use Rattle.rate_spec.proofs.Within.{halve-within, interpolated-zero, nothing-within}

module _ (a : AllocIn) where
  -- ---- a trial

  floored_rises : (x y : ℕ) → x ≤ y → floored a x ≤ floored a y
  unfolding floored
  floored_rises x y h = cond-le (leb (alloc_floor a) x) (λ e. rw (le-leb (alloc_floor a) y (omega (arith, leb-true (alloc_floor a) x e))) (omega arith))
      (λ e. omega arith)

  floored-most : (x : ℕ) → floored a x ≤ alloc_floor a
  unfolding floored
  floored-most x = cond-le (leb (alloc_floor a) x) (λ e. omega arith) (λ e. omega arith)

  module _ (x y : ℕ → ℕ) where
    -- y is no less in each of the bands from j up
    abbrev Rises : ℕ → ℕ → Type 0
    Rises j e = (i : ℕ) → j ≤ i → i < e → x i ≤ y i

    reached_stays : (n j : ℕ) → Rises j (j + n) → reached a x j n ≡ true → reached a y j n ≡ true
    unfolding reached
    reached_stays zero j h e = e
    reached_stays (suc n) j h e =
        ⊎_elim (λ p. rw (le-leb (threshold a j) (y j) (le_trans (leb-true (threshold a j) (x j) p) (h j (omega arith) (omega arith)))))
        (λ p. or_right (leb (threshold a j) (y j)) (reached_stays n (suc j) (λ i u v. h i (omega arith) (omega arith)) p))
        (or_parts (leb (threshold a j) (x j)) (reached a x (suc j) n) e)
      where
        or_right : (b : Bool) {c : Bool} → c ≡ true → (b || c) ≡ true
        or_right true e = refl
        or_right false e = e

    takes_rises : CapsHaveFloor a → (j : ℕ) → a.start ≤ j → j < a.end → Rises j a.end → trial_takes a x j ≤ trial_takes a y j
    unfolding trial_takes
    takes_rises c j l h r =
        go (reached a x j (a.end - j)) (reached a y j (a.end - j)) (reached_stays (a.end - j) j (λ i u v. r i u (omega arith)))
      where
        p : x j ≤ y j
        p = r j (omega arith) h

        go : (b d : Bool) → (b ≡ true → d ≡ true) → cond b (min (x j) (a.cap j)) (floored a (x j)) ≤ cond d (min (y j) (a.cap j)) (floored a (y j))
        go true true f = omega (arith, p)
        go true false f = absurd (false≢true (f refl))
        go false true f = omega (arith, p, floored-le a (x j), floored-most (x j), c j l h)
        go false false f = floored_rises (x j) (y j) p

    over_stays : CapsHaveFloor a → Rises a.start a.end → over a x ≡ true → over a y ≡ true
    unfolding over
    over_stays c r e =
        lt-ltb (budget a) (sum_of (trial_takes a y) a.start (a.end - a.start))
        (omega (
          arith,
          ltb-true (budget a) (sum_of (trial_takes a x) a.start (a.end - a.start)) e,
          sum_mono (trial_takes a x) (trial_takes a y) (a.end - a.start) a.start (λ i u v. takes_rises c i u (omega arith) (λ k w z. r k (omega arith) z)),
        ))

  -- ---- bits

  trimmed_rises : (x y j : ℕ) → x ≤ y → trimmed a x j ≤ trimmed a y j
  unfolding trimmed
  trimmed_rises x y j h = go (eqb x 0) (eqb y 0) refl refl
    where
      go : (b d : Bool) → eqb x 0 ≡ b → eqb y 0 ≡ d → cond b 0 (x + trim_up a j - trim_down a j) ≤ cond d 0 (y + trim_up a j - trim_down a j)
      go true d e g = omega arith
      go false true e g = absurd (eqb-false x 0 e (omega (arith, eqb-true y 0 g)))
      go false false e g = omega arith

  vector_rises : (v w j : ℕ) → v ≤ w → w ≤ 10 → j < 21 → vector_bits a v j ≤ vector_bits a w j
  unfolding vector_bits
  vector_rises v w j h g k =
      omega (arith, mul-le-mul_right (2 ^ a.LM) (mul-le-mul_left (a.C * width j) (step-le j k v w h g)))

  -- vector 0 takes no boost
  boost_rises : (v w n : ℕ) → v ≤ w → cond (eqb v 0) 0 n ≤ cond (eqb w 0) 0 n
  boost_rises v w n h = go (eqb v 0) (eqb w 0) refl refl
    where
      go : (b d : Bool) → eqb v 0 ≡ b → eqb w 0 ≡ d → cond b 0 n ≤ cond d 0 n
      go true d e g = omega arith
      go false true e g = absurd (eqb-false v 0 e (omega (arith, eqb-true w 0 g)))
      go false false e g = omega arith

  low_rises : (v w j : ℕ) → v ≤ w → w ≤ 10 → j < 21 → lower_bits a v j ≤ lower_bits a w j
  unfolding lower_bits
  low_rises v w j h g k =
      omega (arith, trimmed_rises (vector_bits a v j) (vector_bits a w j) j (vector_rises v w j h g k), boost_rises v w (a.offset j) h)

  between_rises : (v p q j : ℕ) → p ≤ q → interpolated a v p j ≤ interpolated a v q j
  unfolding interpolated
  between_rises v p q j h =
      omega (arith, mul-le-mul_right (upper_bits a (suc v) j - lower_bits a v j) h)

  -- ---- the searches

  -- the vector that is found
  pub vector-ends : VectorEnds a
  unfolding vector
  vector-ends o = (halving_ends (over_vector a) 4 0 11 (omega arith) (omega arith), halve-within (over_vector a) 4 0 11 (nothing-within a o))

  -- the 64ths that are found
  pub sixtyfourths-end : SixtyfourthsEnd a
  unfolding sixtyfourths
  sixtyfourths-end v e =
      (halving_ends (over_between a v) 6 0 64 (omega arith) (omega arith), halve-within (over_between a v) 6 0 64 (ap (over a) (interpolated-zero a v) ∙ e))

  -- where no cap is below the floor, no vector above it is within the budget
  pub vector-highest : VectorHighest a
  vector-highest o c =
      let r = vector-ends o in
      highest (over_vector a) 11
      (λ f g h k e. over_stays (lower_bits a f) (lower_bits a g) c (λ i u v. low_rises f g i h (omega arith) (omega (arith, o.end-le))) e)
      (vector a).0 r.0 r.1

  -- nor are more 64ths
  pub sixtyfourths-highest : SixtyfourthsHighest a
  sixtyfourths-highest c v e =
      let r = sixtyfourths-end v e in
      highest (over_between a v) 64 (λ f g h k t. over_stays (interpolated a v f) (interpolated a v g) c (λ i u w. between_rises v f g i h) t)
      (sixtyfourths a v) r.0 r.1

-- a cap is 25 eighth bits or more for each channel
pub decoder_caps : DecoderCapsHaveFloor
unfolding cap_of
decoder_caps a o e j l h =
    let k : j < 21 = omega (arith, o.end-le) in
    let n = width j * 2 ^ a.LM in
    let p : 101 * a.C ≤ (cap_entry a.C a.LM j + 64) * a.C = mul-le-mul_right a.C
    (omega (arith, cap-least a.C a.LM j o.C_low o.C_le (omega (arith, o.LM-le)) k)) in
    let q : 1 ≤ n = mul-le-mul {n₁ = 1} {m₁ = 1} (width_some j k) (pow_mono {i = 0} {j = a.LM} (omega arith)) in
    rw (e j l h) (omega (arith, mul-le-mul p q))

-- caps of 0
pub not-highest : NotHighest
unfolding edges edge width vectors vector_entry fractions fraction sum_of skip_reserve stereo_fits intensity_reserve dual_reserve budget threshold slope trim_up
    trim_down trimmed vector_bits lower_bits halve reached floored trial_takes over vector
not-highest = (refl, refl)
