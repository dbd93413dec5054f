-- Laws of the way back from a number to its vector. Assumes nothing.
use Prim.Native.Nat.{ℕ, zero, suc, ◌+◌, ◌-◌, ◌≤◌, ◌<◌}
use mathlib.Core.Path.{◌≡◌, refl, sym, ap, ◌∙◌}
use mathlib.Core.Bool.{Bool, true, false, cond, ◌&&◌, false≢true}
use mathlib.Core.List.{List, [], ◌∷◌, ◌++◌, append_assoc}
use native.Mathlib.Nat.{le_refl, le_trans, not-suc-le-zero}
use native.Mathlib.Numerals.{add-one}
use native.Mathlib.Omega.{arith}
use lib.Dec.{leb, ltb}
use lib.IntN.{ℤ, pos, nat_abs}
use lib.ListN.{length, take, drop, set, replicate, length-take, length-drop}
use lib.Seq.{take-suc-set, take_at}
use borrow.Author.Tests.{le-leb, lt-leb, leb-true, leb-false, lt-ltb}
use Rattle.std.proofs.lemmas.List.{drop-drop}
use Rattle.laws.specs.Signs.{with_sign}
use Rattle.laws.proofs.Tests.{split_on, cond-le, by_le}
use Rattle.laws.proofs.Signs.{size-value}
use Rattle.cwrs_counts.specs.Count.{U}
use Rattle.cwrs.specs.Word.{pulses, head_neg, sign_index, reach, tail_pulses, head_pulse, tail_index, word}
use Rattle.cwrs_counts.proofs.Recurrence.{U_s0}
use Rattle.cwrs.proofs.Words.{pulses_nil, pulses_cons}

-- ---- the greatest j up to k with U n j at most i

-- where the count at j is at most i, j is it
pub reach-stop : (n j i : ℕ) → U n j ≤ i → reach n j i ≡ j
unfolding reach
reach-stop n zero i h = refl
reach-stop n (suc j) i h = rw (le-leb (U n (suc j)) i h)

-- else it is further down
pub reach-down : (n j i : ℕ) → 1 ≤ n → i < U n j → (1 ≤ j) × (reach n j i ≡ reach n (j - 1) i)
unfolding reach
reach-down zero j i g h = absurd (not-suc-le-zero g)
reach-down (suc n) zero i g h = absurd (omega (arith, U_s0 n))
reach-down (suc n) (suc j) i g h =
    let e : suc j - 1 ≡ j = omega arith in
    (omega arith, simp (lt-leb (U (suc n) (suc j)) i h, e))

-- it is at most k
pub reach-le : (n k i : ℕ) → reach n k i ≤ k
unfolding reach
reach-le n zero i = le_refl 0
reach-le n (suc k) i = cond-le (leb (U n (suc k)) i) (λ e. le_refl (suc k)) (λ e. omega (arith, reach-le n k i))

-- for n from 1 on: the count there is at most i
pub reach-ok : (n k i : ℕ) → 1 ≤ n → U n (reach n k i) ≤ i
unfolding reach
reach-ok zero k i g = absurd (not-suc-le-zero g)
reach-ok (suc n) zero i g = omega (arith, U_s0 n)
reach-ok (suc n) (suc k) i g =
    split_on (leb (U (suc n) (suc k)) i) (λ e. simp e (leb-true (U (suc n) (suc k)) i e)) (λ e. simp e (reach-ok (suc n) k i g))

-- and the next one is above it
pub reach-next : (n k i : ℕ) → i < U n (suc k) → i < U n (suc (reach n k i))
unfolding reach
reach-next n zero i h = h
reach-next n (suc k) i h =
    split_on (leb (U n (suc k)) i) (λ e. simp e h) (λ e. simp e (reach-next n k i (leb-false (U n (suc k)) i e)))

-- ---- the first place, as the code finds it: p of the vectors stand before those with a negative first place

-- the first place by the code's three numbers: whether it is negative, the number among those of its sign, the pulses after it
pub record First (n k i : ℕ) (b : Bool) (q j : ℕ) : Type 0 where
  pub sign : b ≡ head_neg n k i
  pub number : q ≡ sign_index n k i
  pub left : j ≡ tail_pulses n k i
  pub value : with_sign b (k - j) ≡ head_pulse n k i
  pub rest : q - U n j ≡ tail_index n k i

-- the code's numbers are these
pub first : (n k i : ℕ) {p q j : ℕ} → p ≡ U n (k + 1) → q ≡ cond (leb p i) (i - p) i → j ≡ reach n k q → First n k i (leb p i) q j
unfolding head_neg sign_index tail_pulses head_pulse tail_index
first n k i {p} {q} {j} ep eq ej =
    let s : p ≡ U n (suc k) = ep ∙ ap (U n) (add-one k) in
    let a : leb p i ≡ head_neg n k i = ap (λ (x : ℕ). leb x i) s in
    let b : q ≡ sign_index n k i = eq ∙ ap (λ (x : ℕ). cond (leb x i) (i - x) i) s in
    let c : j ≡ tail_pulses n k i = ej ∙ ap (reach n k) b in
    record { sign = a; number = b; left = c; value = rw (a, c); rest = rw (b, c) }

-- the rest has no more pulses than all
pub tail_pulses-le : (n k i : ℕ) → tail_pulses n k i ≤ k
unfolding tail_pulses
tail_pulses-le n k i = reach-le n k (sign_index n k i)

-- ---- the word, place by place

-- no place
pub word-zero : (k i : ℕ) → word 0 k i ≡ []
unfolding word
word-zero k i = refl

-- a place more
pub word-suc : (n k i : ℕ) → word (suc n) k i ≡ head_pulse (suc n) k i ∷ word n (tail_pulses (suc n) k i) (tail_index (suc n) k i)
unfolding word
word-suc n k i = refl

-- n places
pub word-length : (n k i : ℕ) → length (word n k i) ≡ n
word-length zero k i = rw word-zero
word-length (suc n) k i = rw word-suc (ap suc (word-length n (tail_pulses (suc n) k i) (tail_index (suc n) k i)))

-- they are the first n of a longer list
pub word_first : (n k i : ℕ) (l : List ℤ) → take n (word n k i ++ l) ≡ word n k i
word_first n k i l = take_at (word n k i) l n (word-length n k i)

-- the first place has the pulses that the rest has not
pub head_pulse-size : (n k i : ℕ) → nat_abs (head_pulse n k i) ≡ k - tail_pulses n k i
unfolding head_pulse
head_pulse-size n k i = size-value (head_neg n k i) (k - tail_pulses n k i)

-- whatever the number, there are never more than k pulses
pub word-pulses-le : (n k i : ℕ) → pulses (word n k i) ≤ k
word-pulses-le zero k i = rw (word-zero, pulses_nil) (omega arith)
word-pulses-le (suc n) k i =
    rw (word-suc, pulses_cons)
    (omega (
      arith,
      head_pulse-size (suc n) k i,
      tail_pulses-le (suc n) k i,
      word-pulses-le n (tail_pulses (suc n) k i) (tail_index (suc n) k i),
    ))

-- so the worker's bound on the pulses holds of what was written
pub first-pulses-le : (n k i m : ℕ) (l : List ℤ) {y : List ℤ} → y ≡ word n k i ++ l → k ≤ m → pulses (take n y) ≤ m
first-pulses-le n k i m l e h = rw (e, word_first) (le_trans (word-pulses-le n k i) h)

-- no pulses: zeros, whatever the number
value-zero : (b : Bool) → with_sign b 0 ≡ pos 0
value-zero true = refl
value-zero false = refl

-- by induction on the places
pub word_none : (n i : ℕ) → word n 0 i ≡ replicate n (pos 0)
unfolding head_pulse
word_none zero i = word-zero 0 i
word_none (suc n) i =
    let t : tail_pulses (suc n) 0 i ≡ 0 = omega (arith, tail_pulses-le (suc n) 0 i) in
    word-suc n 0 i ∙ rw (t, value-zero) (ap (λ (l : List ℤ). pos 0 ∷ l) (word_none n (tail_index (suc n) 0 i)))

-- ---- a step of the decoder's loop: y is written up to j, and what is left to write are n - j places with k pulses and the number i

-- the next place is written
pub written : (y W : List ℤ) (j n k i : ℕ) (v : ℤ) (k' i' : ℕ) → j < n → j < length y → v ≡ head_pulse (n - j) k i → k' ≡ tail_pulses (n - j) k i
    → i' ≡ tail_index (n - j) k i → take j y ++ word (n - j) k i ≡ W → take (j + 1) (set y j v) ++ word (n - (j + 1)) k' i' ≡ W
written y W j n k i v k' i' h l ev ek ei w =
    let e : n - j ≡ suc (n - (j + 1)) = omega arith in
    let s : word (n - j) k i ≡ v ∷ word (n - (j + 1)) k' i' = rw (ev, ek, ei, e) (word-suc (n - (j + 1)) k i) in
    rw (add-one, take-suc-set y j v l, append_assoc, ← add-one) (ap (λ (t : List ℤ). take j y ++ t) (sym s) ∙ w)

-- what the loop leaves is silent: there is no place or no pulse
pub silent : (j n k i : ℕ) → (ltb j n && ltb 0 k) ≡ false → word (n - j) k i ≡ replicate (n - j) (pos 0)
silent j n zero i t = word_none (n - j) i
silent j n (suc k) i t =
    by_le n j (λ h. let z : n - j ≡ 0 = omega arith in rw (z, word-zero))
    (λ h. absurd (false≢true (sym t ∙ rw (lt-ltb j n h, lt-ltb 0 (suc k) (omega arith)))))

-- then zeros stand in the places from j up to n, and the others stay
pub silenced : (y z l W : List ℤ) (j n k i : ℕ) → j ≤ n → n ≤ length y → (ltb j n && ltb 0 k) ≡ false
    → l ≡ replicate (length (take (n - j) (drop j y))) (pos 0) → take j y ++ word (n - j) k i ≡ W → drop n y ≡ z
    → take j y ++ (l ++ drop (n - j) (drop j y)) ≡ W ++ z
silenced y z l W j n k i h g t p w f =
    let m : length (take (n - j) (drop j y)) ≡ n - j = simp (length-take, length-drop) (omega arith) in
    let q : word (n - j) k i ≡ l = silent j n k i t ∙ sym (p ∙ ap (λ (x : ℕ). replicate x (pos 0)) m) in
    let d : drop (n - j) (drop j y) ≡ z = drop-drop (n - j) j y ∙ ap (λ (x : ℕ). drop x y) (omega arith) ∙ f in
    rw (d, ← w, q) (sym (append_assoc (take j y) l z))
