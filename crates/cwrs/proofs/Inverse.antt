-- A vector and its number give each other back. Assumes nothing.
use Prim.Native.Nat.{ℕ, zero, suc, ◌+◌, ◌-◌, ◌≤◌, ◌<◌}
use mathlib.Core.Path.{◌≡◌, refl, ap, ◌∙◌}
use mathlib.Core.Bool.{Bool, true, false, cond, false≢true}
use mathlib.Core.List.{List, [], ◌∷◌}
use native.Mathlib.Numerals.{add-one}
use native.Mathlib.Omega.{arith}
use lib.IntN.{ℤ, pos, negsuc, nat_abs}
use lib.ListN.{length, take}
use lib.Seq.{length-take-le}
use borrow.Author.Tests.{le-leb, lt-leb, le-ltb}
use Rattle.laws.specs.Signs.{is_neg, with_sign}
use Rattle.laws.proofs.Tests.{by_le}
use Rattle.laws.proofs.Signs.{size-value, sign_value}
use Rattle.cwrs_counts.specs.Count.{U, Vn}
use Rattle.cwrs.specs.Word.{pulses, index, reach, word}
use Rattle.cwrs.specs.Promises.{Numbered}
use Rattle.cwrs_counts.proofs.Recurrence.{U_00, U_0s, U_ss, V_is, up1, up_le}
use Rattle.cwrs.proofs.Words.{pulses_nil, pulses_cons, index_nil, index_cons, index-pos, index-neg, index-lt}
use Rattle.cwrs.proofs.Back.{reach-le, reach-ok, reach-next, reach-stop, reach-down, First, first, word-zero, word-suc}

-- ---- one place more

-- the first place where p of the vectors stand before those with a negative one: b, q and j as the number i shows them
step : (n k i : ℕ) {b : Bool} {q j : ℕ} → First (suc n) k i b q j → word (suc n) k i ≡ with_sign b (k - j) ∷ word n j (q - U (suc n) j)
step n k i f = let a = f.value in let l = f.left in let r = f.rest in rw (word-suc, a, l) (cc)

-- the number i has no negative first place
positive : (n k i : ℕ) → i < U n (k + 1) → First n k i false i (reach n k i)
positive n k i h =
    let e = lt-leb (U n (k + 1)) i h in
    rw e at (first n k i {p = U n (k + 1)} {q = i} refl (rw e) refl)

-- the number i has one
negative : (n k i : ℕ) → U n (k + 1) ≤ i → First n k i true (i - U n (k + 1)) (reach n k (i - U n (k + 1)))
negative n k i h =
    let e = le-leb (U n (k + 1)) i h in
    rw e at (first n k i {p = U n (k + 1)} {q = i - U n (k + 1)} refl (rw e) refl)

-- ---- the vector of a number has it

-- by another name of the number
renumbered : {n k x i : ℕ} {v : List ℤ} → x ≡ i → Numbered n k x v → Numbered n k i v
renumbered e h = record { long = h.long; sum = h.sum; number = h.number ∙ e }

-- a zero has no sign
sign_of : (b : Bool) (a : ℕ) → (b ≡ true → 0 < a) → is_neg (with_sign b a) ≡ b
sign_of true a h = sign_value true a (h refl)
sign_of false a h = le-ltb a 0 (omega arith)

-- a first place before the vector of n places, j pulses and the number r; k pulses with it
join : (n j r k : ℕ) (b : Bool) (ys : List ℤ) → j ≤ k → (b ≡ true → j < k) → Numbered n j r ys
    → Numbered (suc n) k (cond b (U (suc n) (suc k)) 0 + U (suc n) j + r) (with_sign b (k - j) ∷ ys)
join n j r k b ys l g h =
    let e = h.long in
    let s = h.sum in
    let x = h.number in
    let t : nat_abs (with_sign b (k - j)) + pulses ys ≡ k = omega (arith, size-value b (k - j)) in
    let c = sign_of b (k - j) (λ q. omega (arith, g q)) in
    record {
      long = ap suc e;
      sum = pulses_cons (with_sign b (k - j)) ys ∙ t;
      number = index_cons (with_sign b (k - j)) ys ∙ rw (t, c, e, s, x);
    }

-- what is left of the number is below the count of what is left
row-rest : (n k q : ℕ) → q < U (suc n) (suc k) → q - U (suc n) (reach (suc n) k q) < Vn n (reach (suc n) k q)
row-rest n k q h =
    let j = reach (suc n) k q in
    omega (arith, reach-ok (suc n) k q (omega arith), reach-next (suc n) k q h, U_ss n j, V_is n j)

-- by induction on the places, by whether the first one is negative
pub word_right : (n k i : ℕ) → i < Vn n k → Numbered n k i (word n k i)
word_right zero zero i h =
    let z : 0 ≡ i = omega (arith, V_is 0 0, U_00, U_0s 0) in
    rw word-zero (record { long = refl; sum = pulses_nil; number = index_nil ∙ z })
word_right zero (suc k) i h = absurd (omega (arith, V_is 0 (suc k), U_0s k, U_0s (suc k)))
word_right (suc n) k i h =
    let s = ap (U (suc n)) (add-one k) in
    by_le (U (suc n) (k + 1)) i
    (λ l.
    let q = i - U (suc n) (k + 1) in
    let j = reach (suc n) k q in
    let ok = reach-ok (suc n) k q (omega arith) in
    let less : q < U (suc n) k = omega (arith, V_is (suc n) k) in
    let lj : j < k = by_le k j (λ g. absurd (omega (arith, up_le n g))) (λ g. g) in
    let w = word_right n j (q - U (suc n) j) (row-rest n k q (omega (arith, up1 n k))) in
    rw (step n k i (negative (suc n) k i l))
    (renumbered (omega arith) (join n j (q - U (suc n) j) k true (word n j (q - U (suc n) j)) (omega arith) (λ g. lj) w)))
    (λ l.
    let j = reach (suc n) k i in
    let ok = reach-ok (suc n) k i (omega arith) in
    let w = word_right n j (i - U (suc n) j) (row-rest n k i (omega arith)) in
    rw (step n k i (positive (suc n) k i l))
    (renumbered (omega arith)
    (join n j (i - U (suc n) j) k false (word n j (i - U (suc n) j)) (reach-le (suc n) k i) (λ g. absurd (false≢true g)) w)))

-- ---- a vector is that of its number

-- the counts rise, so only one place has i between itself and the next
reach_unique : (n k j i : ℕ) → j ≤ k → U (suc n) j ≤ i → i < U (suc n) (suc j) → reach (suc n) k i ≡ j
reach_unique n zero j i h l u = omega (arith, reach-le (suc n) 0 i)
reach_unique n (suc k) j i h l u =
    by_le (suc k) j
    (λ g.
    let e : suc k ≡ j = omega arith in
    rw e (reach-stop (suc n) j i l))
    (λ g.
    let e : suc k - 1 ≡ k = omega arith in
    (reach-down (suc n) (suc k) i (omega arith) (omega (arith, up_le n g))).1 ∙ rw e (reach_unique n k j i (omega arith) l u))

-- the number i of k pulses, a of them in the first place, where q is its number among those of its sign
rebuilt : (k i a : ℕ) (b : Bool) (q : ℕ) (ys : List ℤ) → First (suc (length ys)) k i b q (reach (suc (length ys)) k q) → k ≡ a + pulses ys
    → q ≡ U (suc (length ys)) (pulses ys) + index ys → word (length ys) (pulses ys) (index ys) ≡ ys → word (suc (length ys)) k i ≡ with_sign b a ∷ ys
rebuilt k i a b q ys f ek eq w =
    let n = length ys in
    let j = pulses ys in
    let u : reach (suc n) k q ≡ j = reach_unique n k j q (omega arith) (omega arith) (omega (arith, index-lt ys, V_is n j, U_ss n j)) in
    let d : k - j ≡ a = omega arith in
    let r : q - U (suc n) j ≡ index ys = omega arith in
    step n k i f ∙ rw (u, d, r, w)

-- place by place: the number of the rest is what is left of the number
pub word-index : (v : List ℤ) → word (length v) (pulses v) (index v) ≡ v
word-index [] = word-zero (pulses []) (index [])
word-index (pos a ∷ ys) =
    let n = length ys in
    let k = pulses (pos a ∷ ys) in
    let i = index (pos a ∷ ys) in
    let p = pulses_cons (pos a) ys in
    let e = index-pos a ys in
    let s = ap (U (suc n)) (add-one k) in
    let up : U (suc n) (suc (pulses ys)) ≤ U (suc n) (suc k) = up_le n (omega arith) in
    rebuilt k i a false i ys (positive (suc n) k i (omega (arith, index-lt ys, V_is n (pulses ys), U_ss n (pulses ys)))) p e (word-index ys)
word-index (negsuc a ∷ ys) =
    let n = length ys in
    let k = pulses (negsuc a ∷ ys) in
    let i = index (negsuc a ∷ ys) in
    let p = pulses_cons (negsuc a) ys in
    let c : suc (suc a + pulses ys) ≡ k + 1 = omega arith in
    let e : i ≡ U (suc n) (k + 1) + U (suc n) (pulses ys) + index ys = index-neg a ys ∙ rw c in
    rebuilt k i (suc a) true (i - U (suc n) (k + 1)) ys (negative (suc n) k i (omega arith)) p (omega arith) (word-index ys)

-- ---- the first n places of a vector of k pulses

-- as one that the coder can write
pub index_below : (n k : ℕ) (y : List ℤ) → n ≤ length y → pulses (take n y) ≡ k → index (take n y) < Vn n k
index_below n k y h e = let l = length-take-le n y h in rw (l, e) at (index-lt (take n y))
