-- Laws of a vector's pulses, its energy and its number, place by place from the last backwards. Assumes nothing.
use Prim.Native.Nat.{ℕ, zero, suc, ◌+◌, ◌-◌, ◌*◌, ◌≤◌, ◌<◌}
use mathlib.Core.Path.{◌≡◌, refl, sym, ap, ◌∙◌}
use mathlib.Core.Bool.{true, false, cond}
use mathlib.Core.List.{List, [], ◌∷◌}
use native.Mathlib.Nat.{le_refl, add-suc, suc-add, mul-le-mul_right, mul-add, mul-suc}
use native.Mathlib.Omega.{arith}
use lib.IntN.{ℤ, pos, negsuc, nat_abs}
use lib.ListN.{length, get_or, take, drop}
use lib.Seq.{slice, slice-cons, slice_empty, length-slice, length-take-le}
use borrow.Author.Tests.{le-ltb}
use Rattle.laws.specs.Signs.{is_neg}
use Rattle.cwrs_counts.specs.Count.{U, Vn}
use Rattle.cwrs.specs.Word.{pulses, index, energy}
use Rattle.cwrs_counts.proofs.Recurrence.{U_00, U_ss, V_is, up_le}

-- ---- one place before the others

-- no place
pub pulses_nil : pulses [] ≡ 0
unfolding pulses
pulses_nil = refl

-- a place more
pub pulses_cons : (y : ℤ) (ys : List ℤ) → pulses (y ∷ ys) ≡ nat_abs y + pulses ys
unfolding pulses
pulses_cons y ys = refl

-- no place
pub energy_nil : energy [] ≡ 0
unfolding energy
energy_nil = refl

-- a place more
pub energy_cons : (y : ℤ) (ys : List ℤ) → energy (y ∷ ys) ≡ nat_abs y * nat_abs y + energy ys
unfolding energy
energy_cons y ys = refl

-- no place
pub index_nil : index [] ≡ 0
unfolding index
index_nil = refl

-- a place more
pub index_cons : (y : ℤ) (ys : List ℤ)
    → index (y ∷ ys) ≡ cond (is_neg y) (U (suc (length ys)) (suc (nat_abs y + pulses ys))) 0 + U (suc (length ys)) (pulses ys) + index ys
unfolding index
index_cons y ys = refl

-- one that is not negative
pub index-pos : (a : ℕ) (ys : List ℤ) → index (pos a ∷ ys) ≡ U (suc (length ys)) (pulses ys) + index ys
index-pos a ys = index_cons (pos a) ys ∙ rw (le-ltb a 0 (omega arith)) (omega arith)

-- a negative one
pub index-neg : (a : ℕ) (ys : List ℤ)
    → index (negsuc a ∷ ys) ≡ U (suc (length ys)) (suc (suc a + pulses ys)) + U (suc (length ys)) (pulses ys) + index ys
index-neg a ys = index_cons (negsuc a) ys

-- ---- a vector's number is below the count

-- for the laws that take it as an argument
le_of_add : (a k : ℕ) → k ≤ a + k
le_of_add a k = omega arith

-- by induction: a row's last number is one below the next row's first
pub index-lt : (l : List ℤ) → index l < Vn (length l) (pulses l)
index-lt [] = omega (arith, index_nil, V_is 0 0, U_00, ap (Vn 0) pulses_nil)
index-lt (pos a ∷ ys) =
    let n = length ys in
    let k = pulses ys in
    omega (
      arith,
      index-pos a ys,
      index-lt ys,
      V_is n k,
      U_ss n k,
      V_is (suc n) (a + k),
      up_le n (le_of_add a (suc k)),
      ap (Vn (suc n)) (pulses_cons (pos a) ys),
      ap (U (suc n)) (add-suc a k),
    )
index-lt (negsuc a ∷ ys) =
    let n = length ys in
    let k = pulses ys in
    omega (
      arith,
      index-neg a ys,
      index-lt ys,
      V_is n k,
      U_ss n k,
      V_is (suc n) (suc a + k),
      up_le n (le_of_add a (suc k)),
      ap (Vn (suc n)) (pulses_cons (negsuc a) ys),
      ap (U (suc n)) (add-suc a k),
      ap (U (suc n)) (suc-add a k),
    )

-- ---- and falls with each place taken off, as the pulses do

-- the number
pub index-drop : (j : ℕ) (l : List ℤ) → index (drop j l) ≤ index l
index-drop zero l = le_refl (index l)
index-drop (suc j) [] = le_refl (index [])
index-drop (suc j) (y ∷ ys) = omega (arith, index-drop j ys, index_cons y ys)

-- the pulses
pub pulses-drop : (j : ℕ) (l : List ℤ) → pulses (drop j l) ≤ pulses l
pulses-drop zero l = le_refl (pulses l)
pulses-drop (suc j) [] = le_refl (pulses [])
pulses-drop (suc j) (y ∷ ys) = omega (arith, pulses-drop j ys, pulses_cons y ys)

-- ---- the places from j up to n, and one more

module _ (y : List ℤ) (n : ℕ) where
  -- no place: no pulses
  pub pulses-none : 0 ≡ pulses (slice n n y)
  pulses-none = sym (ap pulses (slice_empty n y) ∙ pulses_nil)

  -- no energy
  pub energy-none : 0 ≡ energy (slice n n y)
  energy-none = sym (ap energy (slice_empty n y) ∙ energy_nil)

  -- the number 0
  pub index-none : 0 ≡ index (slice n n y)
  index-none = sym (ap index (slice_empty n y) ∙ index_nil)

  module _ (j : ℕ) (h : 1 ≤ j) (g : j ≤ n) (l : n ≤ length y) where
    -- the place before j comes first
    one_more : slice (j - 1) n y ≡ get_or y (j - 1) (pos 0) ∷ slice j n y
    one_more =
        let e : suc (j - 1) ≡ j = omega arith in
        slice-cons (j - 1) n y (pos 0) (omega arith) l ∙ ap (λ (m : ℕ). get_or y (j - 1) (pos 0) ∷ slice m n y) e

    -- its pulses are added
    pub pulses-more : pulses (slice (j - 1) n y) ≡ nat_abs (get_or y (j - 1) (pos 0)) + pulses (slice j n y)
    pulses-more = ap pulses one_more ∙ pulses_cons _ _

    -- its square is added
    pub energy-more
        : energy (slice (j - 1) n y) ≡ nat_abs (get_or y (j - 1) (pos 0)) * nat_abs (get_or y (j - 1) (pos 0)) + energy (slice j n y)
    energy-more = ap energy one_more ∙ energy_cons _ _

    -- the vectors that stand before it are added
    index-more
        : index (slice (j - 1) n y)
        ≡ cond (is_neg (get_or y (j - 1) (pos 0))) (U (n - (j - 1)) (pulses (slice (j - 1) n y) + 1)) 0
        + U (n - (j - 1)) (pulses (slice j n y)) + index (slice j n y)
    index-more =
        let v = get_or y (j - 1) (pos 0) in
        let e : suc (length (slice j n y)) ≡ n - (j - 1) = omega (arith, length-slice j n y l) in
        let f : suc (nat_abs v + pulses (slice j n y)) ≡ pulses (slice (j - 1) n y) + 1 = omega (arith, pulses-more) in
        ap index one_more ∙ index_cons v (slice j n y)
        ∙ ap (λ (m : ℕ). cond (is_neg v) (U m (suc (nat_abs v + pulses (slice j n y)))) 0 + U m (pulses (slice j n y)) + index (slice j n y)) e
        ∙ ap (λ (m : ℕ). cond (is_neg v) (U (n - (j - 1)) m) 0 + U (n - (j - 1)) (pulses (slice j n y)) + index (slice j n y)) f

-- One more place in the loop that finds a number: the places from j on have k pulses and the number i, and s is the size of the place before them
pub record NextPlace (y : List ℤ) (n j k i s : ℕ) : Type 0 where
  pub more : pulses (slice (j - 1) n y) ≡ k + s
  pub few : k + s ≤ 128
  pub low : index (slice (j - 1) n y) < 4294967296
  pub least : U (n - (j - 1)) k + i ≤ index (slice (j - 1) n y)
  pub plain : is_neg (get_or y (j - 1) (pos 0)) ≡ false → index (slice (j - 1) n y) ≡ U (n - (j - 1)) k + i
  pub neg : is_neg (get_or y (j - 1) (pos 0)) ≡ true → index (slice (j - 1) n y) ≡ U (n - (j - 1)) (k + s + 1) + U (n - (j - 1)) k + i

-- from what the loop keeps
pub next_place : (y : List ℤ) (n j k i s : ℕ) → 1 ≤ j → j ≤ n → n ≤ length y → pulses (take n y) ≤ 128 → Vn n (pulses (take n y)) < 4294967296
    → k ≡ pulses (slice j n y) → i ≡ index (slice j n y) → s ≡ nat_abs (get_or y (j - 1) (pos 0)) → NextPlace y n j k i s
next_place y n j k i s h g l a b ek ei es =
    let e : pulses (slice (j - 1) n y) ≡ k + s = omega (arith, pulses-more y n j h g l) in
    let d : index (slice (j - 1) n y) ≡ cond (is_neg (get_or y (j - 1) (pos 0))) (U (n - (j - 1)) (k + s + 1)) 0 + U (n - (j - 1)) k + i =
    index-more y n j h g l ∙ rw (e, ← ek, ← ei)
    in
    record {
      more = e;
      few = omega (arith, pulses-drop (j - 1) (take n y));
      low =
          omega (
            arith,
            index-drop (j - 1) (take n y),
            index-lt (take n y),
            ap (λ (p : ℕ). Vn p (pulses (take n y))) (length-take-le n y l),
          );
      least = omega arith;
      plain = λ q. d ∙ rw q (omega arith);
      neg = λ q. d ∙ rw q;
    }

-- ---- the energy

-- where a vector has at most m pulses, each place adds at most m for each of its own
pub energy-le : (m : ℕ) (v : List ℤ) → pulses v ≤ m → energy v ≤ m * pulses v
energy-le m [] h = omega (arith, energy_nil)
energy-le m (y ∷ ys) h =
    let p = pulses_cons y ys in
    let a : nat_abs y ≤ m = omega arith in
    omega (
      arith,
      energy_cons y ys,
      energy-le m ys (omega arith),
      mul-le-mul_right (nat_abs y) a,
      ap (λ (x : ℕ). m * x) p,
      mul-add m (nat_abs y) (pulses ys),
    )

-- a vector with a pulse has some
pub energy-pos : (v : List ℤ) → 1 ≤ pulses v → 1 ≤ energy v
energy-pos [] h = omega (arith, pulses_nil)
energy-pos (y ∷ ys) h = by_size (nat_abs y) refl (λ q. energy-pos ys q)
  where
    by_size : (a : ℕ) → nat_abs y ≡ a → (1 ≤ pulses ys → 1 ≤ energy ys) → 1 ≤ energy (y ∷ ys)
    by_size zero e r = omega (arith, energy_cons y ys, pulses_cons y ys, r (omega (arith, pulses_cons y ys)))
    by_size (suc a) e r = omega (arith, energy_cons y ys, ap (λ (x : ℕ). x * x) e, mul-suc (suc a) a)
