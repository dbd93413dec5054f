-- The vector that is read: its length, its pulses and its energy. Assumes nothing.
use Prim.Native.Nat.{ℕ, zero, suc, ◌≤◌, ◌<◌}
use mathlib.Core.Path.{◌≡◌, sym, ◌∙◌}
use mathlib.Core.List.{List, [], ◌∷◌, ◌++◌}
use native.Mathlib.Omega.{arith}
use lib.IntN.{ℤ, pos, nat_abs}
use lib.ListN.{length, get_or, take}
use Rattle.entdec.specs.declared.Reader.{Reader}
use Rattle.entdec.proofs.Values.{uint-value}
use Rattle.cwrs_counts.specs.Count.{Vn}
use Rattle.cwrs.specs.Word.{pulses, energy}
use Rattle.cwrs.specs.declared.Found.{Found}
use Rattle.cwrs.specs.Answer.{read_index, read_word, found_of}
use Rattle.cwrs_counts.proofs.Recurrence.{V_four}
use Rattle.cwrs.proofs.Words.{pulses_cons, energy-pos, energy-le}
use Rattle.cwrs.proofs.Back.{word_first}
use Rattle.cwrs.proofs.Inverse.{word_right}

-- no place has more than all
pub place-le : (v : List ℤ) (i : ℕ) → nat_abs (get_or v i (pos 0)) ≤ pulses v
place-le [] i = omega arith
place-le (y ∷ v) zero = omega (arith, pulses_cons y v)
place-le (y ∷ v) (suc i) = omega (arith, pulses_cons y v, place-le v i)

-- what a shape asks of its vector: its places, few pulses, and an energy that is not 0
pub record Vector (n : ℕ) (v : List ℤ) : Type 0 where
  pub long : length v ≡ n
  pub few : pulses v ≤ 128
  pub some : 0 < energy v
  pub most : energy v ≤ 16384

-- a vector that is read has that
pub read_vector : (n k : ℕ) (s : List ℕ) (d : Reader) → 2 ≤ n → 1 ≤ k → k ≤ 128 → Vector n (read_word n k s d)
read_vector n k s d a b h =
    let v = read_word n k s d in
    let r = word_right n k (read_index n k s d).value (uint-value (Vn n k) s d (omega (arith, V_four n k a b))) in
    let e = r.sum in
    let l : pulses v ≤ 128 = omega arith in
    record { long = r.long; few = l; some = energy-pos v (omega arith); most = omega (arith, energy-le 128 v l) }

-- ---- as the code finds it: y is the 176 places after the vector was read into the first of them, and f what was found

module _ (n k : ℕ) (s : List ℕ) (d : Reader) (rest : List ℤ) {y : List ℤ} {f : Found} (found : f ≡ found_of n k s d) (is : y ≡ read_word n k s d ++ rest) where
  -- the first places are the vector
  pub first-is : take n y ≡ read_word n k s d
  first-is = rw (is, word_first)

  -- what the shape asks, of l lent places
  pub can_shape : {l : ℕ} → Vector n (read_word n k s d) → l ≡ n
      → (l ≡ length (take n y)) × ((i : ℕ) → nat_abs (get_or (take n y) i (pos 0)) ≤ 16777216) × (0 < f.energy)
  can_shape v h = rw (first-is, found) (h ∙ sym v.long, λ i. omega (arith, place-le (read_word n k s d) i, v.few), v.some)
