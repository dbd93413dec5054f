-- A well-formed line has at most 390 bytes: a letter, 10 figures, 42 fields of 8 bytes at most, and 43 tabs. Assumes nothing.
use Rattle.std.specs.Prelude.{ℤ, Option, Some, None}
use Prim.Native.Nat.{ℕ, suc, ◌-◌, ◌*◌, ◌≤◌}
use mathlib.Core.Path.{◌≡◌, refl}
use mathlib.Core.Bool.{Bool, true, false, cond, ◌||◌, and-eq-true_iff, false≢true}
use mathlib.Core.List.{List, [], ◌∷◌, map}
use native.Mathlib.Omega.{arith}
use lib.Dec.{eqb}
use lib.IntN.{pos, negsuc, nat_abs}
use lib.ListN.{length, get_or, drop, length-drop}
use borrow.Author.Tests.{eqb-true}
use Rattle.laws.specs.Lists.{every}
use Rattle.laws.specs.Signs.{in_range, with_sign}
use Rattle.laws.proofs.Signs.{size-value}
use Rattle.laws.proofs.Tests.{cond-by, split_on}
use Rattle.entcode.specs.Refusal.{refusal}
use Rattle.text.specs.Fields.{fields_of, field_of}
use Rattle.text.specs.Numbers.{AtMost, digits_of, number_of, plus, minus, whole_of, kept_in}
use Rattle.text.proofs.Values.{number-most}
use Rattle.text.proofs.Lengths.{FewFigures, number-figures, fields_length, line-length, two-fields-length}
use Rattle.stream_saved.specs.Fields.{of_word, of_whole, letter_of, hex_energy, whole_energy, energy_of, not_wrong}
use Rattle.stream_saved.specs.Lines.{letter, next_read, energies_read, is_number, well_formed, refusal_line, answer_restored}
use Rattle.stream_saved.specs.Back.{LongIsMalformed}
use Rattle.stream_saved.proofs.Energies.{size-most}

-- ---- a field

-- the letter is one byte
letter-short : (f : List ℕ) → (eqb (letter_of f) 69 || eqb (letter_of f) 81) ≡ true → length f ≡ 1
letter-short f e = go (eqb (length f) 1) refl e
  where
    go : (t : Bool) → eqb (length f) 1 ≡ t → (eqb (cond t (get_or f 0 0) 0) 69 || eqb (cond t (get_or f 0 0) 0) 81) ≡ true → length f ≡ 1
    go true p e = eqb-true (length f) 1 p
    go false p e = absurd (false≢true e)

-- the next number has 10 figures at most
number_short : (n : Option ℕ) (m : ℕ) → AtMost 4294967295 n → FewFigures m n → is_number n ≡ true → m ≤ 10
number_short (Some v) m h f e = f 10 (omega arith) (omega arith)
number_short None m h f e = absurd (false≢true e)

-- a word has 8 digits
word-short : (f : List ℕ) → not_wrong (hex_energy f) ≡ true → length f ≤ 8
word-short f e = go (eqb (length f) 8) refl e
  where
    go : (t : Bool) → eqb (length f) 8 ≡ t → not_wrong (of_word (cond t (digits_of 16 4294967295 f) None)) ≡ true → length f ≤ 8
    go true p e = let z = eqb-true (length f) 8 p in omega arith
    go false p e = absurd (false≢true e)

-- a whole number at most 32,768 from 0 that n bytes write: 5 figures and a sign
abbrev Short : ℕ → Option ℤ → Type 0
Short n (Some z) = nat_abs z ≤ 32768 → n ≤ 6
Short n None = Unit {0}

-- fewer bytes too
short_of_fewer : (n m : ℕ) (w : Option ℤ) → n ≤ m → Short m w → Short n w
short_of_fewer n m (Some z) l h = λ g. let k = h g in omega arith
short_of_fewer n m None l h = tt

-- 5 figures without a sign
plus-short : (n : Option ℕ) (m : ℕ) → FewFigures m n → Short m (plus n)
plus-short (Some v) m f = λ h. let g = f 5 (omega arith) (omega arith) in omega arith
plus-short None m f = tt

-- 5 figures after a minus
minus-short : (n : Option ℕ) (m : ℕ) → FewFigures m n → Short (suc m) (minus n)
minus-short (Some v) m f = cond-by (Short (suc m)) (eqb v 0) (λ e. tt) (λ e. signed)
  where
    signed : nat_abs (with_sign true v) ≤ 32768 → suc m ≤ 6
    signed h = let z = size-value true v in let g = f 5 (omega arith) (omega arith) in omega arith
minus-short None m f = tt

-- by the first byte
whole-short : (s : List ℕ) → Short (length s) (whole_of s)
whole-short s =
    cond-by (Short (length s)) (eqb (get_or s 0 0) 45)
    (λ e.
    let l : length (drop 1 s) ≡ length s - 1 = length-drop 1 s in
    short_of_fewer (length s) (suc (length (drop 1 s))) (minus (number_of 2147483648 (drop 1 s))) (omega arith)
    (minus-short (number_of 2147483648 (drop 1 s)) (length (drop 1 s)) (number-figures 2147483648 (drop 1 s))))
    (λ e. plus-short (number_of 2147483647 s) (length s) (number-figures 2147483647 s))

-- a number outside the range of a Q field is wrong
kept-short : (w : Option ℤ) (m : ℕ) → Short m w → not_wrong (of_whole (kept_in (negsuc 32767) (pos 32767) w)) ≡ true → m ≤ 8
kept-short (Some z) m h e = go (in_range (negsuc 32767) (pos 32767) z) refl e
  where
    go : (t : Bool) → in_range (negsuc 32767) (pos 32767) z ≡ t → not_wrong (of_whole (cond t (Some z) None)) ≡ true → m ≤ 8
    go true p e = let g = h (size-most z p) in omega arith
    go false p e = absurd (false≢true e)
kept-short None m h e = absurd (false≢true e)

-- a field of either kind
energy-short : (l : ℕ) (f : List ℕ) → not_wrong (energy_of l f) ≡ true → length f ≤ 8
energy-short l f e = go (eqb l 69) e
  where
    go : (t : Bool) → not_wrong (cond t (hex_energy f) (whole_energy f)) ≡ true → length f ≤ 8
    go true e = word-short f e
    go false e = kept-short (whole_of f) (length f) (whole-short f) e

-- ---- the line

-- 8 bytes and a tab for each
energies-short : (l : ℕ) (fs : List (List ℕ)) → every not_wrong (map (energy_of l) fs) ≡ true → fields_length fs ≤ 9 * length fs
unfolding every fields_length
energies-short l [] e = omega arith
energies-short l (f ∷ fs) e =
    let p = (and-eq-true_iff (not_wrong (energy_of l f)) (every not_wrong (map (energy_of l) fs))).0 e in
    let a = energy-short l f p.0 in
    let b = energies-short l fs p.1 in
    omega arith

-- the parts together
pub well_short : (s : List ℕ) → well_formed s ≡ true → length s ≤ 390
unfolding well_formed
well_short s h =
    let p = (and-eq-true_iff (eqb (length (fields_of s)) 44) _).0 h in
    let q = (and-eq-true_iff (is_number (next_read s)) _).0 p.1 in
    let r = (and-eq-true_iff (eqb (letter s) 69 || eqb (letter s) 81) (every not_wrong (energies_read s))).0 q.1 in
    let n = eqb-true (length (fields_of s)) 44 p.0 in
    let a = letter-short (field_of s 0) r.0 in
    let b = number_short (next_read s) (length (field_of s 1)) (number-most 4294967295 (field_of s 1)) (number-figures 4294967295 (field_of s 1)) q.0 in
    let c = energies-short (letter s) (drop 2 (fields_of s)) r.1 in
    let d = length-drop 2 (fields_of s) in
    let e = line-length s in
    let f = two-fields-length (fields_of s) (omega arith) in
    omega arith

-- so a longer one is refused, whatever its bytes
pub long-malformed : LongIsMalformed
unfolding refusal_line refusal answer_restored
long-malformed s h = split_on (well_formed s) (λ e. absurd (let l = well_short s e in omega arith)) (λ e. rw e)
