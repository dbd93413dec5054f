-- The energies of a line, field by field, and what a line answers. Assumes nothing.
use Rattle.std.specs.Prelude.{Option, Some, None}
use Prim.Native.Nat.{ℕ, zero, suc, ◌+◌, ◌-◌, ◌≤◌, ◌<◌}
use mathlib.Core.Path.{◌≡◌, refl, sym, ap, ◌∙◌}
use mathlib.Core.Bool.{true, ◌&&◌, ◌||◌, and-true, and_assoc, and-eq-true_iff}
use mathlib.Core.List.{List, [], ◌∷◌, ◌++◌, map, append-nil}
use native.Mathlib.Numerals.{add-one}
use native.Mathlib.Omega.{arith}
use lib.Dec.{leb, eqb}
use lib.IntN.{ℤ, pos, negsuc, nat_abs}
use lib.Ieee.{Float}
use lib.ListN.{length, get_or, drop, set, length-drop, length-map, drop_of_length-le, get_or-map}
use lib.Seq.{get_or-drop, sets, sets-eq}
use borrow.Author.Tests.{eq-eqb, ne_eqb, leb-true}
use Rattle.laws.specs.Lists.{every}
use Rattle.laws.specs.Signs.{in_range}
use Rattle.laws.proofs.Lists.{drop-next}
use Rattle.laws.proofs.Tests.{cond-by}
use Rattle.entcode.specs.Refusal.{refusal}
use Rattle.std.specs.List.{enumerate_from, slice_split}
use Rattle.std.proofs.lemmas.List.FromFn.{length-enumerate_from, get_or-enumerate_from}
use Rattle.text.proofs.FieldLaws.{separated_is}
use Rattle.text.specs.Fields.{fields_of, field_of}
use Rattle.text.specs.Numbers.{kept_in}
use Rattle.stream.specs.declared.Record.{Record}
use Rattle.stream.specs.Frame.{fresh}
use Rattle.stream_saved.specs.declared.Energy.{Energy}
use Rattle.stream_saved.specs.declared.Fields.{Fields}
use Rattle.stream_saved.specs.Fields.{Small, energy_of, not_wrong, not_wild, float_of}
use Rattle.stream_saved.specs.Lines.{letter, next_read, well_formed, refusal_line, Restored, refused_as, answer_restored, restoring}
use Rattle.stream_saved.specs.Loop.{none_read, read_field, read_from, refusal_fields, record_of_fields}

-- ---- a field of a Q line

-- a number of the range of a Q field is at most 32,768 from 0
pub size-most : (z : ℤ) → in_range (negsuc 32767) (pos 32767) z ≡ true → nat_abs z ≤ 32768
size-most (pos n) e = let h = leb-true n 32767 ((and-eq-true_iff true (leb n 32767)).0 e).1 in omega arith
size-most (negsuc n) e = let h = leb-true n 32767 ((and-eq-true_iff (leb n 32767) true).0 e).0 in omega arith

-- so is a number that was read and kept
pub kept_small : (w : Option ℤ) → Small (kept_in (negsuc 32767) (pos 32767) w)
kept_small (Some z) = cond-by Small (in_range (negsuc 32767) (pos 32767) z) (size-most z) (λ e. tt)
kept_small None = tt

-- ---- a field put to the others

-- ---- the loop over the fields

-- one field more
read_step : (f : Fields) (k : ℕ) (v : Energy) (vs : List Energy) → read_from f k (v ∷ vs) ≡ read_from (read_field f k v) (k + 1) vs
unfolding read_from
read_step f k v vs = ap (λ (n : ℕ). read_from (read_field f k v) n vs) (sym (add-one k))

-- after the last field
pub read_none : (f : Fields) (k : ℕ) (vs : List Energy) → length vs ≤ k → f ≡ read_from f k (drop k vs)
unfolding read_from
read_none f k vs h = rw (drop_of_length-le vs h)

-- what the fields after the next number say in a line with this letter
abbrev pub said : List ℕ → ℕ → List Energy
said s l = map (energy_of l) (drop 2 (fields_of s))

module _ (s : List ℕ) (l : ℕ) (h : length (fields_of s) ≡ 44) where
  -- a line of 44 fields has 42 energies
  pub said-length : length (said s l) ≡ 42
  said-length = length-map (drop 2 (fields_of s)) (energy_of l) ∙ length-drop 2 (fields_of s) ∙ ap (λ (n : ℕ). n - 2) h

  -- what field k of the energies says
  said_at : (k : ℕ) → get_or (said s l) k (energy_of l []) ≡ energy_of l (field_of s (k + 2))
  said_at k =
      let e : 2 + k ≡ k + 2 = omega arith in
      get_or-map (energy_of l) (drop 2 (fields_of s)) k [] ∙ ap (energy_of l) (get_or-drop 2 (fields_of s) k [] ∙ ap (λ (n : ℕ). get_or (fields_of s) n []) e)

  -- one field of the loop
  pub read_next : (f : Fields) (k : ℕ) {v : Energy} → k < 42 → v ≡ energy_of l (field_of s (k + 2))
      → read_from (read_field f k v) (k + 1) (drop (k + 1) (said s l)) ≡ read_from f k (drop k (said s l))
  read_next f k {v} g e =
      let n = said-length in
      let d : drop k (said s l) ≡ v ∷ drop (k + 1) (said s l) =
      drop-next (said s l) k (energy_of l []) (omega arith) ∙ ap (λ (x : Energy). x ∷ drop (k + 1) (said s l)) (said_at k ∙ sym e) in
      sym (ap (read_from f k) d ∙ read_step f k v (drop (k + 1) (said s l)))

-- the fields after the next number, each with its place among them, as the chain gives them
abbrev pub numbered : List ℕ → List (ℕ × List ℕ)
numbered s = enumerate_from 0 (drop 2 (slice_split (λ b. eqb b 9) s))

module _ (s : List ℕ) (h : length (fields_of s) ≡ 44) where
  -- there are 42
  pub numbered-length : length (numbered s) ≡ 42
  numbered-length =
      length-enumerate_from 0 (drop 2 (slice_split (λ b. eqb b 9) s)) ∙ length-drop 2 (slice_split (λ b. eqb b 9) s)
      ∙ ap (λ (fs : List (List ℕ)). length fs - 2) (separated_is 9 s) ∙ ap (λ (n : ℕ). n - 2) h

  -- one turn of the loop: which field it has
  pub field_in_turn : (i k : ℕ) (t : List ℕ) → i < length (numbered s) → (k, t) ≡ get_or (numbered s) i (k, t) → (i < 42) × (k ≡ i) × (t ≡ field_of s (i + 2))
  field_in_turn i k t g e =
      let n = numbered-length in
      let parts : List (List ℕ) = slice_split (λ b. eqb b 9) s in
      let m : length (drop 2 parts) ≡ length (numbered s) = sym (length-enumerate_from 0 (drop 2 parts)) in
      let p : ◌≡◌ {A = ℕ × List ℕ} (k, t) (0 + i, get_or (drop 2 parts) i t) = e ∙ get_or-enumerate_from 0 (drop 2 parts) i (k, t) (omega arith) in
      let a : k ≡ 0 + i = ap (λ (x : ℕ × List ℕ). x.0) p in
      let b : 2 + i ≡ i + 2 = omega arith in
      let c : i < 42 = omega (arith, g, n) in
      let q : k ≡ i = omega (arith, a) in (
        c,
        q,
        ap (λ (x : ℕ × List ℕ). x.1) p ∙ get_or-same (drop 2 parts) i t [] (omega arith) ∙ get_or-drop 2 parts i []
            ∙ ap (λ (fs : List (List ℕ)). get_or fs (2 + i) []) (separated_is 9 s) ∙ ap (λ (j : ℕ). field_of s j) b,
      )
    where
      get_or-same : (l : List (List ℕ)) (j : ℕ) (x y : List ℕ) → j < length l → get_or l j x ≡ get_or l j y
      get_or-same [] j x y h = absurd (omega arith)
      get_or-same (z ∷ l) zero x y h = refl
      get_or-same (z ∷ l) (suc j) x y h = get_or-same l j x y (omega arith)

-- ---- what the loop gives

-- all fields at once: both marks, and the energies stored one after the other
read_all : (vs : List Energy) (f : Fields) (k : ℕ)
    → read_from f k vs ≡ record { good = f.good && every not_wrong vs; tame = f.tame && every not_wild vs; e = sets f.e k (map float_of vs) }
unfolding read_from every
read_all [] f k = λ i. record { good = sym (and-true f.good) i; tame = sym (and-true f.tame) i; e = f.e }
read_all (v ∷ vs) f k =
    read_all vs (read_field f k v) (suc k)
    ∙ (λ i. record {
      good = and_assoc f.good (not_wrong v) (every not_wrong vs) i;
      tame = and_assoc f.tame (not_wild v) (every not_wild vs) i;
      e = sets (set f.e k (float_of v)) (suc k) (map float_of vs);
    })

-- as many values as places: the list is the values
sets-all : {A : Type 0} (l vs : List A) → length l ≡ length vs → sets l 0 vs ≡ vs
sets-all {A} l vs h =
    let d : drop (0 + length vs) l ≡ [] = drop_of_length-le l {i = 0 + length vs} (omega arith) in
    sets-eq vs l 0 (omega arith) ∙ ap (λ (q : List A). vs ++ q) d ∙ append-nil vs

-- as many energies are stored as there are places
fresh-length : length fresh.energies ≡ 42
unfolding fresh
fresh-length = refl

-- what is read where these are all the fields
abbrev read_as : List Energy → List Float → Fields
read_as vs q = record { good = every not_wrong vs; tame = every not_wild vs; e = q }

-- the fields of a line of 44
pub read-line : (s : List ℕ) (l : ℕ) → length (fields_of s) ≡ 44 → {f : Fields} → f ≡ read_from none_read 0 (said s l)
    → f ≡ read_as (said s l) (map float_of (said s l))
read-line s l h p =
    let n : length fresh.energies ≡ length (map float_of (said s l)) = fresh-length ∙ sym (length-map (said s l) float_of ∙ said-length s l h) in
    p ∙ read_all (said s l) none_read 0
    ∙ ap (read_as (said s l)) (sets-all fresh.energies (map float_of (said s l)) n)

-- ---- what a line answers

-- a number that is not 0 answers that refusal
refused-by : (no : ℕ) (r : Record) → (no ≡ 0 → ⊥) → refused_as no ≡ answer_restored no r
unfolding answer_restored
refused-by zero r h = absurd (h refl)
refused-by (suc n) r h = refl

module _ (n : Option ℕ) (l : ℕ) (f : Fields) where
  -- the number of the refusal, where the next number was read
  abbrev coded : ℕ
  coded = refusal true ((eqb l 69 || eqb l 81) && f.good) f.tame 0 true true

  -- no refusal: the record
  pub answer-record : (v : ℕ) {no : ℕ} → n ≡ Some v → no ≡ coded → no ≡ 0
      → ◌≡◌ {A = Restored} (record { code = 0; rec = record { energies = f.e; next = v } }) (answer_restored (refusal_fields n l f) (record_of_fields n f))
  unfolding answer_restored
  answer-record v p q z = let e : coded ≡ 0 = sym q ∙ z in rw (p, e)

  -- a refusal of a line whose next number was read
  pub answer-refused : (v : ℕ) {no : ℕ} {y : Restored} → n ≡ Some v → no ≡ coded → (no ≡ 0 → ⊥) → y ≡ refused_as no
      → y ≡ answer_restored (refusal_fields n l f) (record_of_fields n f)
  answer-refused v p q z e = rw (p, sym q) (e ∙ refused-by _ _ z)

  -- a next number that was not read is 1
  pub answer_bad : {y : Restored} → n ≡ None → y ≡ refused_as 1 → y ≡ answer_restored (refusal_fields n l f) (record_of_fields n f)
  unfolding refusal answer_restored
  answer_bad p e = rw p e

-- a line of 44 fields answers by its next number, its letter and its energies
pub line-answers : (s : List ℕ) {n : Option ℕ} {l : ℕ} {f : Fields} {r : Restored} → length (fields_of s) ≡ 44 → n ≡ next_read s → l ≡ letter s
    → f ≡ read_from none_read 0 (said s l) → r ≡ answer_restored (refusal_fields n l f) (record_of_fields n f) → r ≡ restoring s
unfolding well_formed refusal_line
line-answers s {n} {l} {f} {r} h p q e a = rw (a, read-line s l h e, p, q, eq-eqb (length (fields_of s)) 44 h)

-- a line with another count of fields is 1
pub malformed : (s : List ℕ) → (length (fields_of s) ≡ 44 → ⊥) → refused_as 1 ≡ restoring s
unfolding well_formed refusal_line refusal answer_restored
malformed s h = rw (ne_eqb (length (fields_of s)) 44 h)
