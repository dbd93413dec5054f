-- A line that was saved is restored. Assumes nothing.
use Rattle.std.specs.Prelude.{Some}
use Prim.Native.Nat.{ℕ, suc}
use mathlib.Core.Path.{◌≡◌, refl, ap, ◌∙◌}
use mathlib.Core.Bool.{Bool, true, and-eq-true_iff}
use mathlib.Core.List.{List, [], ◌∷◌, map}
use native.Mathlib.Omega.{arith}
use lib.Dec.{T}
use lib.Ieee.{Float, binary32, fits, to_bits}
use lib.Ieee.Bits.{of_bits-to_bits, to_bits-lt}
use lib.Ieee.Scale.{finite}
use lib.ListN.{length, length-map, drop, get_or}
use borrow.Author.Tests.{eq-eqb}
use Rattle.laws.specs.Lists.{every}
use Rattle.entcode.specs.Refusal.{refusal}
use Rattle.text.specs.Fields.{fields_of, no_tab}
use Rattle.text.specs.Numbers.{number_of}
use Rattle.text.specs.Written.{decimal_of}
use Rattle.text.proofs.Back.{decimal_back, decimal_no_tab, word_back, word_no_tab}
use Rattle.text.proofs.FieldLaws.{fields_made}
use Rattle.stream.specs.declared.Record.{Record}
use Rattle.stream.specs.Frame.{framed}
use Rattle.stream.specs.History.{finite32}
use Rattle.stream_saved.specs.declared.Energy.TheVariants.{Is}
use Rattle.stream_saved.specs.Fields.{energy_text, hex_energy, letter_of, energy_of, not_wrong, not_wild, float_of}
use Rattle.stream_saved.specs.Lines.{saved_line, letter, next_read, energies_read, well_formed, refusal_line, Restored, answer_restored, restoring}
use Rattle.stream_saved.specs.Back.{RestoredAsSaved, AnswersAsSaved}

-- ---- a field

-- a test that passed, as a fact
yes : (b : Bool) → b ≡ true → T b
yes b e = rw e tt

-- an energy's text says that energy
text_says : (x : Float) → finite32 x ≡ true → hex_energy (energy_text x) ≡ Is x
text_says x h =
    let p = (and-eq-true_iff (fits binary32 x) (finite x)).0 h in
    let f = yes (fits binary32 x) p.0 in
    let b = to_bits-lt binary32 x f in
    rw (word_back (to_bits binary32 x) b, of_bits-to_bits binary32 x f, p.1)

-- so do all of them
texts_say : (l : List Float) → every finite32 l ≡ true → map (energy_of 69) (map energy_text l) ≡ map Is l
unfolding every
texts_say [] h = refl
texts_say (x ∷ l) h =
    let p = (and-eq-true_iff (finite32 x) (every finite32 l)).0 h in
    rw (text_says x p.0, texts_say l p.1)

-- none of them is wrong
all_good : (l : List Float) → every not_wrong (map Is l) ≡ true
unfolding every
all_good [] = refl
all_good (x ∷ l) = all_good l

-- none of them is wild
all_tame : (l : List Float) → every not_wild (map Is l) ≡ true
unfolding every
all_tame [] = refl
all_tame (x ∷ l) = all_tame l

-- their energies are the record's
all_values : (l : List Float) → map float_of (map Is l) ≡ l
all_values [] = refl
all_values (x ∷ l) = ap (λ (k : List Float). x ∷ k) (all_values l)

-- no text of an energy has a tab
no_tabs : (l : List Float) → every no_tab (map energy_text l) ≡ true
unfolding every
no_tabs [] = refl
no_tabs (x ∷ l) = (and-eq-true_iff (no_tab (energy_text x)) (every no_tab (map energy_text l))).1 (word_no_tab (to_bits binary32 x), no_tabs l)

-- ---- the line

-- E, the next number and the energies are its fields
pub fields_are : (r : Record) → fields_of (saved_line r) ≡ (69 ∷ []) ∷ decimal_of r.next ∷ map energy_text r.energies
fields_are r = fields_made (69 ∷ []) (decimal_of r.next ∷ map energy_text r.energies) letter-plain rest_plain
  where
    letter-plain : no_tab (69 ∷ []) ≡ true
    letter-plain = unfold every in refl

    rest_plain : every no_tab (decimal_of r.next ∷ map energy_text r.energies) ≡ true
    rest_plain = unfold every in (and-eq-true_iff (no_tab (decimal_of r.next)) (every no_tab (map energy_text r.energies))).1
        (decimal_no_tab r.next, no_tabs r.energies)

-- a line by its parts
by_parts : (s : List ℕ) (n : ℕ) (l : List Float) → length (fields_of s) ≡ 44 → letter s ≡ 69 → next_read s ≡ Some n → energies_read s ≡ map Is l
    → ◌≡◌ {A = Restored} (restoring s) (record { code = 0; rec = record { energies = l; next = n } })
unfolding well_formed refusal_line refusal answer_restored
by_parts s n l h p q e = rw (e, q, p, eq-eqb (length (fields_of s)) 44 h, all_good l, all_tame l, all_values l)

-- the fields of a saved line are the parts that it was made of
pub restored_as_saved : RestoredAsSaved
restored_as_saved r u h =
    let f = fields_are r in
    let e : letter (saved_line r) ≡ 69 = ap (λ (fs : List (List ℕ)). letter_of (get_or fs 0 [])) f in
    by_parts (saved_line r) r.next r.energies
    (ap length f ∙ ap (λ (k : ℕ). suc (suc k)) (length-map r.energies energy_text ∙ u.long))
    e
    (ap (λ (fs : List (List ℕ)). number_of 4294967295 (get_or fs 1 [])) f ∙ decimal_back 4294967295 r.next (omega arith) h)
    (ap (λ (l : ℕ). map (energy_of l) (drop 2 (fields_of (saved_line r)))) e ∙ ap (λ (fs : List (List ℕ)). map (energy_of 69) (drop 2 fs)) f ∙ texts_say
    r.energies u.all)

-- the restored record is the saved one
pub answers_as_saved : AnswersAsSaved
answers_as_saved r u h q = ap (λ (y : Restored). framed y.rec q) (restored_as_saved r u h)
