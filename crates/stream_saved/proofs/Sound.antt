-- A record restored from an accepted line is usable, whatever the line. Assumes nothing.
use Rattle.std.specs.Prelude.{Option, Some, None}
use Prim.Native.Nat.{ℕ, zero, suc, ◌≤◌}
use mathlib.Core.Path.{◌≡◌, refl, sym, ◌∙◌}
use mathlib.Core.Bool.{Bool, true, and-eq-true_iff}
use mathlib.Core.List.{List, [], ◌∷◌, map}
use native.Mathlib.Omega.{arith}
use lib.Dec.{T, eqb}
use lib.IntN.{ℤ, pos, negsuc, nat_abs}
use lib.Ieee.{Float, nan, inf, fin, binary32, fits, of_bits}
use lib.Ieee.Bits.{is_true, of_bits-fits}
use lib.Ieee.Exact.{HasValue}
use lib.Ieee.Fits.{round-fits}
use lib.Ieee.Scale.{finite}
use lib.ListN.{length, drop, length-map}
use borrow.Author.Tests.{eqb-true}
use Rattle.laws.specs.Lists.{every}
use Rattle.laws.specs.Signs.{is_neg}
use Rattle.laws.proofs.Tests.{cond-by}
use Rattle.entcode.proofs.Refusals.{passed}
use Rattle.text.specs.Fields.{fields_of, field_of}
use Rattle.text.specs.Numbers.{AtMost, word_of, whole_of, whole_in}
use Rattle.text.proofs.Values.{number-most}
use Rattle.stream.specs.declared.Record.{Record}
use Rattle.stream.specs.History.{finite32, Usable}
use Rattle.stream_saved.specs.declared.Energy.{Energy}
use Rattle.stream_saved.specs.declared.Energy.TheVariants.{Is, Wild, Wrong}
use Rattle.stream_saved.specs.Fields.{Small, of_word, of_whole, in256ths, energy_of, float_of}
use Rattle.stream_saved.specs.Lines.{letter, next_read, energies_read, the_number, well_formed, refusal_line, record_read, answer_restored}
use Rattle.stream_saved.specs.Back.{RestoredIsUsable}
use Rattle.stream_saved.proofs.Energies.{kept_small, said-length}
use Rattle.stream_saved.proofs.Exact.{in_256ths-exact}

-- ---- a field

-- an energy that was read is a finite f32
abbrev Fine : Energy → Type 0
Fine (Is x) = finite32 x ≡ true
Fine Wild = Unit {0}
Fine Wrong = Unit {0}

-- what has a value is finite
valued : (x : Float) (s : Bool) (a c : ℕ) → HasValue x s a c → finite x ≡ true
valued nan s a c h = absurd h
valued (inf t) s a c h = absurd h
valued (fin t m e) s a c h = refl

-- a finite value that fits an f32 is a finite f32
both : (x : Float) → T (fits binary32 x) → finite x ≡ true → finite32 x ≡ true
both x f e = (and-eq-true_iff (fits binary32 x) (finite x)).1 (is_true _ f, e)

-- of an E field
word-fine : (n : Option ℕ) → Fine (of_word n)
word-fine (Some b) = cond-by Fine (finite (of_bits binary32 b)) (λ e. both (of_bits binary32 b) (of_bits-fits binary32 b) e) (λ e. tt)
word-fine None = tt

-- of a Q field
whole-fine : (w : Option ℤ) → Small w → Fine (of_whole w)
whole-fine (Some z) h = both (in256ths z) (fits_256ths z) (valued (in256ths z) (is_neg z) (nat_abs z) 256 (in_256ths-exact z h))
  where
    fits_256ths : (z : ℤ) → T (fits binary32 (in256ths z))
    fits_256ths z = unfold in256ths in round-fits binary32 (is_neg z) (nat_abs z) 256
whole-fine None h = tt

-- of either
energy-fine : (l : ℕ) (f : List ℕ) → Fine (energy_of l f)
energy-fine l f = cond-by Fine (eqb l 69) (λ e. word-fine (word_of f)) (λ e. whole-fine (whole_in (negsuc 32767) (pos 32767) f) (kept_small (whole_of f)))

-- the energy that is stored, zero where there is none
value-fine : (v : Energy) → Fine v → finite32 (float_of v) ≡ true
value-fine (Is x) h = h
value-fine Wild h = unfold fits in refl
value-fine Wrong h = unfold fits in refl

-- all of them
values_fine : (l : ℕ) (fs : List (List ℕ)) → every finite32 (map float_of (map (energy_of l) fs)) ≡ true
unfolding every
values_fine l [] = refl
values_fine l (f ∷ fs) =
    (and-eq-true_iff (finite32 (float_of (energy_of l f))) (every finite32 (map float_of (map (energy_of l) fs)))).1
    (value-fine (energy_of l f) (energy-fine l f), values_fine l fs)

-- ---- the record

-- a next number that was read is in its domain
number_small : (n : Option ℕ) → AtMost 4294967295 n → the_number n ≤ 4294967295
number_small (Some v) h = h
number_small None h = omega arith

-- a line that is not refused has 44 fields
sized : (s : List ℕ) → refusal_line s ≡ 0 → length (fields_of s) ≡ 44
unfolding refusal_line well_formed
sized s h = eqb-true (length (fields_of s)) 44 ((and-eq-true_iff (eqb (length (fields_of s)) 44) _).0 (passed _ _ _ _ _ _ h).no_1).0

-- the answer's code is the number of the refusal
pub code_is : (n : ℕ) (r : Record) → (answer_restored n r).code ≡ n
unfolding answer_restored
code_is zero r = refl
code_is (suc n) r = refl

-- an accepted line hands back the record that was read
answer_usable : (n : ℕ) (r : Record) → n ≡ 0 → (n ≡ 0 → Usable r × (r.next ≤ 4294967295))
    → Usable (answer_restored n r).rec × ((answer_restored n r).rec.next ≤ 4294967295)
unfolding answer_restored
answer_usable zero r e h = h refl
answer_usable (suc n) r e h = absurd (omega arith)

-- its energies and its next number, each by how it was read
pub restored_usable : RestoredIsUsable
restored_usable s e =
    answer_usable (refusal_line s) (record_read s) (sym (code_is (refusal_line s) (record_read s)) ∙ e)
    (λ h. (
      record { long = length-map (energies_read s) float_of ∙ said-length s (letter s) (sized s h); all = values_fine (letter s) (drop 2 (fields_of s)) },
      number_small (next_read s) (number-most 4294967295 (field_of s 1)),
    ))
