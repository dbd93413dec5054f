-- Where the fields of a line stand, and that each place holds its field. Assumes nothing.
use Prim.Native.Nat.{ℕ, zero, suc, ◌+◌, ◌-◌, ◌<◌, ◌≤◌, min}
use mathlib.Core.Path.{◌≡◌, refl, sym, ap, ◌∙◌, subst}
use mathlib.Core.Bool.{Bool, true, false, cond}
use mathlib.Core.List.{List, [], ◌∷◌}
use native.Mathlib.Numerals.{add-one}
use native.Mathlib.Omega.{arith}
use lib.Dec.{eqb}
use lib.ListN.{length, get_or, drop, take, drop_of_length-le, length-drop}
use lib.Seq.{drop-drop, drop-length, get_or-drop}
use borrow.Author.Tests.{eq-eqb, ne_eqb}
use Rattle.laws.proofs.Lists.{drop-next}
use Rattle.laws.proofs.Tests.{by_le}
use Rattle.text.specs.declared.places.Span.{Span}
use Rattle.text.specs.Fields.{glue, separated, fields_of, field_of, to_tab, end_from, span_from, next_of, place_of, FieldPlace}

-- ---- the first tab

-- no bytes, no tab
tab_none : to_tab [] ≡ 0
unfolding to_tab
tab_none = refl

-- a tab comes first
tab_here : (b : ℕ) (t : List ℕ) → b ≡ 9 → to_tab (b ∷ t) ≡ 0
unfolding to_tab
tab_here b t h = rw (eq-eqb b 9 h)

-- another byte comes first
tab_on : (b : ℕ) (t : List ℕ) → (b ≡ 9 → ⊥) → to_tab (b ∷ t) ≡ suc (to_tab t)
unfolding to_tab
tab_on b t h = rw (ne_eqb b 9 h)

-- a field ends at a tab
pub end_here : (s : List ℕ) (i : ℕ) → i < length s → get_or s i 0 ≡ 9 → end_from s i ≡ i
end_here s i h e =
    let p : to_tab (drop i s) ≡ 0 = ap to_tab (drop-next s i 0 h) ∙ tab_here (get_or s i 0) (drop (i + 1) s) e in
    omega arith

-- a byte that is no tab does not end a field
pub end-next : (s : List ℕ) (i : ℕ) → i < length s → (get_or s i 0 ≡ 9 → ⊥) → end_from s (i + 1) ≡ end_from s i
end-next s i h e =
    let p : to_tab (drop i s) ≡ suc (to_tab (drop (i + 1) s)) = ap to_tab (drop-next s i 0 h) ∙ tab_on (get_or s i 0) (drop (i + 1) s) e in
    omega arith

-- a field ends with the line
pub end-last : (s : List ℕ) (i : ℕ) → length s ≤ i → end_from s i ≡ i
end-last s i h =
    let p : to_tab (drop i s) ≡ 0 = ap to_tab (drop_of_length-le s h) ∙ tab_none in
    omega arith

-- ---- a field's place

-- and leaves the others as they are
glue-rest : (b : ℕ) (fs : List (List ℕ)) → drop 1 (glue b fs) ≡ drop 1 fs
unfolding glue
glue-rest b [] = refl
glue-rest b (f ∷ fs) = refl

-- it stands in front of the first part
glue-first : (b : ℕ) (fs : List (List ℕ)) → get_or (glue b fs) 0 [] ≡ b ∷ get_or fs 0 []
unfolding glue
glue-first b [] = refl
glue-first b (f ∷ fs) = refl

-- the first tab stands within the bytes
to_tab-le : (t : List ℕ) → to_tab t ≤ length t
unfolding to_tab
to_tab-le [] = omega arith
to_tab-le (b ∷ t) = go (eqb b 9) (to_tab-le t)
  where
    go : (x : Bool) → to_tab t ≤ length t → cond x 0 (suc (to_tab t)) ≤ suc (length t)
    go true h = omega arith
    go false h = omega arith

-- a field ends within the line
pub end-le : (s : List ℕ) (a : ℕ) → a ≤ length s → end_from s a ≤ length s
end-le s a h =
    let p = to_tab-le (drop a s) in
    let k : length (drop a s) ≡ length s - a = length-drop a s in
    omega arith

-- the bytes before the first tab are the first field
first_field : (t : List ℕ) → take (to_tab t) t ≡ get_or (fields_of t) 0 []
unfolding separated to_tab
first_field [] = refl
first_field (b ∷ t) = go (eqb b 9) (first_field t)
  where
    go : (x : Bool) → take (to_tab t) t ≡ get_or (fields_of t) 0 []
        → take (cond x 0 (suc (to_tab t))) (b ∷ t) ≡ get_or (cond x ([] ∷ fields_of t) (glue b (fields_of t))) 0 []
    go true e = refl
    go false e = sym (glue-first b (fields_of t) ∙ ap (λ (l : List ℕ). b ∷ l) (sym e))

-- the bytes after it have the other fields
other_fields : (t : List ℕ) → to_tab t < length t → fields_of (drop (suc (to_tab t)) t) ≡ drop 1 (fields_of t)
unfolding separated to_tab
other_fields [] h = absurd (omega arith)
other_fields (b ∷ t) h = go (eqb b 9) h (other_fields t)
  where
    go : (x : Bool) → cond x 0 (suc (to_tab t)) < suc (length t) → (to_tab t < length t → fields_of (drop (suc (to_tab t)) t) ≡ drop 1 (fields_of t))
        → fields_of (drop (suc (cond x 0 (suc (to_tab t)))) (b ∷ t)) ≡ drop 1 (cond x ([] ∷ fields_of t) (glue b (fields_of t)))
    go true h f = refl
    go false h f = f (omega arith) ∙ sym (glue-rest b (fields_of t))

-- where there is no tab, there are none
no_others : (t : List ℕ) → length t ≤ to_tab t → drop 1 (fields_of t) ≡ []
unfolding separated to_tab
no_others [] h = refl
no_others (b ∷ t) h = go (eqb b 9) h (no_others t)
  where
    go : (x : Bool) → suc (length t) ≤ cond x 0 (suc (to_tab t)) → (length t ≤ to_tab t → drop 1 (fields_of t) ≡ [])
        → drop 1 (cond x ([] ∷ fields_of t) (glue b (fields_of t))) ≡ []
    go true h f = absurd (omega arith)
    go false h f = glue-rest b (fields_of t) ∙ f (omega arith)

-- what follows a place of s has the fields from n on; a field that is missing reads as empty
abbrev FieldsFrom : List ℕ → ℕ → ℕ → Type 0
FieldsFrom s n at = (at ≤ length s) × ((k : ℕ) → get_or (fields_of (drop at s)) k [] ≡ field_of s (n + k))

-- past the end every field is empty
none_left : (k : ℕ) → get_or (fields_of []) k [] ≡ []
unfolding separated
none_left zero = refl
none_left (suc k) = refl

-- the fields from the next place on
from_next : (s : List ℕ) (n a : ℕ) → FieldsFrom s n a → FieldsFrom s (suc n) (min (end_from s a + 1) (length s))
from_next s n a f = by_le (length (drop a s)) (to_tab (drop a s)) last more
  where
    k : length (drop a s) ≡ length s - a
    k = length-drop a s

    shift : (i : ℕ) → get_or (drop 1 (fields_of (drop a s))) i [] ≡ field_of s (suc n + i)
    shift i =
        let e : n + (1 + i) ≡ suc n + i = omega arith in
        get_or-drop 1 (fields_of (drop a s)) i [] ∙ f.1 (1 + i) ∙ ap (λ (m : ℕ). field_of s m) e

    last : length (drop a s) ≤ to_tab (drop a s) → FieldsFrom s (suc n) (min (end_from s a + 1) (length s))
    last h =
        let e : min (end_from s a + 1) (length s) ≡ length s = omega (arith, k, f.0) in
        rw e (
          omega arith,
          λ i. ap (λ (l : List ℕ). get_or (fields_of l) i []) (drop-length s) ∙ none_left i
              ∙ sym (ap (λ (l : List (List ℕ)). get_or l i []) (no_others (drop a s) h)) ∙ shift i,
        )

    more : to_tab (drop a s) < length (drop a s) → FieldsFrom s (suc n) (min (end_from s a + 1) (length s))
    more h =
        let e : min (end_from s a + 1) (length s) ≡ a + suc (to_tab (drop a s)) = omega (arith, k, f.0) in
        rw e (
          omega (arith, k, f.0),
          λ i. ap (λ (l : List ℕ). get_or (fields_of l) i []) (sym (drop-drop (suc (to_tab (drop a s))) a s))
              ∙ ap (λ (l : List (List ℕ)). get_or l i []) (other_fields (drop a s) h) ∙ shift i,
        )

-- the next place
place-suc : (s : List ℕ) (n : ℕ) → place_of s (suc n) ≡ next_of s (place_of s n)
unfolding place_of
place-suc s n = refl

-- a place ends where a field that starts there does
place_end : (s : List ℕ) (n : ℕ) → (place_of s n).end ≡ end_from s (place_of s n).start
unfolding place_of
place_end s zero = refl
place_end s (suc n) = refl

-- all fields follow the first place
from_first : (s : List ℕ) → FieldsFrom s 0 (place_of s 0).start
unfolding place_of
from_first s = (omega arith, λ k. let e : k ≡ 0 + k = omega arith in ap (λ (m : ℕ). field_of s m) e)

-- the fields from n on follow the place of field n
from_place : (s : List ℕ) (n : ℕ) → FieldsFrom s n (place_of s n).start
from_place s zero = from_first s
from_place s (suc n) =
    let e : (place_of s (suc n)).start ≡ min (end_from s (place_of s n).start + 1) (length s)
    = ap (λ (p : Span). p.start) (place-suc s n) ∙ ap (λ (m : ℕ). min (m + 1) (length s)) (place_end s n) in
    subst (FieldsFrom s (suc n)) (sym e) (from_next s n (place_of s n).start (from_place s n))

-- the place of field n holds field n
pub place-field : (s : List ℕ) (n : ℕ) → FieldPlace s n (place_of s n)
place-field s n =
    let a : ℕ = (place_of s n).start in
    let f = from_place s n in
    let e : (place_of s n).end ≡ end_from s a = place_end s n in
    let k : (place_of s n).end - a ≡ to_tab (drop a s) = omega arith in
    let z : n + 0 ≡ n = omega arith in
    record {
      is = refl;
      ordered = omega arith;
      inside = subst (λ (m : ℕ). m ≤ length s) (sym e) (end-le s a f.0);
      bytes = ap (λ (m : ℕ). take m (drop a s)) k ∙ first_field (drop a s) ∙ f.1 0 ∙ ap (λ (m : ℕ). field_of s m) z;
    }

-- ---- the walk over the fields

-- the first place starts with the line
pub place-first : (s : List ℕ) → span_from s 0 ≡ place_of s 0
unfolding place_of
place-first s = refl

-- one place further
pub place-next : (s : List ℕ) (k : ℕ) {p r : Span} → p ≡ place_of s k → r ≡ next_of s p → r ≡ place_of s (k + 1)
unfolding place_of
place-next s k h g = g ∙ ap (next_of s) h ∙ sym (ap (place_of s) (add-one k))

-- past the last field the next place is the end
next_past : (s : List ℕ) (p : Span) → length s ≤ p.end → next_of s p ≡ span_from s (length s)
next_past s p h = let e : min (p.end + 1) (length s) ≡ length s = omega arith in ap (span_from s) e

-- and so are all after it
all_past : (s : List ℕ) (k j : ℕ) → length s ≤ (place_of s k).end → place_of s (suc (k + j)) ≡ span_from s (length s)
all_past s k zero h = let e : k + 0 ≡ k = omega arith in ap (λ (m : ℕ). place_of s (suc m)) e ∙ place-suc s k ∙ next_past s (place_of s k) h
all_past s k (suc j) h =
    let e : k + suc j ≡ suc (k + j) = omega arith in
    let g : (place_of s (suc (k + j))).end ≡ length s = ap (λ (p : Span). p.end) (all_past s k j h) ∙ end-last s (length s) (omega arith) in
    ap (λ (m : ℕ). place_of s (suc m)) e ∙ place-suc s (suc (k + j)) ∙ next_past s (place_of s (suc (k + j))) (omega arith)

-- past the last field all places are the same
pub place-past : (s : List ℕ) (k n : ℕ) {p : Span} → p ≡ place_of s k → k < n → length s ≤ p.end → span_from s (length s) ≡ place_of s n
place-past s k n h l g =
    let e : suc (k + (n - suc k)) ≡ n = omega arith in
    sym (ap (place_of s) (sym e) ∙ all_past s k (n - suc k) (rw h at g))

-- what is the place of field n holds it
pub field_is : (s : List ℕ) (n : ℕ) {r : Span} → r ≡ place_of s n → FieldPlace s n r
field_is s n e = rw e (place-field s n)
