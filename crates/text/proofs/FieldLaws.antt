-- The fields of a line: how many there are, the bytes of each, and that a line made of fields has them. Assumes nothing.
use Prim.Native.Nat.{ℕ, ◌<◌}
use mathlib.Core.Path.{◌≡◌, refl, sym, ap, ◌∙◌}
use mathlib.Core.Bool.{Bool, true, false, cond, not, ◌&&◌, and-eq-true_iff}
use mathlib.Core.List.{List, [], ◌∷◌, ◌++◌, append-nil}
use native.Mathlib.Omega.{arith}
use lib.Dec.{eqb}
use lib.ListN.{length}
use Rattle.laws.specs.Lists.{every}
use Rattle.std.specs.List.{slice_split, onto_first}
use Rattle.text.specs.Fields.{glue, separated, fields_of, tabbed, no_tab}

-- ---- how many parts

-- there is a part after a byte more
glue-some : (b : ℕ) (fs : List (List ℕ)) → 0 < length (glue b fs)
unfolding glue
glue-some b [] = omega arith
glue-some b (f ∷ fs) = omega arith

-- there is always one part, also of no bytes
pub separated-some : (sep : ℕ) (s : List ℕ) → 0 < length (separated sep s)
unfolding separated
separated-some sep [] = omega arith
separated-some sep (b ∷ s) = go (eqb b sep)
  where
    go : (t : Bool) → 0 < length (cond t ([] ∷ separated sep s) (glue b (separated sep s)))
    go true = omega arith
    go false = glue-some b (separated sep s)

-- ---- the parts, as a chain gives them

-- the parts are those of the library's split
pub separated_is : (sep : ℕ) (s : List ℕ) → slice_split (λ b. eqb b sep) s ≡ separated sep s
unfolding separated glue
separated_is sep [] = refl
separated_is sep (b ∷ s) = ap (λ (fs : List (List ℕ)). cond (eqb b sep) ([] ∷ fs) (onto_first b fs)) (separated_is sep s)
    ∙ ap (cond (eqb b sep) ([] ∷ separated sep s)) (first_is b (separated sep s))
  where
    first_is : (x : ℕ) (fs : List (List ℕ)) → onto_first x fs ≡ glue x fs
    first_is x [] = refl
    first_is x (f ∷ fs) = refl

-- ---- a line made of fields has them

-- bytes without a tab: the first is none, and the others have none
tab_free : (b : ℕ) (f : List ℕ) → no_tab (b ∷ f) ≡ true → (eqb b 9 ≡ false) × (no_tab f ≡ true)
unfolding every
tab_free b f h = go (eqb b 9) (no_tab f) h
  where
    go : (x y : Bool) → (not x && y) ≡ true → (x ≡ false) × (y ≡ true)
    go true y h = (sym h, absurd_at h)
      where
        absurd_at : false ≡ true → y ≡ true
        absurd_at e = cc
    go false y h = (refl, h)

-- bytes without a tab stand in front of the first field of what follows
glue_parts : (f : List ℕ) (s : List ℕ) {g : List ℕ} {gs : List (List ℕ)} → no_tab f ≡ true → fields_of s ≡ g ∷ gs → fields_of (f ++ s) ≡ (f ++ g) ∷ gs
unfolding separated glue
glue_parts [] s h e = e
glue_parts (b ∷ f) s h e =
    let t = tab_free b f h in
    rw (t.0, glue_parts f s t.1 e)

-- no fields, after tabs: one empty field
fields-none : fields_of (tabbed []) ≡ [] ∷ []
unfolding separated tabbed
fields-none = refl

-- a field after a tab: an empty field before it
fields_tab : (f : List ℕ) (fs : List (List ℕ)) → fields_of (tabbed (f ∷ fs)) ≡ [] ∷ fields_of (f ++ tabbed fs)
unfolding separated tabbed
fields_tab f fs = refl

-- fields after tabs: an empty field, and they
fields-tabbed : (fs : List (List ℕ)) → every no_tab fs ≡ true → fields_of (tabbed fs) ≡ [] ∷ fs
unfolding every
fields-tabbed [] h = fields-none
fields-tabbed (f ∷ fs) h =
    let t = (and-eq-true_iff (no_tab f) (every no_tab fs)).0 h in
    fields_tab f fs ∙ ap (λ (l : List (List ℕ)). [] ∷ l)
    (glue_parts f (tabbed fs) t.0 (fields-tabbed fs t.1) ∙ ap (λ (l : List ℕ). l ∷ fs) (append-nil f))

-- the fields of a line that was made of fields without tabs are these
pub fields_made : (f : List ℕ) (fs : List (List ℕ)) → no_tab f ≡ true → every no_tab fs ≡ true → fields_of (f ++ tabbed fs) ≡ f ∷ fs
fields_made f fs h g = glue_parts f (tabbed fs) h (fields-tabbed fs g) ∙ ap (λ (l : List ℕ). l ∷ fs) (append-nil f)
