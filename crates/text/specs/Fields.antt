-- A line as bytes: its fields, separated by tabs, and where each stands. Document 01, "The lister" and "Energies, shapes and the stream record".
use Rattle.std.specs.Prelude.{ℕ, zero, suc, ◌+◌, ◌-◌, ◌≤◌, min, ◌≡◌, Bool, cond, not, List, [], ◌∷◌, ◌++◌, eqb, length, get_or, drop, take}
use Rattle.laws.specs.Lists.{every}
use Rattle.text.specs.declared.places.Span.{Span}

-- ---- the fields

-- b before the first of the parts
unfoldable pub glue : ℕ → List (List ℕ) → List (List ℕ)
glue b [] = (b ∷ []) ∷ []
glue b (f ∷ fs) = (b ∷ f) ∷ fs

-- the parts of s between the bytes sep: one more than it has such bytes
unfoldable pub separated : ℕ → List ℕ → List (List ℕ)
separated sep [] = [] ∷ []
separated sep (b ∷ s) = cond (eqb b sep) ([] ∷ separated sep s) (glue b (separated sep s))

-- the fields of a line
abbrev pub fields_of : List ℕ → List (List ℕ)
fields_of s = separated 9 s

-- field n, and nothing where the line has no such field
abbrev pub field_of : List ℕ → ℕ → List ℕ
field_of s n = get_or (fields_of s) n []

-- ---- their places

-- how many bytes stand before the first tab, or the end
unfoldable pub to_tab : List ℕ → ℕ
to_tab [] = 0
to_tab (b ∷ s) = cond (eqb b 9) 0 (suc (to_tab s))

-- the place of the first tab from `at` on, or the end
abbrev pub end_from : List ℕ → ℕ → ℕ
end_from s at = at + to_tab (drop at s)

-- the field that starts at a place
abbrev pub span_from : List ℕ → ℕ → Span
span_from s at = record { start = at; end = end_from s at }

-- the field after one, empty and at the end where there is none
abbrev pub next_of : List ℕ → Span → Span
next_of s p = span_from s (min (p.end + 1) (length s))

-- the place of field n, empty and at the end where there is none
unfoldable pub place_of : List ℕ → ℕ → Span
place_of s zero = span_from s 0
place_of s (suc n) = next_of s (place_of s n)

-- r is the place of field n of s: it lies in s, and holds the field
pub record FieldPlace (s : List ℕ) (n : ℕ) (r : Span) : Type 0 where
  pub is : r ≡ place_of s n
  pub ordered : r.start ≤ r.end
  pub inside : r.end ≤ length s
  pub bytes : take (r.end - r.start) (drop r.start s) ≡ field_of s n

-- ---- a line made of fields

-- each of the fields after a tab
unfoldable pub tabbed : List (List ℕ) → List ℕ
tabbed [] = []
tabbed (f ∷ fs) = 9 ∷ f ++ tabbed fs

-- no byte is a tab
abbrev pub no_tab : List ℕ → Bool
no_tab f = every (λ b. not (eqb b 9)) f
