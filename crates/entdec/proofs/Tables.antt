-- A table's search, one entry at a time, and the part of the range that an entry ends. Assumes nothing.
use Prim.Native.Nat.{ℕ, zero, suc, ◌+◌, ◌-◌, ◌*◌, ◌/◌, ◌^◌, ◌≤◌, ◌<◌}
use mathlib.Core.Path.{◌≡◌, ap, ap₂}
use mathlib.Core.Bool.{true, and-eq-true_iff}
use mathlib.Core.List.{List, [], ◌∷◌}
use native.Mathlib.Nat.{sub_self, mul-sub}
use native.Mathlib.Numerals.{add-one}
use native.Mathlib.Omega.{arith}
use lib.ListN.{length, get_or, drop}
use lib.Seq.{drop-cons}
use lib.Dec.{ltb, eqb}
use borrow.Author.Tests.{lt-ltb, le-ltb, ne_eqb, ltb-true, eqb-true}
use Rattle.entcode.specs.Range.{cut_width}
use Rattle.entcode.specs.Sym.{falls, find_sym}
use Rattle.entcode.specs.Sym.Shape.{table}
use Rattle.entcode.proofs.Falls.{entry}
use Rattle.entdec.specs.declared.Reader.{Reader}
use Rattle.entdec.specs.Read.{decoded_place, update, read_of}
use Rattle.entdec.specs.Symbols.{read_sym}
use Rattle.entdec.proofs.Places.{place-lt, place_ge}
use Rattle.entdec.proofs.Forms.{normal, ranged}

-- ---- what the test tells

-- every entry is below the bound
pub below : (p : ℕ) (t : List ℕ) (i : ℕ) → falls p t ≡ true → i < length t → get_or t i 0 < p
below p t i e h = let n = entry p t i e h in omega (arith, n.lt, n.le)

-- so there are at most as many
pub falls-length : (p : ℕ) (t : List ℕ) → falls p t ≡ true → length t ≤ p
unfolding falls
falls-length p [] e = omega arith
falls-length p (x ∷ xs) e =
    let b = (and-eq-true_iff (ltb x p) (falls x xs)).0 e in
    omega (arith, ltb-true x p b.0, falls-length x xs b.1)

-- an entry that is not 0 is not the last
pub falls-next : (p : ℕ) (t : List ℕ) (i : ℕ) → falls p t ≡ true → i < length t → 0 < get_or t i 0 → i + 1 < length t
unfolding falls
falls-next p [] i e h z = absurd (omega arith)
falls-next p (x ∷ []) zero e h z = absurd (omega (arith, eqb-true x 0 ((and-eq-true_iff (ltb x p) (eqb x 0)).0 e).1))
falls-next p (x ∷ (y ∷ ys)) zero e h z = omega arith
falls-next p (x ∷ xs) (suc i) e h z = omega (arith, falls-next x xs i ((and-eq-true_iff (ltb x p) (falls x xs)).0 e).1 (omega arith) z)

-- ---- the search

-- an entry at or below the place is passed
find_more : (f ft : ℕ) (t : List ℕ) (i : ℕ) → i < length t → ft - get_or t i 0 ≤ f → find_sym f ft (drop i t) ≡ suc (find_sym f ft (drop (i + 1) t))
unfolding find_sym
find_more f ft t i h l = simp (add-one, drop-cons t i 0 h, le-ltb f (ft - get_or t i 0) l)

-- an entry above it is found
find_here : (f ft : ℕ) (t : List ℕ) (i : ℕ) → i < length t → f < ft - get_or t i 0 → find_sym f ft (drop i t) ≡ 0
unfolding find_sym
find_here f ft t i h l = simp (drop-cons t i 0 h, lt-ltb f (ft - get_or t i 0) l)

-- as a test of the value
module _ (d : Reader) (t : List ℕ) (ft : ℕ) (some : 0 < d.rng / ft) (good : falls ft t ≡ true) (i : ℕ) (in_t : i < length t) where
  -- the entry, from the place where it ends
  back : ft - (ft - get_or t i 0) ≡ get_or t i 0
  back = omega (arith, below ft t i good in_t)

  -- the value is below this entry: the search goes on
  pub search_more : d.val < d.rng / ft * get_or t i 0 → find_sym (decoded_place ft d) ft (drop i t) ≡ suc (find_sym (decoded_place ft d) ft (drop (i + 1) t))
  unfolding decoded_place
  search_more h = find_more (decoded_place ft d) ft t i in_t (place_ge d.val (d.rng / ft) (ft - get_or t i 0) ft some (omega arith) (rw back h))

  -- it is not: the search ends here
  pub search_here : d.rng / ft * get_or t i 0 ≤ d.val → find_sym (decoded_place ft d) ft (drop i t) ≡ 0
  unfolding decoded_place
  search_here h =
      find_here (decoded_place ft d) ft t i in_t (place-lt d.val (d.rng / ft) (ft - get_or t i 0) ft some (omega (arith, below ft t i good in_t)) (omega arith)
      (rw back h))

-- ---- the part of the range

-- the upper end of the i-th symbol's part of the range
abbrev pub edge : ℕ → ℕ → List ℕ → ℕ → ℕ
edge r q t zero = r
edge r q t (suc i) = q * get_or t i 0

-- a symbol's width is what lies between its two ends
pub width-edge : (r ft : ℕ) (t : List ℕ) (i : ℕ) → falls ft t ≡ true → i < length t
    → cut_width r (ft - get_or (ft ∷ t) i 0) (ft - get_or t i 0) ft ≡ edge r (r / ft) t i - r / ft * get_or t i 0
unfolding cut_width
width-edge r ft t zero e h =
    let n = entry ft t 0 e h in
    let b : ft - (ft - get_or t 0 0) ≡ get_or t 0 0 = omega (arith, n.lt) in
    simp (sub_self ft, b)
width-edge r ft t (suc i) e h =
    let n = entry ft t (suc i) e h in
    let m = entry ft t i e (omega arith) in
    let b : (ft - get_or t (suc i) 0) - (ft - get_or t i 0) ≡ get_or t i 0 - get_or t (suc i) 0 = omega (arith, n.lt, n.le, m.lt, m.le) in
    simp (ne_eqb (ft - get_or t i 0) 0 (λ z. omega (arith, m.lt, m.le)), b, mul-sub)

-- the symbol that the search found, in the code's terms
pub symbol-at : (s : List ℕ) (d : Reader) (t : List ℕ) (k i : ℕ) → falls (2 ^ k) t ≡ true → i < length t → find_sym (decoded_place (2 ^ k) d) (2 ^ k) t ≡ i
    → read_sym (table t k) s d
    ≡ read_of i (normal s (ranged d (edge d.rng (d.rng / 2 ^ k) t i - d.rng / 2 ^ k * get_or t i 0) (d.val - d.rng / 2 ^ k * get_or t i 0) d.ext))
unfolding read_sym update
symbol-at s d t k i e h f =
    rw f
    (ap₂ (λ (w v : ℕ). read_of i (normal s (ranged d w v d.ext))) (width-edge d.rng (2 ^ k) t i e h)
    (ap (λ (x : ℕ). d.val - d.rng / 2 ^ k * x) (omega (arith, below (2 ^ k) t i e h))))
