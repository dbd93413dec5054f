-- The stored count table: one test that antt computes over all of it, and one lemma that turns the test into the counts. Assumes nothing.
use Prim.Native.Nat.{ℕ, zero, suc, ◌+◌, ◌*◌, ◌/◌, ◌%◌, ◌≤◌, ◌<◌}
use mathlib.Core.Path.{◌≡◌, refl, sym, ap, ◌∙◌, subst}
use mathlib.Core.Bool.{true, false, cond, ◌&&◌, ◌||◌, false≢true, and-eq-true_iff}
use mathlib.Core.List.{List, [], ◌∷◌}
use mathlib.Core.Logic.{◌⊎◌, inl, inr, ⊎_elim}
use native.Mathlib.Nat.{add-zero, add-suc, suc-add, le_trans, le_of_suc-le-suc, not-suc-le-zero}
use native.Mathlib.Omega.{arith}
use lib.Dec.{eqb, ltb, lit<, lit≤}
use lib.ListN.{length, get_or, drop, get_or-eq_default}
use lib.Seq.{get_or-drop}
use borrow.Author.Tests.{lt-ltb, le-ltb, eqb-true, eqb-false, leb-true, ltb-true}
use Rattle.laws.proofs.Tests.{split_on, by_le}
use Rattle.cwrs_counts.specs.Count.{U}
use Rattle.cwrs_counts.specs.Table.{counts, zeros_obey, first_obeys, rest_obeys, row_obeys, rows_obey, obeys}
use Rattle.cwrs_counts.specs.Rows.{row_at, len_at, packed_at}
use Rattle.cwrs_counts.proofs.Recurrence.{U_00, U_0s, U_s0, U_s1, U_ss, U_sym, up_le, both-le}

-- ---- the one test over the whole table

-- every stored entry obeys the recurrence
pub recurrence : obeys counts ≡ true
unfolding counts
recurrence = refl

-- ---- what the test tells of a row

-- the entries of l are the counts of row n from place k on, and fit
abbrev IsRow : ℕ → ℕ → List ℕ → Type 0
IsRow n k [] = Unit {0}
IsRow n k (x ∷ xs) = (x ≡ U n k) × (x < 4294967296) × IsRow n (suc k) xs

-- a row ends at e: it is full, or the count there does not fit
abbrev End : ℕ → ℕ → Type 0
End n e = (e ≡ 177) ⊎ (4294967296 ≤ U n e)

-- the rest of a row below a row of counts is one
rest : (n k : ℕ) (ps xs : List ℕ) → IsRow n (suc k) ps → (a b : ℕ) → a ≡ U n k → b ≡ U (suc n) k → rest_obeys k a b ps xs ≡ true
    → IsRow (suc n) (suc k) xs × End (suc n) (suc k + length xs)
rest n k [] [] h a b ea eb t = (tt, inl (omega (arith, eqb-true k 176 t)))
rest n k [] (x ∷ xs) h a b ea eb t = absurd (false≢true t)
rest n k (p ∷ ps) [] h a b ea eb t =
    (tt, inr (omega (arith, leb-true 4294967296 (p + b + a) t, h.0, U_ss n k, ap (U (suc n)) (add-zero (suc k)))))
rest n k (p ∷ ps) (x ∷ xs) h a b ea eb t =
    let s = (and-eq-true_iff (eqb x (p + b + a) && ltb x 4294967296) (rest_obeys (suc k) p x ps xs)).0 t in
    let f = (and-eq-true_iff (eqb x (p + b + a)) (ltb x 4294967296)).0 s.0 in
    let q : x ≡ U (suc n) (suc k) = omega (arith, eqb-true x (p + b + a) f.0, h.0, U_ss n k) in
    let r = rest n (suc k) ps xs h.2 p x h.0 q s.1 in
    ((q, ltb-true x 4294967296 f.1, r.0), subst (λ (e : ℕ). End (suc n) e) (omega (arith, add-suc k (length xs))) r.1)

-- and so is the whole row
row : (n : ℕ) (p r : List ℕ) → IsRow n 0 p → row_obeys p r ≡ true → IsRow (suc n) 0 r × End (suc n) (length r)
row n [] r h t = absurd (false≢true t)
row n (p ∷ ps) [] h t = absurd (false≢true t)
row n (p ∷ ps) (x ∷ xs) h t =
    let s = (and-eq-true_iff (eqb x 0) (rest_obeys 0 p x ps xs)).0 t in
    let z = eqb-true x 0 s.0 in
    let q : x ≡ U (suc n) 0 = z ∙ sym (U_s0 n) in
    let r = rest n 0 ps xs h.2 p x h.0 q s.1 in
    ((q, omega arith, r.0), subst (λ (e : ℕ). End (suc n) e) (omega arith) r.1)

-- the zeros of row 0
zeros : (k : ℕ) (xs : List ℕ) → zeros_obey k xs ≡ true → IsRow 0 (suc k) xs × (suc k + length xs ≡ 177)
zeros k [] t = (tt, omega (arith, eqb-true k 176 t))
zeros k (x ∷ xs) t =
    let s = (and-eq-true_iff (eqb x 0) (zeros_obey (suc k) xs)).0 t in
    let z = eqb-true x 0 s.0 in
    let r = zeros (suc k) xs s.1 in
    ((z ∙ sym (U_0s k), omega arith, r.0), omega (arith, r.1))

-- row 0
first : (r : List ℕ) → first_obeys r ≡ true → IsRow 0 0 r × End 0 (length r)
first [] t = absurd (false≢true t)
first (x ∷ xs) t =
    let s = (and-eq-true_iff (eqb x 1) (zeros_obey 0 xs)).0 t in
    let z = eqb-true x 1 s.0 in
    let r = zeros 0 xs s.1 in
    ((z ∙ sym U_00, omega arith, r.0), inl (omega (arith, r.1)))

-- ---- what it tells of the table

-- the rows rs are rows n, n + 1, .. of the counts
abbrev AreRows : ℕ → List (List ℕ) → Type 0
AreRows n [] = Unit {0}
AreRows n (r ∷ rs) = IsRow n 0 r × End n (length r) × AreRows (suc n) rs

-- each row follows from the one above it
rows_below : (n : ℕ) (p : List ℕ) (rs : List (List ℕ)) → IsRow n 0 p → rows_obey p rs ≡ true → AreRows (suc n) rs
rows_below n p [] h t = tt
rows_below n p (r ∷ rs) h t =
    let s = (and-eq-true_iff (row_obeys p r) (rows_obey r rs)).0 t in
    let q = row n p r h s.0 in
    (q.0, q.1, rows_below (suc n) r rs q.0 s.1)

-- what the test over a whole table tells
all_rows : (l : List (List ℕ)) → obeys l ≡ true → AreRows 0 l
all_rows [] t = absurd (false≢true t)
all_rows (r ∷ rs) t =
    let s = (and-eq-true_iff (first_obeys r) (rows_obey r rs)).0 t in
    let q = first r s.0 in
    (q.0, q.1, rows_below 0 r rs q.0 s.1)

-- one row of them
row_of : (n : ℕ) (l : List (List ℕ)) → AreRows n l → (a : ℕ) → a < length l
    → IsRow (n + a) 0 (get_or l a []) × End (n + a) (length (get_or l a []))
row_of n [] h a q = absurd (not-suc-le-zero q)
row_of n (r ∷ rs) h zero q = rw (add-zero n) (h.0, h.1)
row_of n (r ∷ rs) h (suc a) q =
    let e : n + suc a ≡ suc n + a = omega arith in
    rw e (row_of (suc n) rs h.2 a (le_of_suc-le-suc q))

-- one entry of a row
entry_of : (n k : ℕ) (l : List ℕ) → IsRow n k l → (j : ℕ) → j < length l → (get_or l j 0 ≡ U n (k + j)) × (get_or l j 0 < 4294967296)
entry_of n k [] h j q = absurd (not-suc-le-zero q)
entry_of n k (x ∷ xs) h zero q = (h.0 ∙ ap (U n) (sym (add-zero k)), h.1)
entry_of n k (x ∷ xs) h (suc j) q =
    let r = entry_of n (suc k) xs h.2 j (le_of_suc-le-suc q) in
    (r.0 ∙ ap (U n) (suc-add k j ∙ sym (add-suc k j)), r.1)

-- ---- the one lemma

-- row 14 is the last
last_row : length counts ≡ 15
unfolding counts
last_row = refl

-- row a of the table, and where it ends
rows : (a : ℕ) → a ≤ 14 → IsRow a 0 (row_at a) × End a (len_at a)
rows a h =
    let e : 0 + a ≡ a = omega arith in
    rw e at (row_of 0 counts (all_rows counts recurrence) a (omega (arith, last_row)))

-- every stored entry is the count of its row and place, and fits 32 bits
pub value : (a b : ℕ) → a ≤ 14 → b < len_at a → (get_or (row_at a) b 0 ≡ U a b) × (U a b < 4294967296)
value a b h q =
    let e = entry_of a 0 (row_at a) (rows a h).0 b q in
    let z : 0 + b ≡ b = omega arith in
    (e.0 ∙ ap (U a) z, omega (arith, e.1, e.0, ap (U a) z))

-- what stands at a place, and past the row's end 0, fits too
small : (a b : ℕ) → a ≤ 14 → get_or (row_at a) b 0 < 4294967296
small a b h =
    by_le (len_at a) b (λ l. rw (get_or-eq_default (row_at a) 0 {n = b} l) (lit< tt)) (λ l. (entry_of a 0 (row_at a) (rows a h).0 b l).1)

-- a pair's first number is its even place's, and the second its odd place's
halves : (x y : ℕ) → x < 4294967296 → ((x + 4294967296 * y) % 4294967296 ≡ x) × ((x + 4294967296 * y) / 4294967296 ≡ y)
halves x y h = (omega arith, omega arith)

-- so the half that the code takes is the table's entry
pub halved : (a b : ℕ) → a ≤ 14 → cond (eqb (b % 2) 0) (packed_at a (b / 2) % 4294967296) (packed_at a (b / 2) / 4294967296) ≡ get_or (row_at a) b 0
unfolding packed_at
halved a b h =
    let l = drop (2 * (b / 2)) (row_at a) in
    let at : (i : ℕ) → get_or l i 0 ≡ get_or (row_at a) (2 * (b / 2) + i) 0 = λ i. get_or-drop (2 * (b / 2)) (row_at a) i 0 in
    let p = halves (get_or l 0 0) (get_or l 1 0) (omega (arith, at 0, small a (2 * (b / 2) + 0) h)) in
    split_on (eqb (b % 2) 0)
    (λ e.
    let i : 2 * (b / 2) + 0 ≡ b = omega (arith, eqb-true (b % 2) 0 e) in
    rw e (p.0 ∙ at 0 ∙ ap (λ (j : ℕ). get_or (row_at a) j 0) i))
    (λ e.
    let i : 2 * (b / 2) + 1 ≡ b = omega (arith, eqb-false (b % 2) 0 e) in
    rw e (p.1 ∙ at 1 ∙ ap (λ (j : ℕ). get_or (row_at a) j 0) i))

-- ---- rows 0 and 1

-- zeros, after a 1
row_0 : (b : ℕ) → (b ≡ 0 → ⊥) → 0 ≡ U 0 b
row_0 zero h = absurd (h refl)
row_0 (suc b) h = sym (U_0s b)

-- ones, after a 0
row_1 : (b : ℕ) → 1 ≤ b → 1 ≡ U 1 b
row_1 zero h = absurd (not-suc-le-zero h)
row_1 (suc b) h = sym (U_sym 1 (suc b) ∙ U_s1 b)

-- where the code answers 1
pub edge_one : (a b : ℕ) → a ≤ 1 → a ≤ b → (eqb a 1 || eqb b 0) ≡ true → 1 ≡ U a b
edge_one zero b h g t = rw (eqb-true b 0 t) (sym U_00)
edge_one (suc zero) b h g t = row_1 b g
edge_one (suc (suc a)) b h g t = absurd (omega arith)

-- where it answers 0
pub edge_none : (a b : ℕ) → a ≤ 1 → a ≤ b → (eqb a 1 || eqb b 0) ≡ false → 0 ≡ U a b
edge_none zero b h g t = row_0 b (eqb-false b 0 t)
edge_none (suc zero) b h g t = absurd (false≢true (sym t))
edge_none (suc (suc a)) b h g t = absurd (omega arith)

-- ---- what is not stored does not fit

-- there is no row past the last
no_length : (a : ℕ) → 15 ≤ a → len_at a ≡ 0
no_length a h = ap (λ (r : List ℕ). length r) (get_or-eq_default counts [] {n = a} (omega (arith, last_row)))

-- row 0 is full
len_0 : len_at 0 ≡ 177
unfolding counts
len_0 = refl

-- a row's end is where counts stop to fit
pub absent : (a b : ℕ) → b ≤ 176 → a ≤ 14 → len_at a ≤ b → 4294967296 ≤ U a b
absent zero b q g l = omega (arith, len_0)
absent (suc a) b q g l = ⊎_elim (λ e. omega arith) (λ e. le_trans e (up_le a l)) (rows (suc a) g).1

-- stored
U_14_14 : 1409933619 ≡ U 14 14
unfolding counts
U_14_14 = (value 14 14 (lit≤ tt) (lit< tt)).0

-- stored
U_14_15 : 3256957317 ≡ U 14 15
unfolding counts
U_14_15 = (value 14 15 (lit≤ tt) (lit< tt)).0

-- the first count of the row after the last
U_15_15 : 4294967296 ≤ U 15 15
U_15_15 = omega (arith, U_ss 14 14, U_sym 15 14, U_14_14, U_14_15)

-- so no count of a row past the last fits
pub large : (a b : ℕ) → 15 ≤ a → 15 ≤ b → 4294967296 ≤ U a b
large zero b h q = absurd (not-suc-le-zero h)
large (suc a) zero h q = absurd (not-suc-le-zero q)
large (suc a) (suc b) h q = le_trans U_15_15 (both-le (le_of_suc-le-suc h) (le_of_suc-le-suc q))

-- a count that fits has its place
pub stored : (a b : ℕ) → a ≤ b → b ≤ 176 → U a b < 4294967296 → (a ≤ 14) × (b < len_at a)
stored a b h q s =
    by_le a 14 (λ g. (g, by_le (len_at a) b (λ l. absurd (omega (arith, absent a b q g l))) (λ l. l)))
    (λ g. absurd (omega (arith, large a b g (omega arith))))

-- a row has a place exactly when its count fits
pub held_iff : (a b : ℕ) → a ≤ b → b ≤ 176 → ltb b (len_at a) ≡ ltb (U a b) 4294967296
held_iff a b h q =
    by_le a 14 (λ g.
    by_le (len_at a) b (λ l. le-ltb b (len_at a) l ∙ sym (le-ltb (U a b) 4294967296 (absent a b q g l)))
    (λ l. lt-ltb b (len_at a) l ∙ sym (lt-ltb (U a b) 4294967296 (value a b g l).1)))
    (λ g.
    let z = no_length a g in
    le-ltb b (len_at a) (omega arith) ∙ sym (le-ltb (U a b) 4294967296 (large a b g (omega arith))))
