-- Each place of the cache's index is 0 or one more than the start of a row: one computed test over the index. Assumes nothing.
use Prim.Native.Nat.{ℕ, suc, ◌+◌, ◌-◌, ◌*◌, ◌≤◌, ◌<◌}
use mathlib.Core.Path.{◌≡◌, refl, ◌∙◌, ap}
use mathlib.Core.Bool.{Bool, true, ◌||◌}
use mathlib.Core.List.{List, [], ◌∷◌}
use native.Mathlib.Nat.{add-zero}
use native.Mathlib.Omega.{arith}
use lib.Dec.{leb, ltb, eqb}
use lib.ListN.{length, get_or, drop}
use lib.Seq.{get_or-drop}
use borrow.Author.Tests.{leb-true, ltb-true, ne_eqb}
use Rattle.laws.specs.Lists.{every}
use Rattle.laws.specs.Tests.{all_true}
use Rattle.laws.proofs.Lists.{every-at, entry-le}
use Rattle.laws.proofs.Tables.{run, rises}
use Rattle.laws.proofs.Tests.{each_of}
use Rattle.modes.specs.CacheBits.{cache_bits, row_length, row_entry, CacheRow}
use Rattle.modes.specs.CacheIndex.{cache_index, index_entry, row_start}

-- as many as the const has
pub cache_bits-length : length cache_bits ≡ 392
unfolding cache_bits
cache_bits-length = refl

-- 5 rows of 21
pub cache_index-length : length cache_index ≡ 105
unfolding cache_index
cache_index-length = refl

-- for a length that is read, inside a row or not
pub row-length-most : (start : ℕ) → row_length start ≤ 255
unfolding row_length cache_bits every
row-length-most = entry-le 255 cache_bits refl

-- every entry is a byte
pub row-entry-most : (start i : ℕ) → row_entry start i ≤ 255
unfolding row_entry cache_bits every
row-entry-most start i = entry-le 255 cache_bits refl (start + i)

-- nine bits hold an entry of the index
pub place-most : (lm band : ℕ) → index_entry lm band ≤ 388
unfolding index_entry cache_index every
place-most lm band = entry-le 388 cache_index refl (21 * lm + band)

-- a row and where it starts: its length, its end, its first entry, and each entry against the next
abbrev row_tests : ℕ → List ℕ → List Bool
row_tests start row =
    leb 4 (get_or row 0 0) ∷
    leb (get_or row 0 0) 40 ∷
    ltb (start + get_or row 0 0) 392 ∷
    leb 7 (get_or row 1 0) ∷
    run (λ i. leb (get_or row (suc i) 0) (get_or row (suc (suc i)) 0)) 0 (get_or row 0 0 - 1) ∷
    []

-- a row starts here, as one test
abbrev is_row : ℕ → Bool
is_row start = all_true (row_tests start (drop start cache_bits))

-- the test reads the row's length
length-is : (start : ℕ) → get_or (drop start cache_bits) 0 0 ≡ row_length start
unfolding row_length
length-is start = get_or-drop start cache_bits 0 0 ∙ ap (λ (k : ℕ). get_or cache_bits k 0) (add-zero start)

-- and its entries
entry-is : (start i : ℕ) → get_or (drop start cache_bits) i 0 ≡ row_entry start i
unfolding row_entry
entry-is start i = get_or-drop start cache_bits i 0

-- entries from the first on never fall, where each is at most the next
never_falls : (row : List ℕ) (n : ℕ) → run (λ i. leb (get_or row (suc i) 0) (get_or row (suc (suc i)) 0)) 0 (n - 1) ≡ true
    → (i j : ℕ) → 1 ≤ i → i ≤ j → j ≤ n → get_or row i 0 ≤ get_or row j 0
never_falls row n t i j p h g =
    let a : suc (i - 1) ≡ i = omega arith in
    let b : suc (j - 1) ≡ j = omega arith in
    rw (a, b) at (rises (λ k. get_or row (suc k) 0) (n - 1) t (i - 1) (j - 1) (omega arith) (omega arith))

-- the test gives what a row keeps
row_in : (start : ℕ) → is_row start ≡ true → CacheRow start
row_in start t =
    let row = drop start cache_bits in
    let len = get_or row 0 0 in
    let p = each_of (row_tests start row) t in
    let e = length-is start in
    let up : (i j : ℕ) → 1 ≤ i → i ≤ j → j ≤ row_length start → row_entry start i ≤ row_entry start j
    = λ i j q h g. rw (entry-is start i, entry-is start j) at (never_falls row len p.1.1.1.1.0 i j q h (omega arith)) in
    record {
      length-least = omega (arith, leb-true 4 len p.0);
      length_most = omega (arith, leb-true len 40 p.1.0);
      inside = omega (arith, ltb-true (start + len) 392 p.1.1.0);
      entry-least = λ i q h. omega (arith, leb-true 7 (get_or row 1 0) p.1.1.1.0, entry-is start 1, up 1 i (omega arith) q h);
      entry-le = up;
    }

-- the computed test: each entry of the index is 0 or one more than the start of a row
rows_in : every (λ p. eqb p 0 || is_row (p - 1)) cache_index ≡ true
unfolding every all_true cache_index cache_bits
rows_in = refl

-- where there is a row, it starts at `row_start`
pub row_at : (lm band : ℕ) → lm < 5 → band < 21 → 1 ≤ index_entry lm band → CacheRow (row_start lm band)
unfolding index_entry
row_at lm band h g p =
    let q = every-at (λ p. eqb p 0 || is_row (p - 1)) cache_index 0 rows_in (21 * lm + band) (omega (arith, cache_index-length)) in
    row_in (index_entry lm band - 1) (rw (ne_eqb (index_entry lm band) 0 (λ (e : index_entry lm band ≡ 0). omega arith)) at q)
