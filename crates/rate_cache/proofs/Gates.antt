-- What the tests of the numbers tell, and what a passed gate gives. Assumes nothing.
use Rattle.std.specs.Prelude.{Ok}
use Prim.Native.Nat.{ℕ, zero, suc, ◌≤◌, ◌<◌}
use mathlib.Core.Path.{◌≡◌, refl, ap}
use mathlib.Core.Bool.{Bool, true, false, ◌&&◌, and-eq-true_iff}
use native.Mathlib.Omega.{arith}
use lib.Dec.{eqb}
use lib.IntN.{ℤ, pos, negsuc}
use borrow.Author.Tests.{leb-true, eqb-false}
use Rattle.laws.specs.Signs.{clip, in_range}
use Rattle.laws.proofs.Tests.{split_on}
use Rattle.laws.proofs.Signs.{range_clip}
use Rattle.laws.proofs.Differences.{clip-sub}
use Rattle.modes.specs.CacheBits.{row_length, CacheRow}
use Rattle.modes.specs.CacheIndex.{index_entry, row_start}
use Rattle.modes.proofs.CacheRule.{row_at}
use Rattle.entcode.specs.Refusal.{refusal}
use Rattle.entcode.specs.Said.{answer, said}
use Rattle.entcode.specs.Said.Said.{done, refused}
use Rattle.entcode.proofs.Refusals.{passed}
use Rattle.rate_cache.specs.Lookups.{refusal_of, level_of, band_ok, bits_ok, HasRow, no_row, no_entry}

-- ---- LM + 1

-- so an LM in its domain has one of the five
level-lt : (z : ℤ) → in_range (negsuc 0) (pos 3) z ≡ true → level_of z < 5
level-lt (pos n) t = omega (arith, leb-true n 3 t)
level-lt (negsuc n) t = omega (arith, clip-sub 1 (suc n))

-- ---- a band and an LM in their domain

-- they have an entry in the index
pub in_index : (band lm : ℤ) → band_ok band lm ≡ true → (level_of lm < 5) × (clip band < 21)
unfolding band_ok
in_index band lm t =
    let p = (and-eq-true_iff (in_range (pos 0) (pos 20) band) (in_range (negsuc 0) (pos 3) lm)).0 t in
    let q = range_clip (pos 0) 20 band p.0 in
    (level-lt lm p.1, omega arith)

-- ---- what the refusals of the cache tell

-- what is not 0 is 1 or more
none_or_some : (n : ℕ) → (n ≡ 0 → ⊥) → 1 ≤ n
none_or_some zero h = absurd (h refl)
none_or_some (suc n) h = omega arith

module _ (lm band : ℕ) where
  -- no 5: there is a row
  row-some : no_row lm band ≡ 0 → 1 ≤ index_entry lm band
  unfolding no_row
  row-some h =
      split_on (eqb (index_entry lm band) 0) (λ e. absurd (let z = rw e at h in omega (arith, z)))
      (λ e. none_or_some (index_entry lm band) (eqb-false (index_entry lm band) 0 e))

  -- nor a 6: the row has the index
  entry-some : (pulses : ℤ) → no_entry lm band pulses ≡ 0 → (1 ≤ index_entry lm band) × (clip pulses ≤ row_length (row_start lm band))
  unfolding no_entry
  entry-some pulses h =
      let within = in_range (pos 0) (pos (row_length (row_start lm band))) pulses in
      split_on (eqb (index_entry lm band) 0) (λ e. absurd (let z = rw e at h in omega (arith, z)))
      (λ e.
      split_on within (λ g. (
        none_or_some (index_entry lm band) (eqb-false (index_entry lm band) 0 e),
        range_clip (pos 0) (row_length (row_start lm band)) pulses
            g,
      ))
      (λ g. absurd (let z = rw (e, g) at h in omega (arith, z))))

-- ---- a passed gate

module _ (band lm : ℤ) where
  -- as a record
  has-row : band_ok band lm ≡ true → 1 ≤ index_entry (level_of lm) (clip band) → HasRow band lm
  has-row t h = let p = in_index band lm t in record { level-lt = p.0; band-lt = p.1; some = h }

  -- of bits2pulses
  pub bits-pass : (bits : ℤ) → refusal_of (band_ok band lm && bits_ok bits) (no_row (level_of lm) (clip band)) ≡ 0 → HasRow band lm × (clip bits ≤ 81600)
  unfolding bits_ok
  bits-pass bits h =
      let p = passed true (band_ok band lm && bits_ok bits) true (no_row (level_of lm) (clip band)) true true h in
      let q = (and-eq-true_iff (band_ok band lm) (bits_ok bits)).0 p.no_1 in
      (has-row q.0 (row-some (level_of lm) (clip band) p.no_special), range_clip (negsuc 81599) 81600 bits q.1)

  -- of pulses2bits
  pub pulses-pass : (pulses : ℤ) → refusal_of (band_ok band lm) (no_entry (level_of lm) (clip band) pulses) ≡ 0
      → HasRow band lm × (clip pulses ≤ row_length (row_start (level_of lm) (clip band)))
  pulses-pass pulses h =
      let p = passed true (band_ok band lm) true (no_entry (level_of lm) (clip band) pulses) true true h in
      let q = entry-some (level_of lm) (clip band) pulses p.no_special in
      (has-row p.no_1 q.0, q.1)

  -- the row is one that the search asks for
  pub row_is : HasRow band lm → CacheRow (row_start (level_of lm) (clip band))
  row_is h = row_at (level_of lm) (clip band) h.level-lt h.band-lt h.some

-- of get_pulses
pub index-pass : (i : ℤ) → refusal_of (in_range (pos 0) (pos 40) i) 0 ≡ 0 → clip i ≤ 40
index-pass i h = range_clip (pos 0) 40 i (passed true (in_range (pos 0) (pos 40) i) true 0 true true h).no_1

-- ---- a gate's two arms

-- they are not: 1
pub gate_off : (n : Bool) (special : ℕ) {r : ℕ} → r ≡ refusal_of false 0 → n ≡ false → r ≡ refusal_of n special
unfolding refusal
gate_off n special p e = rw (p, e)

-- ---- the answer by its number

-- a refusal
pub answer_no : (n v : ℕ) {m : ℕ} → m ≡ n → (m ≡ 0 → ⊥) → refused m ≡ answer n v
unfolding answer
answer_no zero v p h = absurd (h p)
answer_no (suc n) v p h = ap refused p

-- number 0: what was found
pub answer-yes : (n v : ℕ) {m w : ℕ} → m ≡ n → m ≡ 0 → w ≡ v → said (Ok w) ≡ answer n v
unfolding answer
answer-yes zero v p h q = ap done q
answer-yes (suc n) v p h q = absurd (omega arith)
