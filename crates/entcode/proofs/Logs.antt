-- How many digits a range has, and the eighths of its logarithm: the crate's table of corrections against the RFC's three squarings.
-- Assumes nothing.
use Prim.Native.Nat.{ℕ, suc, ◌+◌, ◌-◌, ◌*◌, ◌/◌, ◌^◌, ◌≤◌, ◌<◌}
use mathlib.Core.Path.{◌≡◌, refl, ap, ◌∙◌}
use mathlib.Core.Bool.{Bool, true, cond}
use mathlib.Core.List.{List, [], ◌∷◌}
use native.Mathlib.Nat.{le-div_iff_mul-le, div-lt_iff_lt-mul}
use native.Mathlib.Omega.{arith}
use lib.Dec.{eqb, ltb}
use lib.ListN.{get_or}
use lib.Count.{leading_top}
use lib.Pow.{pow_mono, pow_pos, pow-add}
use borrow.Author.Tests.{eqb-true, ltb-true, lt-ltb, le-ltb}
use Rattle.laws.proofs.Tables.{run, run_at, below_at}
use Rattle.laws.proofs.Tests.{by_le}
use Rattle.entcode.specs.Range.{ilog}
use Rattle.entcode.specs.Tell.{eighths, top}

-- ---- digits

-- a number's digits: 2^(n - 1) up to 2^n
pub record Digits (r : ℕ) : Type 0 where
  pub digits-pos : 1 ≤ ilog r
  pub digits_le : ilog r ≤ 32
  pub from : 2 ^ (ilog r - 1) ≤ r
  pub to : r < 2 ^ ilog r

-- by the highest digit
pub digits : (r : ℕ) → 0 < r → r < 4294967296 → Digits r
digits r p q =
    let t = leading_top 32 r p q in
    let e : ilog r ≡ suc t.0 = omega (arith, t.1) in
    record {
      digits-pos = omega arith;
      digits_le = omega arith;
      from = let f : ilog r - 1 ≡ t.0 = omega arith in rw f t.2;
      to = rw e t.3;
    }

-- a number of at least 2^k has more than k digits
pub digits_from : (k r : ℕ) → 2 ^ k ≤ r → r < 4294967296 → k < ilog r
digits_from k r h q =
    let d = digits r (omega (arith, pow_pos k)) q in
    by_le (ilog r) k (λ l. let m : 2 ^ ilog r ≤ 2 ^ k = pow_mono l in absurd (omega (arith, d.to))) (λ l. l)

-- the top sixteen digits of a number that has as many
pub record Top (r : ℕ) : Type 0 where
  pub from : 32768 ≤ top r
  pub to : top r < 65536

-- a shift by all digits but sixteen
pub tops : (r : ℕ) → 32768 ≤ r → r < 4294967296 → Top r
tops r h q =
    let k : 15 < ilog r = digits_from 15 r h q in
    let d = digits r (omega arith) q in
    let a : 2 ^ (ilog r - 1) ≡ 32768 * 2 ^ (ilog r - 16) = (let e : ilog r - 1 ≡ 15 + (ilog r - 16) = omega arith in ap (λ (n : ℕ). 2 ^ n) e ∙ pow-add 2 15
    (ilog r - 16)) in
    let b : 2 ^ ilog r ≡ 65536 * 2 ^ (ilog r - 16) = (let e : ilog r ≡ 16 + (ilog r - 16) = omega arith in ap (λ (n : ℕ). 2 ^ n) e ∙ pow-add 2 16
    (ilog r - 16)) in
    let p = pow_pos (ilog r - 16) in
    record {
      from = (le-div_iff_mul-le p).1 (omega (arith, d.from));
      to = (div-lt_iff_lt-mul p).1 (omega (arith, d.to));
    }

-- ---- eighths

-- the crate's table
unfoldable pub corrections : List ℕ
corrections = 35733 ∷ 38967 ∷ 42495 ∷ 46340 ∷ 50535 ∷ 55109 ∷ 60097 ∷ 65535 ∷ []

-- the eighths by the table, as the code computes them
abbrev pub by_table : ℕ → ℕ
by_table r = cond (ltb (get_or corrections (r / 4096 - 8) 0) r) (r / 4096 - 8 + 1) (r / 4096 - 8)

-- the table is right at r
right : ℕ → Bool
unfolding eighths corrections
right r = eqb (by_table r) (eighths r)

-- and everywhere, by computing it
whole : run right 32768 32768 ≡ true
unfolding right
whole = refl

-- the table gives what three squarings do: all 32,768 numbers were computed
pub table_right : (r : ℕ) → 32768 ≤ r → r < 65536 → by_table r ≡ eighths r
unfolding right
table_right r h l = eqb-true (by_table r) (eighths r) (run_at right 32768 32768 whole r h (omega arith))

-- above its correction a number has one eighth more
pub eighth-above : (r : ℕ) → 32768 ≤ r → r < 65536 → get_or corrections (r / 4096 - 8) 0 < r → r / 4096 - 8 + 1 ≡ eighths r
eighth-above r h l p = simp (lt-ltb _ _ p) at (table_right r h l)

-- and up to it none
pub eighth_upto : (r : ℕ) → 32768 ≤ r → r < 65536 → r ≤ get_or corrections (r / 4096 - 8) 0 → r / 4096 - 8 ≡ eighths r
eighth_upto r h l p = simp (le-ltb _ _ p) at (table_right r h l)

-- entry k lies below the numbers whose top four digits are those of k + 9
in_block : ℕ → Bool
unfolding corrections
in_block k = ltb (get_or corrections k 0) (4096 * (k + 9))

-- all eight, by computing it
in_blocks : run in_block 0 8 ≡ true
unfolding in_block
in_blocks = refl

-- as a fact
block : (k : ℕ) → k < 8 → get_or corrections k 0 < 4096 * (k + 9)
unfolding in_block
block k m = ltb-true (get_or corrections k 0) (4096 * (k + 9)) (below_at in_block 8 in_blocks k m)

module _ (r : ℕ) (h : 32768 ≤ r) (l : r < 65536) where
  -- the same entry, where k is what the top four digits of r say
  same-entry : (k : ℕ) → k ≤ r / 4096 - 8 → r / 4096 - 8 ≤ k → get_or corrections k 0 ≡ get_or corrections (r / 4096 - 8) 0
  same-entry k a b = let e : k ≡ r / 4096 - 8 = omega arith in ap (λ (i : ℕ). get_or corrections i 0) e

  -- up to entry k three truncated squarings give at most k eighths
  pub upto_entry : (k : ℕ) → k < 8 → r ≤ get_or corrections k 0 → eighths r ≤ k
  upto_entry k m t =
      by_le r (get_or corrections (r / 4096 - 8) 0)
      (λ u. by_le (r / 4096 - 8) k (λ v. omega (arith, eighth_upto r h l u)) (λ v. absurd (omega (arith, block k m))))
      (λ u.
      by_le k (r / 4096 - 8)
      (λ v. by_le (r / 4096 - 8) k (λ w. absurd (omega (arith, same-entry k v w))) (λ w. absurd (omega (arith, block k m))))
      (λ v. omega (arith, eighth-above r h l u)))

  -- the last entry is the last of the numbers, so that none has eight
  pub eighths-most : eighths r ≤ 7
  unfolding corrections
  eighths-most = upto_entry 7 (omega arith) (omega arith)
