-- Lent symbols checked one after the other, and the number of their refusal. Assumes nothing.
use Prim.Native.Nat.{ℕ, suc, ◌+◌, ◌-◌, ◌/◌, ◌%◌, ◌≤◌, ◌<◌}
use mathlib.Core.Path.{◌≡◌, sym, ◌∙◌}
use mathlib.Core.Bool.{Bool, true, false, ◌&&◌}
use mathlib.Core.List.{List}
use native.Mathlib.Omega.{arith}
use lib.ListN.{length}
use borrow.Author.Tests.{eq-eqb, ne_eqb}
use Rattle.entcode.specs.Refusal.{refusal}
use Rattle.trip_call.specs.Given.{given_ok, givens_ok, refusal_given}

module _ (l : List ℕ) (room n i : ℕ) {x : Bool} (k : givens_ok l room (n - i) i ≡ x) where
  -- the test of the symbols from i on is that of symbol i, then of the others
  check_step : i < n → (given_ok room l i && givens_ok l room (n - (i + 1)) (i + 1)) ≡ x
  unfolding givens_ok
  check_step h =
      let p : n - i ≡ suc (n - (i + 1)) = omega arith in
      let q : suc i ≡ i + 1 = omega arith in
      rw (p, q) at k

  -- after the last symbol the test is passed
  pub check_end : n ≤ i → true ≡ x
  unfolding givens_ok
  check_end h = let p : n - i ≡ 0 = omega arith in rw p at k

  module _ {b : Bool} (h : i < n) (e : b ≡ given_ok room l i) where
    -- a good symbol leaves the others
    pub check_on : b ≡ true → givens_ok l room (n - (i + 1)) (i + 1) ≡ x
    check_on t = let y : given_ok room l i ≡ true = sym e ∙ t in rw y at (check_step h)

    -- a bad one fails the test
    pub check_no : b ≡ false → false ≡ x
    check_no t = let y : given_ok room l i ≡ false = sym e ∙ t in rw y at (check_step h)

-- ---- the number of the refusal

module _ (l tables : List ℕ) {r : ℕ} where
  -- with five numbers for each symbol, the symbols decide
  pub fives-yes : {b : Bool} → length l % 5 ≡ 0 → b ≡ givens_ok l (length tables) (length l / 5) 0 → r ≡ refusal true b true 0 true true
      → r ≡ refusal_given l tables
  unfolding refusal_given
  fives-yes h e k = rw (eq-eqb (length l % 5) 0 h, ← e) k

  -- without, the length is refused
  pub fives_no : (b : Bool) → (length l % 5 ≡ 0 → ⊥) → r ≡ refusal false b true 0 true true → r ≡ refusal_given l tables
  unfolding refusal_given refusal
  fives_no b h k = rw (ne_eqb (length l % 5) 0 h) k
