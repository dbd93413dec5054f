-- The test of a falling table, one entry at a time. Assumes nothing.
use Prim.Native.Nat.{ℕ, ◌+◌, ◌^◌, ◌≤◌, ◌<◌}
use mathlib.Core.Path.{◌≡◌, sym}
use mathlib.Core.List.{List, [], ◌∷◌}
use mathlib.Core.Bool.{false}
use native.Mathlib.Numerals.{add-one}
use native.Mathlib.Omega.{arith}
use lib.ListN.{length, get_or, drop, drop_of_length-le}
use lib.Seq.{drop-cons}
use lib.Dec.{eqb}
use lib.Pow.{pow_mono, pow_pos}
use borrow.Author.Tests.{lt-ltb, le-ltb, ne_eqb}
use Rattle.entcode.specs.Sym.{falls}

module _ (p : ℕ) (t : List ℕ) (i : ℕ) where
  -- an entry that falls
  pub falls-step : i < length t → get_or t i 0 < p → falls p (drop i t) ≡ falls (get_or t i 0) (drop (i + 1) t)
  unfolding falls
  falls-step h l = simp (add-one, drop-cons t i 0 h, lt-ltb _ _ l)

  -- one that does not
  pub falls-stop : i < length t → p ≤ get_or t i 0 → falls p (drop i t) ≡ false
  unfolding falls
  falls-stop h l = simp (drop-cons t i 0 h, le-ltb _ _ l)

  -- past the last entry, which must be 0
  pub falls-end : length t ≤ i → falls p (drop i t) ≡ eqb p 0
  unfolding falls
  falls-end h = rw (drop_of_length-le t h)

-- from 2^8 on the bound on the first byte says nothing
pub falls-top : (k : ℕ) (t : List ℕ) → 8 ≤ k → get_or t 0 0 < 256 → falls 256 t ≡ falls (2 ^ k) t
unfolding falls
falls-top k [] h l = sym (ne_eqb (2 ^ k) 0 (λ e. omega (arith, pow_pos k)))
falls-top k (x ∷ xs) h l = simp (lt-ltb x 256 l, lt-ltb x (2 ^ k) (omega (arith, pow_mono h)))
