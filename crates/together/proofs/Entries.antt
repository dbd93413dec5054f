-- Entries in a range: a list whose every entry is, and one that was filled. Assumes nothing.
use Prim.Native.Nat.{ℕ, zero, suc, ◌-◌, ◌≤◌, ◌<◌}
use mathlib.Core.Bool.{Bool, true, and-eq-true_iff}
use mathlib.Core.List.{List, [], ◌∷◌}
use mathlib.Core.Logic.{inl, inr}
use mathlib.Core.Path.{◌≡◌, refl}
use native.Mathlib.Omega.{arith}
use lib.Dec.{leb}
use lib.IntN.{ℤ, pos}
use lib.ListN.{get_or, length, replicate}
use borrow.Author.Tests.{le-leb}
use Rattle.laws.specs.Lists.{every, fill}
use Rattle.laws.specs.Signs.{in_range}
use Rattle.laws.proofs.Lists.{fill-above, fill-below, fill_in, fill-length}
use Rattle.laws.proofs.Tests.{by_le}
use Rattle.together.specs.Finalise.{OthersIn}

-- a test that each entry passes, every one does
every_of : {A : Type 0} (f : A → Bool) (l : List A) (d : A) → ((i : ℕ) → i < length l → f (get_or l i d) ≡ true) → every f l ≡ true
unfolding every
every_of f [] d h = refl
every_of f (x ∷ l) d h = (and-eq-true_iff (f x) (every f l)).1 (h 0 (omega arith), every_of f l d (λ i g. h (suc i) (omega arith)))

-- a count up to most
count_in : (most n : ℕ) → n ≤ most → in_range (pos 0) (pos most) (pos n) ≡ true
count_in most n h = (and-eq-true_iff (leb 0 n) (leb n most)).1 (le-leb 0 n (omega arith), le-leb n most h)

-- counts up to most in the places start..end-1, and entries in range elsewhere
pub filled_in : (most : ℕ) (f : ℕ → ℕ) (start end : ℕ) (l : List ℤ) → ((j : ℕ) → f j ≤ most) → OthersIn most start end l
    → every (in_range (pos 0) (pos most)) (fill (λ j. pos (f j)) start (end - start) l) ≡ true
filled_in most f start end l h o = every_of (in_range (pos 0) (pos most)) (fill g start n l) (pos 0) at
  where
    g : ℕ → ℤ
    g j = pos (f j)

    n : ℕ
    n = end - start

    at : (i : ℕ) → i < length (fill g start n l) → in_range (pos 0) (pos most) (get_or (fill g start n l) i (pos 0)) ≡ true
    at i k =
        by_le start i
        (λ p.
        by_le end i (λ q. rw (fill-above g n start i l (pos 0) (omega arith)) (o i (inr q)))
        (λ q. rw (fill_in g n start i l (pos 0) p (omega arith) (omega (arith, fill-length g n start l))) (count_in most (f i) (h i))))
        (λ p. rw (fill-below g n start i l (pos 0) p) (o i (inl p)))

-- zeros
zero-at : (n i : ℕ) → get_or (replicate n (pos 0)) i (pos 0) ≡ pos 0
zero-at zero i = refl
zero-at (suc n) zero = refl
zero-at (suc n) (suc i) = zero-at n i

-- every entry of a list of zeros is in range
pub zeros_in : (most start end n : ℕ) → OthersIn most start end (replicate n (pos 0))
zeros_in most start end n i h = rw (zero-at n i) (count_in most 0 (omega arith))
