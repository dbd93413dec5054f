-- The first entries of a list under a test, one by one. Assumes nothing.
use Prim.Native.Nat.{ℕ, zero, suc, ◌<◌}
use mathlib.Core.Path.{◌≡◌, sym, ap, ◌∙◌}
use mathlib.Core.Bool.{Bool, true, ◌&&◌, and-true, and_assoc, and-eq-true_iff}
use mathlib.Core.List.{List, [], ◌∷◌}
use native.Mathlib.Omega.{arith}
use lib.ListN.{length, get_or, take}
use Rattle.laws.specs.Lists.{every}

module _ {A : Type 0} (f : A → Bool) (d : A) where
  -- one more of them
  pub every-last : (n : ℕ) (l : List A) → n < length l → every f (take (suc n) l) ≡ (every f (take n l) && f (get_or l n d))
  unfolding every
  every-last n [] h = absurd (omega arith)
  every-last zero (x ∷ l) h = and-true (f x)
  every-last (suc n) (x ∷ l) h =
      ap (λ (b : Bool). f x && b) (every-last n l (omega arith)) ∙ sym (and_assoc (f x) (every f (take n l)) (f (get_or l n d)))

  -- the tests of the places 0..n, joined
  unfoldable pub firsts : List A → ℕ → Bool
  firsts l zero = f (get_or l 0 d)
  firsts l (suc n) = firsts l n && f (get_or l (suc n) d)

  -- all of the first n + 1 are those tests
  pub every_first : (n : ℕ) (l : List A) → n < length l → every f (take (suc n) l) ≡ firsts l n
  unfolding every firsts
  every_first zero l h = every-last 0 l h
  every_first (suc n) l h =
      every-last (suc n) l h ∙ ap (λ (b : Bool). b && f (get_or l (suc n) d)) (every_first n l (omega arith))

  -- what they tell of one
  pub first-at : (n i : ℕ) (l : List A) → i < n → i < length l → every f (take n l) ≡ true → f (get_or l i d) ≡ true
  unfolding every
  first-at n i [] h g t = absurd (omega arith)
  first-at zero i (x ∷ l) h g t = absurd (omega arith)
  first-at (suc n) zero (x ∷ l) h g t = ((and-eq-true_iff (f x) (every f (take n l))).0 t).0
  first-at (suc n) (suc i) (x ∷ l) h g t =
      first-at n i l (omega arith) (omega arith) ((and-eq-true_iff (f x) (every f (take n l))).0 t).1
