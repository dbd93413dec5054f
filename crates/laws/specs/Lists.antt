-- Lists under a test, and lists with some entries written.
use Rattle.std.specs.Prelude.{ℕ, zero, suc, ◌≤◌, ◌<◌, Bool, true, ◌&&◌, List, [], ◌∷◌, get_or, set}

module _ {A : Type 0} where
  -- every entry passes the test
  unfoldable pub every : (A → Bool) → List A → Bool
  every f [] = true
  every f (x ∷ l) = f x && every f l

  -- l with f i at each i of the n places from start on, the others unchanged
  unfoldable pub fill : (ℕ → A) → ℕ → ℕ → List A → List A
  fill f start zero l = l
  fill f start (suc n) l = set (fill f (suc start) n l) start (f start)

-- no entry is above m
abbrev pub AllLe : ℕ → List ℕ → Type 0
AllLe m l = (i : ℕ) → get_or l i 0 ≤ m

-- every entry is a byte
abbrev pub Bytes : List ℕ → Type 0
Bytes l = (i : ℕ) → get_or l i 0 < 256
