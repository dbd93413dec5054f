-- Sums over places: split, compared, bounded, and one place on. Assumes nothing.
use Prim.Native.Nat.{ℕ, zero, suc, ◌+◌, ◌-◌, ◌≤◌, ◌<◌}
use mathlib.Core.Path.{◌≡◌, refl}
use native.Mathlib.Omega.{arith}
use Rattle.laws.specs.Places.{sum_of}

module _ (f : ℕ → ℕ) where
  -- over no place
  pub sum-none : (start : ℕ) → sum_of f start 0 ≡ 0
  unfolding sum_of
  sum-none start = refl

  -- the first place apart
  pub sum_first : (start n : ℕ) → sum_of f start (suc n) ≡ f start + sum_of f (suc start) n
  unfolding sum_of
  sum_first start n = refl

  -- over n places and then m
  pub sum_append : (n m start : ℕ) → sum_of f start (n + m) ≡ sum_of f start n + sum_of f (start + n) m
  unfolding sum_of
  sum_append zero m start =
      let e : 0 + m ≡ m = omega arith in
      let g : start + 0 ≡ start = omega arith in
      rw (e, g) (omega arith)
  sum_append (suc n) m start =
      let e : suc n + m ≡ suc (n + m) = omega arith in
      let g : start + suc n ≡ suc start + n = omega arith in
      rw (e, g) (omega (arith, sum_append n m (suc start)))

  -- the last place apart
  pub sum-last : (n start : ℕ) → sum_of f start (suc n) ≡ sum_of f start n + f (start + n)
  sum-last n start =
      let e : suc n ≡ n + 1 = omega arith in
      rw e (omega (arith, sum_append n 1 start, sum_first (start + n) 0, sum-none (suc (start + n))))

  -- a loop that goes up from start, and one that goes down from end
  pub sum-up : (start i : ℕ) {s r : ℕ} → start ≤ i → s ≡ sum_of f start (i - start) → r ≡ f i → s + r ≡ sum_of f start (i + 1 - start)
  sum-up start i h p q =
      let e : i + 1 - start ≡ suc (i - start) = omega arith in
      let g : start + (i - start) ≡ i = omega arith in
      rw (e, sum-last (i - start) start, g, p, q)

  -- one place more, downwards
  pub sum-down : (i end : ℕ) {s r : ℕ} → 0 < i → i ≤ end → s ≡ sum_of f i (end - i) → r ≡ f (i - 1) → s + r ≡ sum_of f (i - 1) (end - (i - 1))
  sum-down i end h g p q =
      let e : end - (i - 1) ≡ suc (end - i) = omega arith in
      let t : suc (i - 1) ≡ i = omega arith in
      rw (e, sum_first (i - 1) (end - i), t) (omega arith)

  -- each 0
  pub sum-zero : (n start : ℕ) → ((i : ℕ) → start ≤ i → i < start + n → f i ≡ 0) → sum_of f start n ≡ 0
  unfolding sum_of
  sum-zero zero start h = refl
  sum-zero (suc n) start h = omega (arith, h start (omega arith) (omega arith), sum-zero n (suc start) (λ i p q. h i (omega arith) (omega arith)))

module _ (f g : ℕ → ℕ) where
  -- each at most the other
  pub sum_mono : (n start : ℕ) → ((i : ℕ) → start ≤ i → i < start + n → f i ≤ g i) → sum_of f start n ≤ sum_of g start n
  unfolding sum_of
  sum_mono zero start h = omega arith
  sum_mono (suc n) start h = omega (arith, h start (omega arith) (omega arith), sum_mono n (suc start) (λ i p q. h i (omega arith) (omega arith)))

  -- each the same
  pub sum_same : (n start : ℕ) → ((i : ℕ) → start ≤ i → i < start + n → f i ≡ g i) → sum_of f start n ≡ sum_of g start n
  unfolding sum_of
  sum_same zero start h = refl
  sum_same (suc n) start h = omega (arith, h start (omega arith) (omega arith), sum_same n (suc start) (λ i p q. h i (omega arith) (omega arith)))
