-- A difference of two counts as a signed number: a formula with signs, and the same with the negative parts on the other side.
-- Assumes nothing.
use Prim.Native.Nat.{ℕ, zero, suc, ◌+◌, ◌-◌, ◌≤◌, ◌<◌}
use mathlib.Core.Path.{◌≡◌, refl, sym, ap, ◌∙◌}
use native.Mathlib.Omega.{arith}
use lib.Dec.{ltb, leb}
use lib.IntN.{ℤ, pos, negsuc, ◌+ℤ◌, ◌-ℤ◌, sub_ℕ}
use lib.Signed.{lt_z, le_z}
use borrow.Author.Tests.{lt-ltb, le-ltb, le-leb, lt-leb}
use Rattle.laws.specs.Signs.{clip}
use Rattle.laws.proofs.Tests.{by_le}

-- u - d
module _ (u d : ℕ) where
  -- at or above 0
  pub sub-pos : d ≤ u → sub_ℕ u d ≡ pos (u - d)
  sub-pos h = rw (le-ltb u d h)

  -- below 0
  pub sub-neg : u < d → sub_ℕ u d ≡ negsuc (d - suc u)
  sub-neg h = rw (lt-ltb u d h)

  -- a fact about u - d, by its sign
  pub by_sign : (P : ℤ → Type 0) → (d ≤ u → P (pos (u - d))) → (u < d → P (negsuc (d - suc u))) → P (sub_ℕ u d)
  by_sign P f g = by_le d u (λ h. rw (sub-pos h) (f h)) (λ h. rw (sub-neg h) (g h))

-- two differences are one number where the sums across are
pub sub_same : (u d v e : ℕ) → u + e ≡ v + d → sub_ℕ u d ≡ sub_ℕ v e
sub_same u d v e p =
    by_sign u d (λ z. z ≡ sub_ℕ v e) (λ h. let g : u - d ≡ v - e = omega arith in rw g (sym (sub-pos v e (omega arith))))
    (λ h. let g : d - suc u ≡ e - suc v = omega arith in rw g (sym (sub-neg v e (omega arith))))

-- a count added in front
pub add-sub : (r u d : ℕ) → pos r +ℤ sub_ℕ u d ≡ sub_ℕ (r + u) d
add-sub r u d =
    by_sign u d (λ z. pos r +ℤ z ≡ sub_ℕ (r + u) d)
    (λ h. let g : r + (u - d) ≡ r + u - d = omega arith in rw g (sym (sub-pos (r + u) d (omega arith))))
    (λ h. sub_same r (suc (d - suc u)) (r + u) d (omega arith))

-- a count added behind
pub sub-add : (u d r : ℕ) → sub_ℕ u d +ℤ pos r ≡ sub_ℕ (u + r) d
sub-add u d r =
    by_sign u d (λ z. z +ℤ pos r ≡ sub_ℕ (u + r) d)
    (λ h. let g : u - d + r ≡ u + r - d = omega arith in rw g (sym (sub-pos (u + r) d (omega arith))))
    (λ h. sub_same r (suc (d - suc u)) (u + r) d (omega arith))

-- a count taken away
pub sub_less : (u d c : ℕ) → sub_ℕ u d -ℤ pos c ≡ sub_ℕ u (d + c)
sub_less u d zero =
    let e : d + 0 ≡ d = omega arith in
    let g : u + 0 ≡ u = omega arith in
    rw e (rw g at (sub-add u d 0))
sub_less u d (suc c) =
    by_sign u d (λ z. z +ℤ negsuc c ≡ sub_ℕ u (d + suc c)) (λ h. sub_same (u - d) (suc c) u (d + suc c) (omega arith))
    (λ h. let g : suc (d - suc u + c) ≡ d + suc c - suc u = omega arith in rw g (sym (sub-neg u (d + suc c) (omega arith))))

-- one count less another
pub pos_less : (t k : ℕ) → pos t -ℤ pos k ≡ sub_ℕ t k
pos_less t zero = let g : t + 0 ≡ t - 0 = omega arith in ap pos g ∙ sym (sub-pos t 0 (omega arith))
pos_less t (suc k) = refl

-- ---- cut off at 0, and compared

-- cut off at 0 it is the difference of counts
pub clip-sub : (u d : ℕ) → clip (sub_ℕ u d) ≡ u - d
clip-sub u d = by_sign u d (λ z. clip z ≡ u - d) (λ h. refl) (λ h. omega arith)

-- below a count: the negative part goes to the other side
pub lt-sub : (u d c : ℕ) → lt_z (sub_ℕ u d) (pos c) ≡ ltb u (c + d)
lt-sub u d c =
    by_sign u d (λ z. lt_z z (pos c) ≡ ltb u (c + d))
    (λ h.
    by_le (suc u) (c + d) (λ p. lt-ltb (u - d) c (omega arith) ∙ sym (lt-ltb u (c + d) p))
    (λ p. le-ltb (u - d) c (omega arith) ∙ sym (le-ltb u (c + d) (omega arith))))
    (λ h. sym (lt-ltb u (c + d) (omega arith)))

-- at most a count: the same
pub le-sub : (u d c : ℕ) → le_z (sub_ℕ u d) (pos c) ≡ leb u (c + d)
le-sub u d c =
    by_sign u d (λ z. le_z z (pos c) ≡ leb u (c + d))
    (λ h.
    by_le u (c + d) (λ p. le-leb (u - d) c (omega arith) ∙ sym (le-leb u (c + d) p))
    (λ p. lt-leb (u - d) c (omega arith) ∙ sym (lt-leb u (c + d) p)))
    (λ h. sym (le-leb u (c + d) (omega arith)))
