-- Two f32 above 0 of one size are one value, and so only one is nearest to a root. Assumes nothing.
use Prim.Native.Nat.{ℕ, ◌+◌, ◌-◌, ◌*◌, ◌/◌, ◌^◌, ◌<◌, ◌≤◌}
use mathlib.Core.Path.{◌≡◌, sym, ap, ◌∙◌, subst}
use mathlib.Core.Logic.{◌⊎◌, inl, inr}
use mathlib.Core.Bool.{false}
use native.Mathlib.Nat.{add_comm, le_antisymm, lt_irrefl, lt_trans, mul_comm, mul_right_comm}
use lib.Dec.{T, lt→ltb}
use lib.IntN.{ℤ}
use lib.Ieee.{Float, fin, Format, binary32, up, down, fits, lt, to_bits, of_bits, size, prec, low, hid}
use lib.Ieee.Bits.{of_bits-to_bits}
use lib.Ieee.Fits.{down_pos}
use lib.Ieee.Nearest.{div_same}
use lib.Ieee.Positive.{num, den, positive}
use Rattle.laws.proofs.Tests.{le_or_lt}
use Rattle.vq.specs.Root.{sq, root_of, Nearest}
use Rattle.vq.proofs.Nearer.{root_nearest}

-- equal fractions have the same bits
bits-same : (f : Format) (m n : ℕ) (e d : ℤ) → m * up e * down d ≡ n * up d * down e → to_bits f (fin false m e) ≡ to_bits f (fin false n d)
unfolding to_bits
bits-same f m n e d h =
    ap (λ (x : ℕ). 0 + (size x - prec f) * hid f + x / 2 ^ (size x - prec f))
    (div_same (m * up e * 2 ^ low f) (down e) (n * up d * 2 ^ low f) (down d) (down_pos e) (down_pos d)
    (mul_right_comm (m * up e) (2 ^ low f) (down d) ∙ ap (λ (x : ℕ). x * 2 ^ low f) h ∙ mul_right_comm (n * up d) (down e) (2 ^ low f)))

-- so they are one value
same_size : (f : Format) (x y : Float) → T (fits f x) → T (fits f y) → T (positive x) → T (positive y) → num x * den y ≡ num y * den x → x ≡ y
same_size f lib.Ieee.nan y a b p q h = elim p [ ]
same_size f (lib.Ieee.inf _) y a b p q h = elim p [ ]
same_size f (fin false m e) lib.Ieee.nan a b p q h = elim q [ ]
same_size f (fin false m e) (lib.Ieee.inf _) a b p q h = elim q [ ]
same_size f (fin false m e) (fin mathlib.Core.Bool.true n d) a b p q h = elim q [ ]
same_size f (fin mathlib.Core.Bool.true m e) y a b p q h = elim p [ ]
same_size f (fin false m e) (fin false n d) a b p q h =
    sym (of_bits-to_bits f (fin false m e) a) ∙ ap (of_bits f) (bits-same f m n e d h) ∙ of_bits-to_bits f (fin false n d) b

-- the order of two values, from whole numbers
cross→lt : (x y : Float) → T (positive x) → T (positive y) → num x * den y < num y * den x → T (lt x y)
unfolding lt
cross→lt lib.Ieee.nan y p q h = elim p [ ]
cross→lt (lib.Ieee.inf _) y p q h = elim p [ ]
cross→lt (fin false m e) lib.Ieee.nan p q h = elim q [ ]
cross→lt (fin false m e) (lib.Ieee.inf _) p q h = elim q [ ]
cross→lt (fin false m e) (fin mathlib.Core.Bool.true n d) p q h = elim q [ ]
cross→lt (fin mathlib.Core.Bool.true m e) y p q h = elim p [ ]
cross→lt (fin false m e) (fin false n d) p q h = lt→ltb (m * up e * down d) (n * up d * down e) h

-- r is below t: the middle's square is above n, by r, and below n, by t
clash : (n : ℕ) (r t : Float) → Nearest n r → Nearest n t → T (lt r t) → ⊥
clash n r t a b l =
    lt_irrefl (4 * n * sq (den r * den t))
    (lt_trans (a.under t b.held b.plus l)
    (subst (λ (x : ℕ). sq x < 4 * n * sq (den r * den t)) (add_comm (num t * den r) (num r * den t))
    (subst (λ (x : ℕ). sq (num t * den r + num r * den t) < 4 * n * sq x) (mul_comm (den t) (den r)) (b.over r a.held a.plus l))))

-- any two nearest are equal
pub unique : (n : ℕ) (r t : Float) → Nearest n r → Nearest n t → r ≡ t
unique n r t a b = go (le_or_lt (num r * den t) (num t * den r)) (le_or_lt (num t * den r) (num r * den t))
  where
    go : (num r * den t ≤ num t * den r) ⊎ (num t * den r < num r * den t) → (num t * den r ≤ num r * den t) ⊎ (num r * den t < num t * den r) → r ≡ t
    go (inl h) (inl k) = same_size binary32 r t a.held b.held a.plus b.plus (le_antisymm h k)
    go (inl h) (inr k) = absurd (clash n r t a b (cross→lt r t a.plus b.plus k))
    go (inr h) k = absurd (clash n t r b a (cross→lt t r b.plus a.plus h))

-- so the nearest is the definition's
pub root_only : (n : ℕ) (r : Float) → 0 < n → n < 2 ^ 48 → Nearest n r → r ≡ root_of n
root_only n r p h a = unique n r (root_of n) a (root_nearest n p h)
