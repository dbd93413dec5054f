-- The cleared gap: zeros between the two places, and every other byte as it was.
use Prim.Native.Nat.{ℕ, zero, suc, ◌+◌, ◌≤◌, ◌<◌}
use mathlib.Core.Path.{◌≡◌, refl, ap, ◌∙◌}
use mathlib.Core.List.{List}
use native.Mathlib.Numerals.{add-one}
use native.Mathlib.Omega.{arith}
use lib.ListN.{length, get_or, set}
use lib.Seq.{set_comm}
use Rattle.laws.specs.Lists.{fill, Bytes}
use Rattle.laws.proofs.Lists.{fill_in, fill-below, fill-above, fill-keeps}
use Rattle.entenc_sink.specs.Gap.{zeroed}

-- a store before the filled places
fill-set : (f : ℕ → ℕ) (n start i x : ℕ) (l : List ℕ) → i < start → fill f start n (set l i x) ≡ set (fill f start n l) i x
unfolding fill
fill-set f zero start i x l h = refl
fill-set f (suc n) start i x l h =
    ap (λ (k : List ℕ). set k start (f start)) (fill-set f n (suc start) i x l (omega arith))
    ∙ set_comm (fill f (suc start) n l) i start x (f start) (λ (e : i ≡ start). omega arith)

-- clearing fills with zeros
zeroed-fill : (n a : ℕ) (l : List ℕ) → zeroed n a l ≡ fill (λ i. 0) a n l
unfolding zeroed fill
zeroed-fill zero a l = refl
zeroed-fill (suc n) a l = zeroed-fill n (a + 1) (set l a 0) ∙ rw add-one (fill-set (λ i. 0) n (suc a) a 0 l (omega arith))

-- bytes before the gap stay
pub zeroed-below : (n a : ℕ) (l : List ℕ) (i : ℕ) → i < a → get_or (zeroed n a l) i 0 ≡ get_or l i 0
zeroed-below n a l i h = rw (zeroed-fill n a l) (fill-below (λ i. 0) n a i l 0 h)

-- bytes after it stay
pub zeroed-above : (n a : ℕ) (l : List ℕ) (i : ℕ) → a + n ≤ i → get_or (zeroed n a l) i 0 ≡ get_or l i 0
zeroed-above n a l i h = rw (zeroed-fill n a l) (fill-above (λ i. 0) n a i l 0 h)

-- in it there are zeros
pub zeroed_in : (n a : ℕ) (l : List ℕ) (i : ℕ) → a ≤ i → i < a + n → i < length l → get_or (zeroed n a l) i 0 ≡ 0
zeroed_in n a l i h k m = rw (zeroed-fill n a l) (fill_in (λ i. 0) n a i l 0 h k m)

-- bytes stay bytes
pub zeroed-bytes : (n a : ℕ) (l : List ℕ) → Bytes l → Bytes (zeroed n a l)
zeroed-bytes n a l h i = rw (zeroed-fill n a l) (fill-keeps (λ i. 0) (λ x. x < 256) n a l 0 (λ k p q. omega arith) i (h i))
