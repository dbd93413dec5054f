-- What the refusals tell: the domain as facts, the call's own numbers, and the answers by the number. Assumes nothing.
use Rattle.std.specs.Prelude.{Ok}
use Prim.Native.Nat.{ℕ, zero, suc, ◌*◌, ◌%◌, ◌≤◌, ◌<◌}
use mathlib.Core.Path.{◌≡◌, refl}
use mathlib.Core.Bool.{Bool, true, false, ◌&&◌, and-eq-true_iff}
use mathlib.Core.List.{List}
use native.Mathlib.Omega.{arith}
use lib.Dec.{ltb, eqb}
use lib.IntN.{ℤ, pos}
use lib.Ieee.{Float}
use lib.Signed.{le_z}
use borrow.Author.Tests.{lt-ltb, le-ltb, eqb-true}
use Rattle.laws.specs.Signs.{clip, in_range}
use Rattle.laws.proofs.Tests.{by_le}
use Rattle.laws.proofs.Signs.{CountIn, range_count}
use Rattle.entcode.specs.Said.Said.{refused}
use Rattle.entcode.specs.Said.{answer, lent_after}
use Rattle.entdec.specs.declared.Reader.{Reader}
use Rattle.entdec.specs.Rule.{reader_ok, read_refusal}
use Rattle.cwrs_counts.specs.Count.{Vn}
use Rattle.cwrs.proofs.Refusing.{late}
use Rattle.vq.specs.declared.ReadShape.{ReadShape}
use Rattle.vq.specs.Answer.{length_ok, numbers_ok, special_shape, after, answer_r}

-- ---- the domain

-- `numbers_ok` as facts
pub record Domain (n k spread b : ℤ) : Type 0 where
  pub places : CountIn 2 176 n
  pub pulses : CountIn 1 128 k
  pub spreads : CountIn 0 3 spread
  pub parts : CountIn 1 16 b
  pub whole : clip n % clip b ≡ 0

module _ (n k spread b : ℤ) (e : numbers_ok n k spread b ≡ true) where
  -- the tests of N and K, which the call's own numbers depend on
  pub counted : (in_range (pos 2) (pos 176) n && in_range (pos 1) (pos 128) k) ≡ true
  unfolding numbers_ok
  counted =
      let a = (and-eq-true_iff _ _).0 e in
      ((and-eq-true_iff _ _).0 a.0).0

  -- the test gives the facts
  pub domain : Domain n k spread b
  unfolding numbers_ok
  domain =
      let a = (and-eq-true_iff _ _).0 e in
      let c = (and-eq-true_iff _ _).0 a.0 in
      let d = (and-eq-true_iff _ _).0 c.0 in
      let p = (and-eq-true_iff _ _).0 a.1 in
      record {
        places = range_count 2 176 n d.0;
        pulses = range_count 1 128 k d.1;
        spreads = range_count 0 3 spread c.1;
        parts = range_count 1 16 b p.0;
        whole = eqb-true (clip n % clip b) 0 p.1;
      }

-- the test of the length tells it
pub length-is : (n : ℤ) (places : ℕ) → length_ok n places ≡ true → clip n ≡ places
length-is n places e = eqb-true (clip n) places ((and-eq-true_iff (le_z (pos 0) n) (eqb (clip n) places)).0 e).1

-- ---- the call's own numbers, 7 and then 9

module _ (n k spread : ℕ) where
  -- the count does not fit: 7
  pub special_seven : 4294967296 ≤ Vn n k → 7 ≡ special_shape n k spread
  unfolding special_shape
  special_seven h = rw (le-ltb (Vn n k) 4294967296 h)

  -- it fits, and a rotation would be due: 9
  pub special_nine : Vn n k < 4294967296 → (ltb (2 * k) n && ltb 0 spread) ≡ true → 9 ≡ special_shape n k spread
  unfolding special_shape
  special_nine h e = rw (lt-ltb (Vn n k) 4294967296 h, e)

  -- it fits, and none would: no refusal
  pub special_none : Vn n k < 4294967296 → (ltb (2 * k) n && ltb 0 spread) ≡ false → 0 ≡ special_shape n k spread
  unfolding special_shape
  special_none h e = rw (lt-ltb (Vn n k) 4294967296 h, e)

  -- no refusal: it fits
  pub special_fits : special_shape n k spread ≡ 0 → Vn n k < 4294967296
  unfolding special_shape
  special_fits e = by_le 4294967296 (Vn n k) (λ h. absurd (omega (arith, rw (le-ltb (Vn n k) 4294967296 h) at e))) (λ h. h)

-- they count only where the numbers are right
pub late_special : (m : ℕ) (d : Reader) (lengths numbers lists : Bool) {special p : ℕ} → (numbers ≡ true → special ≡ p)
    → read_refusal m d lengths numbers lists special ≡ read_refusal m d lengths numbers lists p
unfolding read_refusal
late_special m d lengths numbers lists {special} {p} e = late (eqb d.storage m) lengths (reader_ok d) numbers lists special p true _ (λ g h. e h)

-- ---- the answers by the number

-- number 0: what was read, and its shape
pub answer_got : (m : ℕ) (r : ReadShape) (v x : List Float) → m ≡ 0 → after (Ok r) v ≡ answer_r m r v x
unfolding answer lent_after
answer_got m r v x e = rw e

-- any other: the refusal, and the shape as it was
pub answer-refused : (m : ℕ) (r : ReadShape) (v x : List Float) → (m ≡ 0 → ⊥) → record { said = refused m; shape = x } ≡ answer_r m r v x
unfolding answer lent_after
answer-refused zero r v x h = absurd (h refl)
answer-refused (suc m) r v x h = refl
