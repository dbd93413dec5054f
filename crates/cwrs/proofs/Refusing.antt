-- What the refusals tell: the domain as facts, and the numbers 7 and 8, which count only behind 2 and 1. Assumes nothing.
use Prim.Native.Nat.{ℕ, ◌≤◌, ◌<◌}
use mathlib.Core.Path.{◌≡◌, refl}
use mathlib.Core.Bool.{Bool, true, false, cond, ◌&&◌, and-eq-true_iff}
use mathlib.Core.List.{List}
use native.Mathlib.Omega.{arith}
use lib.Dec.{eqb}
use lib.IntN.{ℤ}
use lib.ListN.{take}
use borrow.Author.Tests.{leb-true, eqb-true, lt-ltb, le-ltb, eq-eqb, ne_eqb}
use Rattle.laws.proofs.Tests.{by_le, split_on}
use Rattle.entcode.specs.Refusal.{refusal}
use Rattle.entdec.specs.declared.Reader.{Reader}
use Rattle.entdec.specs.Rule.{reader_ok, read_refusal}
use Rattle.entcode.proofs.Refusals.{passed}
use Rattle.entenc.specs.declared.Writer.{Writer}
use Rattle.entenc.specs.Rule.{writer_ok, is_open, write_refusal}
use Rattle.cwrs_counts.specs.Count.{Vn}
use Rattle.cwrs.specs.Word.{pulses}
use Rattle.cwrs.specs.Answer.{in_domain, special_read, special_write}

-- `in_domain` as facts
pub record Domain (n k : ℕ) : Type 0 where
  pub n_low : 2 ≤ n
  pub n_high : n ≤ 176
  pub k_low : 1 ≤ k
  pub k_high : k ≤ 128

-- the test gives the facts
pub domain : (n k : ℕ) → in_domain n k ≡ true → Domain n k
domain n k e =
    let a = (and-eq-true_iff _ _).0 e in
    let b = (and-eq-true_iff _ _).0 a.0 in
    let c = (and-eq-true_iff _ _).0 b.0 in
    record {
      n_low = leb-true 2 n c.0;
      n_high = leb-true n 176 c.1;
      k_low = leb-true 1 k b.1;
      k_high = leb-true k 128 a.1;
    }

-- ---- reading

module _ (n k : ℕ) where
  -- the count fits: no refusal
  pub read_none : Vn n k < 4294967296 → 0 ≡ special_read n k
  unfolding special_read
  read_none h = rw (lt-ltb (Vn n k) 4294967296 h)

  -- it does not: 7
  pub read_seven : 4294967296 ≤ Vn n k → 7 ≡ special_read n k
  unfolding special_read
  read_seven h = rw (le-ltb (Vn n k) 4294967296 h)

  -- no refusal: it fits
  pub read_fits : special_read n k ≡ 0 → Vn n k < 4294967296
  unfolding special_read
  read_fits e = by_le 4294967296 (Vn n k) (λ h. absurd (omega (arith, rw (le-ltb (Vn n k) 4294967296 h) at e))) (λ h. h)

-- ---- writing

module _ (y : List ℤ) (n k : ℕ) where
  -- the count does not fit: 7, whatever the vector is
  pub write_seven : 4294967296 ≤ Vn n k → 7 ≡ special_write y n k
  unfolding special_write
  write_seven h = rw (le-ltb (Vn n k) 4294967296 h)

  -- it fits, and the pulses are k: no refusal
  pub write-none : Vn n k < 4294967296 → pulses (take n y) ≡ k → 0 ≡ special_write y n k
  unfolding special_write
  write-none h e = rw (lt-ltb (Vn n k) 4294967296 h, eq-eqb (pulses (take n y)) k e)

  -- it fits, and they are not: 8
  pub write_eight : Vn n k < 4294967296 → (pulses (take n y) ≡ k → ⊥) → 8 ≡ special_write y n k
  unfolding special_write
  write_eight h e = rw (lt-ltb (Vn n k) 4294967296 h, ne_eqb (pulses (take n y)) k e)

  -- no refusal: both
  pub write-fits : special_write y n k ≡ 0 → (Vn n k < 4294967296) × (pulses (take n y) ≡ k)
  unfolding special_write
  write-fits e =
      by_le 4294967296 (Vn n k) (λ h. absurd (omega (arith, rw (le-ltb (Vn n k) 4294967296 h) at e)))
      (λ h.
      let f = rw (lt-ltb (Vn n k) 4294967296 h) at e in
      (h, split_on (eqb (pulses (take n y)) k) (λ t. eqb-true (pulses (take n y)) k t) (λ t. absurd (omega (arith, rw t at f)))))

-- ---- the call's own number, special, counts only where lengths and numbers are right

-- so the code may compute it as 0 where an earlier refusal applies
pub late : (a lengths ok numbers lists : Bool) (special p : ℕ) (unclosed tell_fits : Bool) → (lengths ≡ true → numbers ≡ true → special ≡ p)
    → refusal (a && lengths) (ok && numbers) lists special unclosed tell_fits ≡ refusal (a && lengths) (ok && numbers) lists p unclosed tell_fits
unfolding refusal
late false lengths ok numbers lists special p unclosed tell_fits e = refl
late true false ok numbers lists special p unclosed tell_fits e = refl
late true true false numbers lists special p unclosed tell_fits e = refl
late true true true false lists special p unclosed tell_fits e = refl
late true true true true lists special p unclosed tell_fits e = rw (e refl refl)

-- x is the test of the numbers, as the code has it
pub late_read : (m : ℕ) (d : Reader) (lengths numbers : Bool) (p : ℕ) {x : Bool} {special : ℕ} → x ≡ numbers → special ≡ cond numbers p 0
    → read_refusal m d lengths x true special ≡ read_refusal m d lengths numbers true p
unfolding read_refusal
late_read m d lengths numbers p {x} {special} e f =
    rw e (late (eqb d.storage m) lengths (reader_ok d) numbers true special p true _ (λ g h. rw h at f))

-- the same for a write, whose vector is looked at only where its length is right
pub late_write : (m : ℕ) (w : Writer) (lengths numbers : Bool) (p : ℕ) {x : Bool} {special : ℕ} → x ≡ numbers → special ≡ cond (lengths && numbers) p 0
    → write_refusal m w lengths x true special ≡ write_refusal m w lengths numbers true p
unfolding write_refusal
late_write m w lengths numbers p {x} {special} e f =
    rw e (late (eqb w.sink.storage m) lengths (writer_ok w) numbers true special p (is_open w) _ (λ g h. rw (g, h) at f))

-- ---- number 0 of a call that writes, as facts

-- the tests that a write has passed
pub record Opened (m : ℕ) (w : Writer) (lengths numbers : Bool) (special : ℕ) : Type 0 where
  pub whole : w.sink.storage ≡ m
  pub sizes : lengths ≡ true
  pub state : writer_ok w ≡ true
  pub known : numbers ≡ true
  pub none : special ≡ 0

-- number 0 gives them
pub opened : (m : ℕ) (w : Writer) (lengths numbers : Bool) (special : ℕ) → write_refusal m w lengths numbers true special ≡ 0
    → Opened m w lengths numbers special
unfolding write_refusal
opened m w lengths numbers special h =
    let p = passed _ _ _ _ _ _ h in
    let a = (and-eq-true_iff (eqb w.sink.storage m) lengths).0 p.no_2 in
    let b = (and-eq-true_iff (writer_ok w) numbers).0 p.no_1 in
    record { whole = eqb-true w.sink.storage m a.0; sizes = a.1; state = b.0; known = b.1; none = p.no_special }
