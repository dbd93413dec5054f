-- What an accepted call tells of its numbers and lists, and an answer by its number. Assumes nothing.
use Rattle.std.specs.Prelude.{Ok}
use Prim.Native.Nat.{ℕ, zero, suc, ◌≤◌, ◌<◌}
use mathlib.Core.Path.{◌≡◌, refl}
use mathlib.Core.Bool.{Bool, true, and-eq-true_iff, false≢true}
use mathlib.Core.List.{List, [], ◌∷◌, map}
use native.Mathlib.Omega.{arith}
use lib.Dec.{eqb}
use lib.IntN.{ℤ, pos, negsuc}
use lib.ListN.{get_or}
use lib.Signed.{le_z, lt_z}
use borrow.Author.Tests.{eqb-true, leb-true, ltb-true}
use Rattle.laws.specs.Signs.{clip}
use Rattle.laws.proofs.Signs.{entries-count, range_count}
use Rattle.entdec.specs.declared.Reader.{Reader}
use Rattle.entcode.specs.Said.Said.{refused}
use Rattle.entcode.specs.Said.{answer, lent_after}
use Rattle.entcode.proofs.Refusals.{passed}
use Rattle.entenc.specs.declared.Writer.{Writer}
use Rattle.entenc.specs.Rule.{write_refusal, writer_ok}
use Rattle.entenc.specs.Write.{Wr}
use Rattle.rate_spec.specs.Types.{AllocIn, AllocOut}
use Rattle.rate_bands.specs.Inputs.{AllocCountsOk, AllocListsOk}
use Rattle.rate.specs.declared.AllocNumbers.{AllocNumbers}
use Rattle.rate.specs.Allocations.{ReadAllocation, WrittenAllocation}
use Rattle.rate.specs.Question.{Lists, entries_ok, alloc_counts, lengths_ok, numbers_ok}
use Rattle.rate.specs.Answer.{after_read, after_write, answer_read, answer_written, lists_of, read_figures, written_figures}

-- ---- lengths

-- each of the five lengths is 21
pub record Sized (offsets caps pulses fine priorities : ℕ) : Type 0 where
  pub offsets-is : offsets ≡ 21
  pub caps-is : caps ≡ 21
  pub pulses-is : pulses ≡ 21
  pub fine-is : fine ≡ 21
  pub priorities-is : priorities ≡ 21

-- what the test of the lengths says
pub sized : (o c p f r : ℕ) → lengths_ok o c p f r ≡ true → Sized o c p f r
sized o c p f r e =
    let x = (and-eq-true_iff _ _).0 e in
    let y = (and-eq-true_iff _ _).0 x.0 in
    let z = (and-eq-true_iff _ _).0 y.0 in
    let w = (and-eq-true_iff _ _).0 z.0 in
    record {
      offsets-is = eqb-true o 21 w.0;
      caps-is = eqb-true c 21 w.1;
      pulses-is = eqb-true p 21 z.1;
      fine-is = eqb-true f 21 y.1;
      priorities-is = eqb-true r 21 x.1;
    }

-- ---- numbers

-- a number up to m reads as a count up to m
clip-le : (z : ℤ) (m : ℕ) → le_z z (pos m) ≡ true → clip z ≤ m
clip-le (pos n) m e = leb-true n m e
clip-le (negsuc n) m e = omega arith

-- the order of two numbers, the lower not negative, is that of their counts
clip-lt : (y z : ℤ) → le_z (pos 0) y ≡ true → lt_z y z ≡ true → clip y < clip z
clip-lt (pos a) (pos b) p q = ltb-true a b q
clip-lt (pos a) (negsuc b) p q = absurd (false≢true q)
clip-lt (negsuc a) z p q = absurd (false≢true p)

-- numbers that pass are counts of the domain
pub counts-ok : (q : AllocNumbers) → numbers_ok q ≡ true → AllocCountsOk (alloc_counts q)
unfolding numbers_ok alloc_counts
counts-ok q e =
    let a = (and-eq-true_iff _ _).0 e in
    let b = (and-eq-true_iff _ _).0 a.0 in
    let c = (and-eq-true_iff _ _).0 b.0 in
    let d = (and-eq-true_iff _ _).0 c.0 in
    let f = (and-eq-true_iff _ _).0 d.0 in
    let g = (and-eq-true_iff _ _).0 f.0 in
    let channels = range_count 1 2 q.c g.0 in
    record {
      c_low = channels.low;
      c_le = channels.high;
      lm-le = (range_count 0 3 q.lm g.1).high;
      start-lt = clip-lt q.start q.end f.1 d.1;
      end-le = clip-le q.end 21 c.1;
      trim-le = (range_count 0 10 q.trim b.1).high;
      total-le = clip-le q.total 81600 a.1;
    }

-- ---- lists

-- an entry of the list of counts is the list's entry as a count
clip-at : (l : List ℤ) (i : ℕ) → get_or (map clip l) i 0 ≡ clip (get_or l i (pos 0))
clip-at [] i = refl
clip-at (z ∷ l) zero = refl
clip-at (z ∷ l) (suc i) = clip-at l i

-- entries that pass are counts of the domain
pub lists-ok : (offsets caps : List ℤ) → entries_ok offsets caps ≡ true → AllocListsOk (map clip offsets) (map clip caps)
lists-ok offsets caps e =
    let a = (and-eq-true_iff _ _).0 e in
    record {
      offsets-le = λ i. rw (clip-at offsets i) (entries-count 81600 offsets a.0 i).high;
      caps-le = λ i. rw (clip-at caps i) (entries-count 32767 caps a.1 i).high;
    }

-- ---- number 0 of a call that writes

-- what number 0 says of a writer, its bytes' length and the call's tests
pub record Opened (m : ℕ) (w : Writer) (lengths numbers lists : Bool) : Type 0 where
  pub whole : w.sink.storage ≡ m
  pub sizes : lengths ≡ true
  pub state : writer_ok w ≡ true
  pub known : numbers ≡ true
  pub entries : lists ≡ true

-- a write that is not refused passed each test
pub opened : (m : ℕ) (w : Writer) (lengths numbers lists : Bool) → write_refusal m w lengths numbers lists 0 ≡ 0 → Opened m w lengths numbers lists
unfolding write_refusal
opened m w lengths numbers lists h =
    let p = passed _ _ _ _ _ _ h in
    let a = (and-eq-true_iff (eqb w.sink.storage m) lengths).0 p.no_2 in
    let b = (and-eq-true_iff (writer_ok w) numbers).0 p.no_1 in
    record { whole = eqb-true w.sink.storage m a.0; sizes = a.1; state = b.0; known = b.1; entries = p.no_3 }

-- ---- answers

-- number 0: the allocation that was read is the answer
pub done-read : (n : ℕ) (a : AllocIn) (x : AllocOut × Reader) (l : Lists) {y : ReadAllocation} {m : Lists} → n ≡ 0 → y ≡ read_figures x → m ≡ lists_of a x.0 l
    → after_read (Ok y) m ≡ answer_read n a x l
unfolding answer_read answer lent_after
done-read n a x l z e f = rw (z, e, f)

-- another number: that refusal is the answer to a read
pub refused-read : (n : ℕ) (a : AllocIn) (x : AllocOut × Reader) (l : Lists) → (n ≡ 0 → ⊥) → record { said = refused n; lent = l } ≡ answer_read n a x l
unfolding answer_read answer lent_after
refused-read zero a x l h = absurd (h refl)
refused-read (suc n) a x l h = refl

-- number 0: the allocation that was written is the answer
pub done-written : (n : ℕ) (a : AllocIn) (x : AllocOut × Wr) (l : Lists) (w : Wr) {y : WrittenAllocation} {m : Lists} {b : List ℕ}
    → n ≡ 0 → y ≡ written_figures x → b ≡ x.1.bytes → m ≡ lists_of a x.0 l → after_write (Ok y) m b ≡ answer_written n a x l w
unfolding answer_written answer lent_after
done-written n a x l w z e f g = rw (z, e, f, g)

-- another number: that refusal is the answer to a write
pub refused-written : (n : ℕ) (a : AllocIn) (x : AllocOut × Wr) (l : Lists) (w : Wr) → (n ≡ 0 → ⊥)
    → record { said = refused n; lent = l; bytes = w.bytes } ≡ answer_written n a x l w
unfolding answer_written answer lent_after
refused-written zero a x l w h = absurd (h refl)
refused-written (suc n) a x l w h = refl
