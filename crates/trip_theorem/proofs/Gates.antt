-- What an accepted call tells: a new writer, an allocation, a close. Assumes nothing.
use Rattle.std.specs.Prelude.{Ok}
use Prim.Native.Nat.{ℕ, zero, suc, ◌≤◌}
use mathlib.Core.Path.{◌≡◌, refl, ap}
use mathlib.Core.Bool.{Bool, true, false, cond, and-eq-true_iff}
use mathlib.Core.List.{List}
use native.Mathlib.Omega.{arith}
use lib.Dec.{eqb, leb}
use lib.IntN.{ℤ}
use lib.ListN.{length}
use borrow.Author.Tests.{leb-true, le-leb}
use Rattle.entcode.specs.Counts.{tell_ok}
use Rattle.entcode.specs.Said.{answer, lent_after}
use Rattle.entcode.specs.Said.Said.{done, refused}
use Rattle.entcode.proofs.Refusals.{passed}
use Rattle.entdec.specs.Answer.{start_of as reader_over}
use Rattle.entdec.specs.Read.{fresh_reader}
use Rattle.entenc.specs.declared.Writer.{Writer}
use Rattle.entenc.specs.Answer.{start_of as writer_over, After, after, answer_w, closing}
use Rattle.entenc.specs.Close.{close_w}
use Rattle.entenc.specs.Rule.{writer_ok, write_refusal, refusal_close}
use Rattle.entenc.specs.Write.{Wr, fresh_writer}
use Rattle.entenc.proofs.Taken.{close-taken}
use Rattle.rate_spec.specs.Types.{AllocIn, AllocOut}
use Rattle.rate_spec.specs.Domain.{AllocInOk}
use Rattle.rate_bands.proofs.Frames.{in_ok}
use Rattle.rate.specs.declared.AllocNumbers.{AllocNumbers}
use Rattle.rate.specs.declared.Wishes.{Wishes}
use Rattle.rate.specs.Allocations.{WrittenAllocation}
use Rattle.rate.specs.Question.{Lists, alloc_input, entries_ok, numbers_ok, refusal_write, sized}
use Rattle.rate.specs.Answer.{AfterWrite, after_write, answer_written, lists_of, write_wished, writing, written_figures}
use Rattle.rate.proofs.Accepts.{counts-ok, lists-ok}

-- ---- a new writer, a new reader

-- by the test of the length
started-by : (n : ℕ) (w : Writer) (b : Bool) → leb n 1275 ≡ b → answer (cond b 0 1) (fresh_writer n) ≡ done w → (n ≤ 1275) × (w ≡ fresh_writer n)
unfolding answer
started-by n w true t e = (leb-true n 1275 t, cc)
started-by n w false t e = let z : ◌≡◌ {A = ℕ} 0 1 = cc in absurd (omega arith)

-- a new writer is fresh, over at most 1,275 bytes
pub new-writer : (n : ℕ) (w : Writer) → writer_over n ≡ done w → (n ≤ 1275) × (w ≡ fresh_writer n)
new-writer n w e = started-by n w (leb n 1275) refl e

-- at most 1,275 bytes have a new reader, and it is fresh
pub new-reader : (s : List ℕ) → length s ≤ 1275 → reader_over s ≡ done (fresh_reader s)
unfolding answer
new-reader s h = rw (le-leb (length s) 1275 h)

-- ---- a close

-- what an accepted close says: the state was accepted, and what is left is the definition's
pub record Closed (w : Wr) (last : Writer) (packet : List ℕ) : Type 0 where
  pub rule : writer_ok w.st ≡ true
  pub state : last ≡ (close_w w).st
  pub bytes : packet ≡ (close_w w).bytes

-- by the number n of the gate
record Shut (n : ℕ) (v : Wr) (last : Writer) (packet : List ℕ) : Type 0 where
  none : n ≡ 0
  state : last ≡ v.st
  bytes : packet ≡ v.bytes

-- an accepted answer has number 0, and is what was written
shut : (n : ℕ) (w v : Wr) (last : Writer) (packet : List ℕ) → answer_w n w v ≡ after (Ok last) packet → Shut n v last packet
unfolding answer lent_after
shut zero w v last packet e =
    let p : done v.st ≡ done last = ap (λ (x : After). x.said) e in
    let q : v.bytes ≡ packet = ap (λ (x : After). x.bytes) e in
    record { none = refl; state = cc; bytes = cc }
shut (suc n) w v last packet e =
    let p : refused (suc n) ≡ done last = ap (λ (x : After). x.said) e in
    let z : ◌≡◌ {A = ℕ} 0 1 = cc in
    absurd (omega arith)

-- every accepted close is one
pub closed : (w : Wr) (last : Writer) (packet : List ℕ) → closing w ≡ after (Ok last) packet → Closed w last packet
closed w last packet e =
    let s = shut (refusal_close w) w (close_w w) last packet e in
    record { rule = (close-taken w s.none).0; state = s.state; bytes = s.bytes }

-- ---- an allocation

-- by the number n of the gate
record Gave (n : ℕ) (a : AllocIn) (o : AllocOut × Wr) (l : Lists) (y : WrittenAllocation) (m : Lists) (b : List ℕ) : Type 0 where
  none : n ≡ 0
  shows : y ≡ written_figures o
  lists : m ≡ lists_of a o.0 l
  bytes : b ≡ o.1.bytes

-- an accepted allocation has number 0, and its figures, lists and bytes are the definition's
gave : (n : ℕ) (a : AllocIn) (o : AllocOut × Wr) (l : Lists) (w : Wr) (y : WrittenAllocation) (m : Lists) (b : List ℕ)
    → answer_written n a o l w ≡ after_write (Ok y) m b → Gave n a o l y m b
unfolding answer_written answer lent_after
gave zero a o l w y m b e =
    let p : done (written_figures o) ≡ done y = ap (λ (x : AfterWrite). x.said) e in
    let q : lists_of a o.0 l ≡ m = ap (λ (x : AfterWrite). x.lent) e in
    let r : o.1.bytes ≡ b = ap (λ (x : AfterWrite). x.bytes) e in
    record { none = refl; shows = cc; lists = cc; bytes = cc }
gave (suc n) a o l w y m b e =
    let p : refused (suc n) ≡ done y = ap (λ (x : AfterWrite). x.said) e in
    let z : ◌≡◌ {A = ℕ} 0 1 = cc in
    absurd (omega arith)

-- what an accepted allocation says: each test passed, and what it gave
pub record Allotted (q : AllocNumbers) (h : Wishes) (offsets caps : List ℤ) (w : Wr) (l : Lists) (y : WrittenAllocation) (m : Lists) (b : List ℕ) : Type 0 where
  pub rule : writer_ok w.st ≡ true
  pub tell-fits : tell_ok w.st.sink.storage w.st.total w.st.rng ≡ true
  pub sizes : sized q offsets caps l ≡ true
  pub known : numbers_ok q ≡ true
  pub ranges : entries_ok offsets caps ≡ true
  pub asked : AllocInOk (alloc_input q offsets caps)
  pub shows : y ≡ written_figures (write_wished (alloc_input q offsets caps) h w)
  pub lists : m ≡ lists_of (alloc_input q offsets caps) (write_wished (alloc_input q offsets caps) h w).0 l
  pub bytes : b ≡ (write_wished (alloc_input q offsets caps) h w).1.bytes

-- every accepted allocation is one
pub allotted : (q : AllocNumbers) (h : Wishes) (offsets caps : List ℤ) (w : Wr) (l : Lists) (y : WrittenAllocation) (m : Lists) (b : List ℕ)
    → writing q h offsets caps w l ≡ after_write (Ok y) m b → Allotted q h offsets caps w l y m b
unfolding refusal_write write_refusal
allotted q h offsets caps w l y m b e =
    let g = gave (refusal_write q offsets caps l h w) (alloc_input q offsets caps) (write_wished (alloc_input q offsets caps) h w) l w y m b e in
    let p = passed _ _ _ _ _ _ g.none in
    let s = (and-eq-true_iff (eqb w.st.sink.storage (length w.bytes)) (sized q offsets caps l)).0 p.no_2 in
    let n = (and-eq-true_iff _ _).0 p.no_1 in
    let k = (and-eq-true_iff _ _).0 n.1 in
    record {
      rule = n.0;
      tell-fits = p.no_4;
      sizes = s.1;
      known = k.0;
      ranges = p.no_3;
      asked = in_ok _ _ (counts-ok q k.0) (lists-ok offsets caps p.no_3);
      shows = g.shows;
      lists = g.lists;
      bytes = g.bytes;
    }
