-- What number 0 tells of a call, and a checked call's two answers. Assumes nothing.
use Rattle.std.specs.Prelude.{Ok}
use Prim.Native.Nat.{ℕ, zero, suc, ◌+◌, ◌^◌, ◌<◌, ◌≤◌}
use mathlib.Core.Path.{◌≡◌, refl, ap, sym, ◌∙◌}
use mathlib.Core.Bool.{Bool, true, ◌&&◌, and-eq-true_iff}
use mathlib.Core.List.{List}
use native.Mathlib.Nat.{suc-ne-zero}
use native.Mathlib.Omega.{arith}
use lib.ListN.{length}
use lib.Dec.{ltb, leb}
use borrow.Author.Tests.{ltb-true, leb-true, eqb-true, lt-ltb, le-leb}
use Rattle.entcode.specs.Counts.{tell_ok}
use Rattle.entcode.specs.Said.{answer, lent_after}
use Rattle.entcode.specs.Sym.{Shape, falls, length_ok, shape_ok, list_ok, value_ok}
use Rattle.entcode.specs.Sym.Shape.{bit, table, uint, raw}
use Rattle.entcode.proofs.Rule.{Counts, counts, counts-ok}
use Rattle.entcode.proofs.Refusals.{passed}
use Rattle.entenc.specs.declared.Writer.{Writer}
use Rattle.entenc.specs.Write.{Wr}
use Rattle.entenc.specs.Rule.{writer_ok, is_open, write_refusal, refusal_w, refusal_close}
use Rattle.entenc.specs.Answer.{after, answer_w}
use Rattle.entenc.specs.Promises.{says_no}
use Rattle.entenc.specs.Ready.{Sound, Ready}

-- ---- the rule of a writer, as facts

-- the tests of `writer_ok`, as facts
pub record Ruled (w : Writer) : Type 0 where
  pub counts : Counts w.sink.storage w.rng w.waiting w.total
  pub places-le : w.sink.offs + w.sink.ends ≤ w.sink.storage
  pub end_lt : w.val + w.rng < 4294967296
  pub rem-le : w.rem ≤ 256
  pub ext-le : w.ext ≤ 65535

-- from the test
pub ruled : (w : Writer) → writer_ok w ≡ true → Ruled w
unfolding writer_ok
ruled w h =
    let a = (and-eq-true_iff _ _).0 h in
    let b = (and-eq-true_iff _ _).0 a.0 in
    let c = (and-eq-true_iff _ _).0 b.0 in
    let d = (and-eq-true_iff _ _).0 c.0 in
    record {
      counts = counts _ _ _ _ d.0;
      places-le = leb-true (w.sink.offs + w.sink.ends) w.sink.storage d.1;
      end_lt = ltb-true (w.val + w.rng) 4294967296 c.1;
      rem-le = leb-true w.rem 256 b.1;
      ext-le = leb-true w.ext 65535 a.1;
    }

-- and back
pub ruled_ok : (w : Writer) → Ruled w → writer_ok w ≡ true
unfolding writer_ok
ruled_ok w h =
    simp (
      counts-ok w.sink.storage w.rng w.waiting w.total h.counts,
      le-leb (w.sink.offs + w.sink.ends) w.sink.storage h.places-le,
      lt-ltb (w.val + w.rng) 4294967296 h.end_lt,
      le-leb w.rem 256 h.rem-le,
      le-leb w.ext 65535 h.ext-le,
    )

-- ---- an accepted state has what the workers need

-- over as many bytes as the storage says
pub sound_of : (w : Wr) → writer_ok w.st ≡ true → w.st.sink.storage ≡ length w.bytes → Sound w
sound_of w h e =
    let r = ruled w.st h in
    record {
      fit = record { len = e; room = r.places-le };
      storage-le = r.counts.storage-le;
      range_gt = r.counts.range_gt;
      range_le = r.counts.range_le;
      end_lt = r.end_lt;
      rem-le = r.rem-le;
      waiting-le = r.counts.waiting-le;
    }

-- and for 15,000 symbols
pub ready_of : (k : ℕ) (w : Wr) → k ≤ 15000 → writer_ok w.st ≡ true → w.st.sink.storage ≡ length w.bytes → Ready k w
ready_of k w m h e =
    let r = ruled w.st h in
    record { sound = sound_of w h e; ext-le = omega (arith, r.ext-le); total-le = omega (arith, r.counts.total-le) }

-- ---- number 0

-- a write that no refusal stops: each of its tests, as a fact
pub record Taken (h : Shape) (v : ℕ) (w : Wr) : Type 0 where
  pub len : w.st.sink.storage ≡ length w.bytes
  pub rule : writer_ok w.st ≡ true
  pub lengths : length_ok h ≡ true
  pub shape : shape_ok h ≡ true
  pub value : value_ok h v ≡ true
  pub lists : list_ok h ≡ true
  pub is_open_lem : is_open w.st ≡ true
  pub tell-fits : tell_ok w.st.sink.storage w.st.total w.st.rng ≡ true

-- from the number 0
pub taken : (h : Shape) (v : ℕ) (w : Wr) → refusal_w h v w ≡ 0 → Taken h v w
unfolding refusal_w write_refusal
taken h v w z =
    let p = passed _ _ _ _ _ _ z in
    let a = (and-eq-true_iff _ _).0 p.no_2 in
    let b = (and-eq-true_iff _ _).0 p.no_1 in
    let c = (and-eq-true_iff _ _).0 b.1 in
    record {
      len = eqb-true w.st.sink.storage (length w.bytes) a.0;
      rule = b.0;
      lengths = a.1;
      shape = c.0;
      value = c.1;
      lists = p.no_3;
      is_open_lem = p.no_12;
      tell-fits = p.no_4;
    }

-- a close that no refusal stops
pub close-taken : (w : Wr) → refusal_close w ≡ 0 → (writer_ok w.st ≡ true) × (w.st.sink.storage ≡ length w.bytes)
unfolding refusal_close
close-taken w z =
    let p = passed _ _ _ _ _ _ z in
    (p.no_1, eqb-true w.st.sink.storage (length w.bytes) p.no_2)

-- ---- a gate that a test of its own goes into

-- raw bits: the test of the value is a call of its own
pub raw_gate : (n v b : ℕ) (w : Wr) (t : Bool)
    → n ≡ write_refusal (length w.bytes) w.st true (leb 1 b && leb b 25 && t) true 0
    → t ≡ ltb v (2 ^ b) → n ≡ refusal_w (raw b) v w
unfolding refusal_w length_ok shape_ok value_ok list_ok
raw_gate n v b w t e f = e ∙ rw f

-- ---- what each worker needs, n being what the gate gave

module _ (n v : ℕ) (w : Wr) where
  -- an accepted state is ready for one symbol
  ready_by : (h : Shape) → Taken h v w → Ready 1 w
  ready_by h t = ready_of 1 w (omega arith) t.rule t.len

  -- one bit
  pub bit_needs : (k : ℕ) → n ≡ refusal_w (bit k) v w → n ≡ 0 → Ready 1 w × (1 ≤ k) × (k ≤ 15)
  unfolding shape_ok
  bit_needs k e z =
      let t = taken (bit k) v w (sym e ∙ z) in
      let a = (and-eq-true_iff (leb 1 k) (leb k 15)).0 t.shape in
      (ready_by (bit k) t, leb-true 1 k a.0, leb-true k 15 a.1)

  -- a table's symbol
  pub table_needs : (l : List ℕ) (k : ℕ) → n ≡ refusal_w (table l k) v w → n ≡ 0
      → Ready 1 w × (v < length l) × (falls (2 ^ k) l ≡ true) × (k ≤ 8)
  unfolding shape_ok value_ok list_ok
  table_needs l k e z =
      let t = taken (table l k) v w (sym e ∙ z) in
      let a = (and-eq-true_iff (leb 1 k) (leb k 8)).0 t.shape in
      (ready_by (table l k) t, ltb-true v (length l) t.value, t.lists, leb-true k 8 a.1)

  -- a uniform number
  pub uint_needs : (ft : ℕ) → n ≡ refusal_w (uint ft) v w → n ≡ 0 → Ready 1 w × (2 ≤ ft) × (v < ft)
  unfolding shape_ok value_ok
  uint_needs ft e z =
      let t = taken (uint ft) v w (sym e ∙ z) in
      let a = (and-eq-true_iff (leb 2 ft) (leb ft 4294967295)).0 t.shape in
      (ready_by (uint ft) t, leb-true 2 ft a.0, ltb-true v ft t.value)

  -- raw bits
  pub raw_needs : (b : ℕ) → n ≡ refusal_w (raw b) v w → n ≡ 0 → Ready 0 w × (1 ≤ b) × (b ≤ 25) × (v < 2 ^ b)
  unfolding shape_ok value_ok
  raw_needs b e z =
      let t = taken (raw b) v w (sym e ∙ z) in
      let a = (and-eq-true_iff (leb 1 b) (leb b 25)).0 t.shape in
      (ready_of 0 w (omega arith) t.rule t.len, leb-true 1 b a.0, leb-true b 25 a.1, ltb-true v (2 ^ b) t.value)

-- a close
pub close_needs : (n : ℕ) (w : Wr) → n ≡ refusal_close w → n ≡ 0 → Ready 1 w
close_needs n w e z =
    let t = close-taken w (sym e ∙ z) in
    ready_of 1 w (omega arith) t.0 t.1

-- ---- the two answers, n being what the gate gave

-- number 0
next-is : (k : ℕ) (w v : Wr) → k ≡ 0 → after (Ok v.st) v.bytes ≡ answer_w k w v
unfolding answer lent_after
next-is zero w v h = refl
next-is (suc k) w v h = absurd (suc-ne-zero k h)

-- any other number
no_is : (k : ℕ) (w v : Wr) → (k ≡ 0 → ⊥) → says_no k w ≡ answer_w k w v
unfolding answer lent_after
no_is zero w v h = absurd (h refl)
no_is (suc k) w v h = refl

module _ (n k : ℕ) (w v : Wr) (e : n ≡ k) where
  -- the worker ran: its writer and bytes
  pub say-next : (w' : Wr) → n ≡ 0 → w' ≡ v → after (Ok w'.st) w'.bytes ≡ answer_w k w v
  say-next w' z h = rw h (next-is k w v (sym e ∙ z))

  -- it did not: the number, and the bytes as they were
  pub say_no : (n ≡ 0 → ⊥) → says_no n w ≡ answer_w k w v
  say_no z = no_is n w v z ∙ ap (λ (i : ℕ). answer_w i w v) e
