-- What an accepted allocation tells: its tests passed, and its lists are the definition's. Assumes nothing.
use Rattle.std.specs.Prelude.{Ok}
use Prim.Native.Nat.{ℕ, zero, suc}
use mathlib.Core.Bool.{true, ◌&&◌, and-eq-true_iff}
use mathlib.Core.List.{List}
use mathlib.Core.Path.{◌≡◌, refl, sym, ap, ◌∙◌}
use native.Mathlib.Omega.{arith}
use lib.Dec.{eqb}
use lib.IntN.{ℤ, pos}
use lib.ListN.{length}
use lib.Signed.{lt_z}
use Rattle.laws.specs.Signs.{clip}
use Rattle.entcode.proofs.Refusals.{passed}
use Rattle.entdec.specs.declared.Reader.{Reader}
use Rattle.entdec.specs.Rule.{read_refusal, reader_ok}
use Rattle.entenc.specs.Write.{Wr}
use Rattle.rate_spec.specs.Types.{AllocIn, AllocOut}
use Rattle.rate_spec.specs.Laws.{EachBand}
use Rattle.rate_spec.proofs.Laws.{each_band}
use Rattle.rate_bands.proofs.Frames.{in_ok}
use Rattle.rate_skip.specs.Asks.{read_ask, write_ask}
use Rattle.rate.specs.declared.AllocNumbers.{AllocNumbers}
use Rattle.rate.specs.declared.Wishes.{Wishes}
use Rattle.rate.specs.Allocations.{ReadAllocation, WrittenAllocation}
use Rattle.rate.specs.Question.{Lists, alloc_input, entries_ok, numbers_ok, refusal_read, refusal_write, sized, stereo_ok}
use Rattle.rate.specs.Answer.{AfterRead, AfterWrite, after_read, after_write, answer_read, answer_written, lists_of, read_alloc, reading, write_wished, writing}
use Rattle.rate.proofs.Accepts as accepts

-- ---- by the number of the gate

module _ (a : AllocIn) (l m : Lists) where
  -- an accepted read has number 0, and left the lists
  read-zero : (n : ℕ) (x : AllocOut × Reader) (y : ReadAllocation) → answer_read n a x l ≡ after_read (Ok y) m → (n ≡ 0) × (m ≡ lists_of a x.0 l)
  read-zero zero x y e = (refl, sym (ap (λ (r : AfterRead). r.lent) (accepts.done-read 0 a x l refl refl refl ∙ e)))
  read-zero (suc n) x y e =
      let p = ap (λ (r : AfterRead). r.said) (accepts.refused-read (suc n) a x l (λ z. omega arith) ∙ e) in
      let z : ◌≡◌ {A = ℕ} 0 1 = cc in
      absurd (omega arith)

  -- so has an accepted write
  written-zero : (n : ℕ) (x : AllocOut × Wr) (w : Wr) (b : List ℕ) (y : WrittenAllocation) → answer_written n a x l w ≡ after_write (Ok y) m b
      → (n ≡ 0) × (m ≡ lists_of a x.0 l)
  written-zero zero x w b y e = (refl, sym (ap (λ (r : AfterWrite). r.lent) (accepts.done-written 0 a x l w refl refl refl refl ∙ e)))
  written-zero (suc n) x w b y e =
      let p = ap (λ (r : AfterWrite). r.said) (accepts.refused-written (suc n) a x l w (λ z. omega arith) ∙ e) in
      let z : ◌≡◌ {A = ℕ} 0 1 = cc in
      absurd (omega arith)

-- ---- both ways

-- m is what the call made of the lists l
pub record Shared (q : AllocNumbers) (offsets caps : List ℤ) (l m : Lists) : Type 0 where
  pub known : numbers_ok q ≡ true
  pub sizes : sized q offsets caps l ≡ true
  pub out : AllocOut
  pub bands : EachBand (alloc_input q offsets caps) out
  pub are : m ≡ lists_of (alloc_input q offsets caps) out l

-- what holds of every accepted read
pub read_shared : (q : AllocNumbers) (offsets caps : List ℤ) (s : List ℕ) (d : Reader) (l m : Lists) (y : ReadAllocation)
    → reading q offsets caps s d l ≡ after_read (Ok y) m → Shared q offsets caps l m
unfolding refusal_read read_refusal
read_shared q offsets caps s d l m y e =
    let a = alloc_input q offsets caps in
    let g = read-zero a l m (refusal_read q offsets caps l s d) (read_alloc a s d) y e in
    let p = passed _ _ _ _ _ _ g.0 in
    let two = (and-eq-true_iff (eqb d.storage (length s)) (sized q offsets caps l)).0 p.no_2 in
    let one = (and-eq-true_iff (reader_ok d) (numbers_ok q)).0 p.no_1 in
    record {
      known = one.1;
      sizes = two.1;
      out = (read_alloc a s d).0;
      bands = each_band a (in_ok _ _ (accepts.counts-ok q one.1) (accepts.lists-ok offsets caps p.no_3)) (read_ask s) d;
      are = g.1;
    }

-- what holds of every accepted write
pub written_shared : (q : AllocNumbers) (h : Wishes) (offsets caps : List ℤ) (w : Wr) (l m : Lists) (b : List ℕ) (y : WrittenAllocation)
    → writing q h offsets caps w l ≡ after_write (Ok y) m b → Shared q offsets caps l m
unfolding refusal_write
written_shared q h offsets caps w l m b y e =
    let a = alloc_input q offsets caps in
    let g = written-zero a l m (refusal_write q offsets caps l h w) (write_wished a h w) w b y e in
    let p = accepts.opened (length w.bytes) w.st (sized q offsets caps l) (numbers_ok q && stereo_ok q h) (entries_ok offsets caps)
    g.0 in
    let numbers = (and-eq-true_iff (numbers_ok q) (stereo_ok q h)).0 p.known in
    record {
      known = numbers.0;
      sizes = p.sizes;
      out = (write_wished a h w).0;
      bands = each_band a (in_ok _ _ (accepts.counts-ok q numbers.0) (accepts.lists-ok offsets caps p.entries))
          (write_ask a h.previous h.bandwidth (clip h.intensity) (lt_z (pos 0) h.dual)) w;
      are = g.1;
    }
