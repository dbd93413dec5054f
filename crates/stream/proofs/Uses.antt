-- A mono frame uses channel 0 only: what it makes of channel 0, and the reader after it, do not depend on channel 1. Assumes nothing.
use Prim.Native.Nat.{ℕ, zero, suc, ◌+◌, ◌-◌, ◌≤◌, ◌<◌}
use mathlib.Core.Path.{◌≡◌, refl, sym, ◌∙◌}
use mathlib.Core.Bool.{Bool}
use mathlib.Core.List.{List}
use native.Mathlib.Omega.{arith}
use lib.Dec.{eqb}
use lib.Ieee.{Float, nan}
use lib.IntN.{pos}
use lib.ListN.{length, get_or, set, length-set}
use lib.Seq.{get_or-set_same, get_or-set_other}
use borrow.Author.Tests.{eqb-true, eqb-false}
use Rattle.laws.specs.Signs.{clip}
use Rattle.laws.specs.Places.{over_places}
use Rattle.laws.proofs.Tests.{split_on}
use Rattle.entdec.specs.declared.Reader.{Reader}
use Rattle.entdec.proofs.Accepted.{opened}
use Rattle.quant_bands.specs.declared.coarse_band.Kind.{Kind}
use Rattle.quant_bands.specs.Coarse.{CoarseState, coarse_start, coarse, coarse_band, energy_at, first_at, kind_of}
use Rattle.quant_bands.specs.Question.{is_intra}
use Rattle.quant_bands.proofs.Accepts.{coarse_in}
use Rattle.stream.specs.declared.Record.{Record}
use Rattle.stream.specs.Frame.{Call, refusal_frame, frame_answer}
use Rattle.stream.specs.History.{Usable, SameFirst, MonoUsesFirst}
use Rattle.stream.proofs.Accepts.{known}
use Rattle.stream.proofs.Once.{code_is}
use Rattle.stream.proofs.Again.{finite-all}

-- the same in channel 0, in what it hands on, and in the reader
record Alike (g h : CoarseState) : Type 0 where
  long : length g.energies ≡ 42
  long' : length h.energies ≡ 42
  first-is : g.first ≡ h.first
  next-is : g.next ≡ h.next
  same : (k : ℕ) → k < 21 → get_or g.energies k nan ≡ get_or h.energies k nan

-- a store of the same value
set_same : (es fs : List Float) (i k : ℕ) (x y : Float) → i < length es → i < length fs → x ≡ y → get_or es k nan ≡ get_or fs k nan
    → get_or (set es i x) k nan ≡ get_or (set fs i y) k nan
set_same es fs i k x y h h' e s =
    split_on (eqb k i)
    (λ p. let q = eqb-true k i p in rw q (get_or-set_same es i x nan h ∙ e ∙ sym (get_or-set_same fs i y nan h')))
    (λ p. let n = eqb-false k i p in get_or-set_other es i k x nan n ∙ s ∙ sym (get_or-set_other fs i k y nan n))

-- one band of channel 0
first_alike : (m : Kind) (s : List ℕ) (i : ℕ) (g h : CoarseState) → i < 21 → Alike g h → Alike (first_at m s i g) (first_at m s i h)
unfolding energy_at
first_alike m s i g h l a =
    let n = a.long in
    let n' = a.long' in
    record {
      long = length-set g.energies i _ ∙ n;
      long' = length-set h.energies i _ ∙ n';
      first-is = rw (a.first-is, a.next-is);
      next-is = rw a.next-is;
      same = λ k q. set_same g.energies h.energies i k _ _ (omega arith) (omega arith) (rw (a.first-is, a.next-is, a.same i l)) (a.same k q);
    }

module _ (lm : ℕ) (intra : Bool) (s : List ℕ) where
  -- one band of a mono decode, which has channel 0 only
  band-alike : (i : ℕ) (g h : CoarseState) → i < 21 → Alike g h → Alike (coarse_band 1 lm intra s i g) (coarse_band 1 lm intra s i h)
  unfolding coarse_band
  band-alike i g h l a = first_alike (kind_of lm intra i) s i g h l a

  -- band after band
  places-alike : (start n : ℕ) (g h : CoarseState) → start + n ≤ 21 → Alike g h
      → Alike (over_places (coarse_band 1 lm intra s) start n g) (over_places (coarse_band 1 lm intra s) start n h)
  unfolding over_places
  places-alike start zero g h l a = a
  places-alike start (suc n) g h l a = band-alike (start + n) _ _ (omega arith) (places-alike start n g h (omega arith) a)

  -- a mono decode of two lists that are the same in channel 0
  pub coarse-alike : (start end : ℕ) (d : Reader) (es fs : List Float) → start ≤ end → end ≤ 21 → length es ≡ 42 → length fs ≡ 42
      → ((k : ℕ) → k < 21 → get_or es k nan ≡ get_or fs k nan)
      → ((coarse 1 lm intra start end s d es).next ≡ (coarse 1 lm intra start end s d fs).next)
      × ((k : ℕ) → k < 21 → get_or (coarse 1 lm intra start end s d es).energies k nan ≡ get_or (coarse 1 lm intra start end s d fs).energies k nan)
  unfolding coarse
  coarse-alike start end d es fs l m n n' e =
      let a = places-alike start (end - start) (coarse_start d es) (coarse_start d fs) (omega arith)
      (record { long = n; long' = n'; first-is = refl; next-is = refl; same = e }) in
      (a.next-is, a.same)

-- ---- a frame

-- two usable records with the same next number are refused alike: channel 1 is only tested to be finite
numbers-alike : (r r' : Record) (q : Call) → Usable r → Usable r' → r.next ≡ r'.next → refusal_frame r q ≡ refusal_frame r' q
unfolding refusal_frame
numbers-alike r r' q u u' e = rw (e, finite-all r.energies u.all, finite-all r'.energies u'.all)

-- by the number of the refusal: one decode of each, or nothing
answers-alike : (n : ℕ) (r r' : Record) (q : Call) → refusal_frame r q ≡ n → q.c ≡ pos 1 → Usable r → Usable r' → SameFirst r r'
    → ((frame_answer n r q).next ≡ (frame_answer n r' q).next) × SameFirst (frame_answer n r q).rec (frame_answer n r' q).rec
unfolding frame_answer refusal_frame
answers-alike zero r r' q h e u u' a =
    let i = coarse_in q.c q.lm q.start q.end q.intra (known _ _ _ _ _ _ _ (opened _ _ _ _ _ _ h).known).coarse in
    let l : clip q.start ≤ clip q.end = omega (arith, i.0.start-lt) in
    rw e (coarse-alike (clip q.lm) (is_intra q.intra) q.packet (clip q.start) (clip q.end) q.coder r.energies r'.energies l
    i.0.end-le u.long u'.long a)
answers-alike (suc n) r r' q h e u u' a = (refl, a)

-- refused alike, and alike in what is answered
pub mono_uses_first : MonoUsesFirst
mono_uses_first r r' q e u u' n a =
    let z = numbers-alike r r' q u u' n in
    let y = answers-alike (refusal_frame r q) r r' q refl e u u' a in
    rw (sym z) (code_is (refusal_frame r q) r q ∙ sym (code_is (refusal_frame r q) r' q), y.0, y.1)
