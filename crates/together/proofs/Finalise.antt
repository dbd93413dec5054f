-- The last bits take what an allocation gave. Assumes nothing.
use Prim.Native.Nat.{ℕ, ◌-◌}
use mathlib.Core.Bool.{Bool, true, false, and-eq-true_iff, and-true}
use mathlib.Core.List.{List}
use mathlib.Core.Path.{◌≡◌, ap, ◌∙◌}
use native.Mathlib.Omega.{arith}
use lib.IntN.{ℤ, pos}
use lib.Ieee.{Float}
use lib.ListN.{length}
use lib.Signed.{lt_z, le_z}
use Rattle.laws.specs.Signs.{in_range}
use Rattle.laws.proofs.Lists.{fill-length}
use Rattle.entcode.specs.Refusal.{refusal}
use Rattle.entdec.specs.declared.Reader.{Reader}
use Rattle.entdec.specs.Rule.{read_refusal}
use Rattle.rate_spec.specs.Types.{AllocIn}
use Rattle.rate.specs.declared.AllocNumbers.{AllocNumbers}
use Rattle.rate.specs.Question.{Lists, alloc_input, alloc_counts, numbers_ok}
use Rattle.rate.specs.Answer.{with_figure}
use Rattle.rate.proofs.Accepts as accepts
use Rattle.quant_bands.specs.Question.{bands_ok, energies_ok, energies_sized, fines_ok, refusal_finalise}
use Rattle.together.specs.Finalise.{LentFit, ReadIsTaken, TakenByFinalise, WrittenIsTaken, ZerosFit}
use Rattle.together.proofs.Accepted.{Shared, read_shared, written_shared}
use Rattle.together.proofs.Entries.{filled_in, zeros_in}

-- the numbers of an allocation that was accepted are those of the last bits
bands-ok : (q : AllocNumbers) → numbers_ok q ≡ true → bands_ok q.c q.start q.end ≡ true
unfolding numbers_ok bands_ok
bands-ok q e =
    let a = (and-eq-true_iff _ _).0 e in
    let b = (and-eq-true_iff _ _).0 a.0 in
    let c = (and-eq-true_iff _ _).0 b.0 in
    let d = (and-eq-true_iff _ _).0 c.0 in
    let f = (and-eq-true_iff _ _).0 d.0 in
    let g = (and-eq-true_iff _ _).0 f.0 in
    let channels : in_range (pos 1) (pos 2) q.c ≡ true = g.0 in
    let low : le_z (pos 0) q.start ≡ true = f.1 in
    let order : lt_z q.start q.end ≡ true = d.1 in
    let high : le_z q.end (pos 21) ≡ true = c.1 in
    rw (channels, low, order, high)

-- 3 is not given where every list passes
three_not : (a b d e : Bool) → refusal a b true 0 d e ≡ 3 → ⊥
unfolding refusal
three_not true true true true h = omega arith
three_not true true true false h = omega arith
three_not true true false e h = omega arith
three_not true false d e h = omega arith
three_not false b d e h = omega arith

-- two lists of 21 that pass decide nothing
module _ (m : Lists) (fits : fines_ok m.fine m.priorities ≡ true) (fine : length m.fine ≡ 21) (priorities : length m.priorities ≡ 21)
    (c start end : ℤ) (s : List ℕ) (d : Reader) (es : List Float) where
  -- lists that pass decide nothing
  two-pass : refusal_finalise c start end m.fine m.priorities s d es ≡ read_refusal (length s) d (energies_sized (length es)) (bands_ok c start end)
      (energies_ok es) 0
  unfolding refusal_finalise
  two-pass = rw (fine, priorities, fits, and-true (energies_sized (length es)), and-true (energies_sized (length es)), and-true (energies_ok es))

  -- so the call is not refused as 3 where the energies are finite
  never_three : energies_ok es ≡ true → refusal_finalise c start end m.fine m.priorities s d es ≡ 3 → ⊥
  unfolding read_refusal
  never_three e h = three_not _ _ _ _ (rw (two-pass, e) at h)

-- an allocation's lists
module _ {q : AllocNumbers} {offsets caps : List ℤ} {l m : Lists} (g : Shared q offsets caps l m) (o : LentFit q l) where
  -- the definition's input
  abbrev a : AllocIn
  a = alloc_input q offsets caps

  -- the allocation's fine bits and priorities pass
  fits_here : fines_ok (with_figure a (λ b. b.fine) g.out l.fine) (with_figure a (λ b. b.prio) g.out l.priorities) ≡ true
  unfolding alloc_counts
  fits_here =
      (and-eq-true_iff _ _).1 (
        filled_in 8 (λ j. (g.out.band j).fine) a.start a.end l.fine g.bands.fine_le o.fine,
        filled_in 1 (λ j. (g.out.band j).prio) a.start a.end l.priorities g.bands.prio-le o.priorities,
      )

  -- so do the lists after the call
  fits_after : fines_ok m.fine m.priorities ≡ true
  fits_after = rw g.are fits_here

  -- they have 21 entries
  lengths : (length m.fine ≡ 21) × (length m.priorities ≡ 21)
  lengths =
      let z = accepts.sized (length offsets) (length caps) (length l.pulses) (length l.fine) (length l.priorities) g.sizes in (
        ap (λ (x : Lists). length x.fine) g.are ∙ fill-length _ (a.end - a.start) a.start l.fine ∙ z.fine-is,
        ap (λ (x : Lists). length x.priorities) g.are ∙ fill-length _ (a.end - a.start) a.start l.priorities ∙ z.priorities-is,
      )

  -- all that is claimed of them
  taken : TakenByFinalise q m
  taken =
      record {
        fits = fits_after;
        pass = λ c start end s d es. two-pass m fits_after lengths.0 lengths.1 c start end s d es;
        not_three = λ c start end s d es e h. never_three m fits_after lengths.0 lengths.1 c start end s d es e h;
        numbers = bands-ok q g.known;
      }

-- of an allocation that was read
pub read-is-taken : ReadIsTaken
read-is-taken q offsets caps s d l m y o e = taken (read_shared q offsets caps s d l m y e) o

-- of one that was written
pub written-is-taken : WrittenIsTaken
written-is-taken q h offsets caps w l m b y o e = taken (written_shared q h offsets caps w l m b y e) o

-- lists of zeros are in range
pub zeros_fit : ZerosFit
zeros_fit q n = record { fine = zeros_in 8 _ _ n; priorities = zeros_in 1 _ _ n }
