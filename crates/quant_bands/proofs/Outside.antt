-- What a call leaves alone: the energies outside its bands, and those of channel 1 where there is one channel. Assumes nothing.
use Prim.Native.Nat.{ℕ, zero, suc, ◌+◌, ◌-◌, ◌≤◌}
use mathlib.Core.Path.{◌≡◌, refl, ◌∙◌}
use mathlib.Core.Bool.{Bool}
use mathlib.Core.List.{List}
use native.Mathlib.Omega.{arith}
use lib.Dec.{leb}
use lib.ListN.{length-set}
use lib.Seq.{get_or-set_other}
use lib.Ieee.{Float, nan}
use borrow.Author.Tests.{leb-true}
use Rattle.laws.specs.Places.{over_places}
use Rattle.laws.specs.Signs.{clip}
use Rattle.laws.proofs.Places.{places-keep}
use Rattle.laws.proofs.Tests.{cond-by}
use Rattle.entcode.specs.Said.{lent_after}
use Rattle.entdec.specs.declared.Reader.{Reader}
use Rattle.quant_bands.specs.declared.coarse_band.Kind.{Kind}
use Rattle.quant_bands.specs.Coarse.{EnergiesAfter, CoarseState, energy_at, coarse_start, coarse_band, coarse}
use Rattle.quant_bands.specs.Finalise.{Spending, spending, spend_at, takes_bit, spend_band, spend_pass, finalise}
use Rattle.quant_bands.specs.Question.{is_intra, count_at}
use Rattle.quant_bands.specs.Promises.{Outside, Stays, CoarseOutsideStays, FinaliseOutsideStays}

-- ---- which places are outside: of a mono call, all of channel 1

-- whatever its bands
pub outside_mono : (start end k : ℕ) → end ≤ 21 → 21 ≤ k → Outside 1 start end k
outside_mono start end k e h i p q = ((λ x. omega arith), (λ y x. omega arith))

-- ---- a list that stays the same at place k

-- nothing was stored
stays_none : (k : ℕ) (es : List Float) → Stays k es es
stays_none k es = record { long = refl; same = refl }

-- one after the other
stays_then : (k : ℕ) (es fs gs : List Float) → Stays k es fs → Stays k fs gs → Stays k es gs
stays_then k es fs gs a b = record { long = b.long ∙ a.long; same = b.same ∙ a.same }

-- a coarse step stores at its own place only
energy_stays : (m : Kind) (s : List ℕ) (j : ℕ) (prev : Float) (d : Reader) (es : List Float) (k : ℕ) → (k ≡ j → ⊥)
    → Stays k es (energy_at m s j prev d es).energies
unfolding energy_at
energy_stays m s j prev d es k h = record { long = length-set es j _; same = get_or-set_other es j k _ nan h }

-- and so does a last bit
spend_stays : (fine : ℕ) (s : List ℕ) (j : ℕ) (g : Spending) (k : ℕ) → (k ≡ j → ⊥) → Stays k g.energies (spend_at fine s j g).energies
unfolding spend_at
spend_stays fine s j g k h = record { long = length-set g.energies j _; same = get_or-set_other g.energies j k _ nan h }

-- ---- a band

-- of the coarse decode
coarse-band_stays : (c lm : ℕ) (intra : Bool) (s : List ℕ) (i : ℕ) (g : CoarseState) (k : ℕ) → (k ≡ i → ⊥) × (2 ≤ c → k ≡ i + 21 → ⊥)
    → Stays k g.energies (coarse_band c lm intra s i g).energies
unfolding coarse_band
coarse-band_stays c lm intra s i g k h =
    let a = energy_stays _ s i g.first g.next g.energies k h.0 in
    cond-by (λ (x : CoarseState). Stays k g.energies x.energies) (leb 2 c)
    (λ e. stays_then k g.energies _ _ a (energy_stays _ s (i + 21) _ _ _ k (h.1 (leb-true 2 c e)))) (λ e. a)

-- of the last bits
spend-band_stays : (c pass : ℕ) (fine priority : ℕ → ℕ) (s : List ℕ) (i : ℕ) (g : Spending) (k : ℕ) → (k ≡ i → ⊥) × (2 ≤ c → k ≡ i + 21 → ⊥)
    → Stays k g.energies (spend_band c pass fine priority s i g).energies
unfolding spend_band
spend-band_stays c pass fine priority s i g k h =
    let a = spend_stays (fine i) s i g k h.0 in
    cond-by (λ (x : Spending). Stays k g.energies x.energies) (takes_bit c pass (fine i) (priority i) g.left)
    (λ e.
    cond-by (λ (x : Spending). Stays k g.energies x.energies) (leb 2 c)
    (λ e. stays_then k g.energies _ _ a (spend_stays (fine i) s (i + 21) _ k (h.1 (leb-true 2 c e)))) (λ e. a))
    (λ e. stays_none k g.energies)

-- ---- the bands

module _ {S : Type 0} (energies : S → List Float) (f : ℕ → S → S) (c k : ℕ)
    (each : (i : ℕ) (g : S) → (k ≡ i → ⊥) × (2 ≤ c → k ≡ i + 21 → ⊥) → Stays k (energies g) (energies (f i g))) where
  -- whatever the bands do, if each leaves place k alone
  places_stay : (start end : ℕ) (g : S) → Outside c start end k → Stays k (energies g) (energies (over_places f start (end - start) g))
  places_stay start end g h =
      places-keep f (λ n x. Stays k (energies g) (energies x)) start (end - start) g (stays_none k (energies g))
      (λ n x l p. stays_then k (energies g) (energies x) _ p (each (start + n) x (h (start + n) (omega arith) (omega arith))))

-- a whole coarse decode
pub coarse_stays : (c lm : ℕ) (intra : Bool) (start end : ℕ) (s : List ℕ) (d : Reader) (es : List Float) (k : ℕ) → Outside c start end k
    → Stays k es (coarse c lm intra start end s d es).energies
unfolding coarse
coarse_stays c lm intra start end s d es k h =
    places_stay (λ (g : CoarseState). g.energies) (coarse_band c lm intra s) c k (λ i g. coarse-band_stays c lm intra s i g k) start end (coarse_start d es) h

-- a pass of the last bits
pass_stays : (c pass : ℕ) (fine priority : ℕ → ℕ) (start end : ℕ) (s : List ℕ) (g : Spending) (k : ℕ) → Outside c start end k
    → Stays k g.energies (spend_pass c pass fine priority start end s g).energies
unfolding spend_pass
pass_stays c pass fine priority start end s g k h =
    places_stay (λ (x : Spending). x.energies) (spend_band c pass fine priority s) c k (λ i x. spend-band_stays c pass fine priority s i x k) start end g h

-- both passes
pub finalise_stays : (c : ℕ) (fine priority : ℕ → ℕ) (start end left : ℕ) (s : List ℕ) (d : Reader) (es : List Float) (k : ℕ) → Outside c start end k
    → Stays k es (finalise c fine priority start end left s d es).energies
unfolding finalise
finalise_stays c fine priority start end left s d es k h =
    stays_then k es _ _ (pass_stays c 0 fine priority start end s (spending es left d) k h) (pass_stays c 1 fine priority start end s _ k h)

-- ---- the calls, refused ones too

-- a refusal leaves every place
answer_stays : (n : ℕ) (y : EnergiesAfter) (es : List Float) (k : ℕ) → Stays k es y.energies → Stays k es (lent_after n y.energies es)
unfolding lent_after
answer_stays zero y es k h = h
answer_stays (suc n) y es k h = stays_none k es

-- of a coarse decode
pub coarse-call_stays : CoarseOutsideStays
coarse-call_stays c lm start end intra s d es k h =
    answer_stays _ (coarse (clip c) (clip lm) (is_intra intra) (clip start) (clip end) s d es) es k
    (coarse_stays (clip c) (clip lm) (is_intra intra) (clip start) (clip end) s d es k h)

-- of the last bits
pub finalise-call_stays : FinaliseOutsideStays
finalise-call_stays c start end fine priorities left s d es k h =
    answer_stays _ (finalise (clip c) (count_at fine) (count_at priorities) (clip start) (clip end) (clip left) s d es) es k
    (finalise_stays (clip c) (count_at fine) (count_at priorities) (clip start) (clip end) (clip left) s d es k h)
