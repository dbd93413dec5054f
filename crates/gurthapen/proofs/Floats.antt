-- A call that writes floats into a lent list, and what is left after it: the lists of both together, by the call's answer. Assumes nothing.
use Prim.Native.Nat.{ℕ}
use mathlib.Core.Path.{◌≡◌, ap}
use mathlib.Core.List.{List}
use lib.IntN.{ℤ}
use lib.Ieee.{Float}
use mir.Syntax.{w32}
use mir.Val.{SFits}
use mir.Facts.{to_z-of_z}
use Rattle.entcode.specs.Said.{Said}
use Rattle.entdec.specs.declared.Reader.{Reader}
use Rattle.quant_bands.specs.Answer as bands
use Rattle.quant_bands.specs.Coarse.{EnergiesAfter}
use Rattle.vq.specs.Answer as vq
use Rattle.vq.specs.declared.ReadShape.{ReadShape}
use Rattle.gurthapen_answer.specs.Result.{result, result_of}
use Rattle.gurthapen_answer.specs.Energies.{lists_energies}
use Rattle.gurthapen_answer.specs.Shapes.{lists_mask, lists_formed}
use Rattle.gurthapen_answer.proofs.Exports.{joined}
use Rattle.gurthapen.proofs.Bands.{back}
use Rattle.gurthapen_answer.specs.Dec.{lists_reader}

-- ---- energies

-- by the number of the refusal
by-energies : {a : Said Reader} {es' : List Float} {l' : List ℤ} {r : ℕ} (l : List ℤ) (n : ℕ) (y : EnergiesAfter) (es : List Float)
    → ◌≡◌ {A = bands.After} (record { said = a; energies = es' }) (bands.answer_r n y es) → result r l' ≡ result_of (lists_reader a) l
    → result {A = List ℤ × List Float} r (l', es') ≡ result_of (lists_energies (bands.answer_r n y es)) (l, es)
by-energies l n y es e h = joined _ n y.next y.energies es l (ap (λ (t : bands.After). t.said) e) (ap (λ (t : bands.After). t.energies) e) h

-- a coarse decode, whose numbers were handed on
pub coarse-left : {a : Said Reader} {es' : List Float} {l' : List ℤ} {r : ℕ} {c lm start end intra : ℤ} {d d' : Reader} (l : List ℤ) (s : List ℕ)
    (es : List Float)
    → SFits w32 c → SFits w32 lm → SFits w32 start → SFits w32 end → SFits w32 intra → d ≡ d'
    → ◌≡◌ {A = bands.After} (record { said = a; energies = es' }) (bands.coarse_reading (back c) (back lm) (back start) (back end) (back intra) s d es)
    → result r l' ≡ result_of (lists_reader a) l
    → result {A = List ℤ × List Float} r (l', es') ≡ result_of (lists_energies (bands.coarse_reading c lm start end intra s d' es)) (l, es)
coarse-left l s es c lm start end intra same e h =
    by-energies l _ _ _ (rw (to_z-of_z c, to_z-of_z lm, to_z-of_z start, to_z-of_z end, to_z-of_z intra, same) at e) h

-- the bits left over, spent
pub finalise-left : {a : Said Reader} {es' : List Float} {l' : List ℤ} {r : ℕ} {c start end bits : ℤ} {d d' : Reader} (l : List ℤ) (fine priorities : List ℤ)
    (s : List ℕ) (es : List Float)
    → SFits w32 c → SFits w32 start → SFits w32 end → SFits w32 bits → d ≡ d'
    → ◌≡◌ {A = bands.After} (record { said = a; energies = es' }) (bands.finalise_reading (back c) (back start) (back end) fine priorities (back bits) s d es)
    → result r l' ≡ result_of (lists_reader a) l
    → result {A = List ℤ × List Float} r (l', es') ≡ result_of (lists_energies (bands.finalise_reading c start end fine priorities bits s d' es)) (l, es)
finalise-left l fine priorities s es c start end bits same e h =
    by-energies l _ _ _ (rw (to_z-of_z c, to_z-of_z start, to_z-of_z end, to_z-of_z bits, same) at e) h

-- ---- shapes

-- by the number of the refusal
by_shape : {a : Said ReadShape} {x' : List Float} {b' : List ℤ × List ℕ} {r : ℕ} (b : List ℤ × List ℕ) (n : ℕ) (y : ReadShape) (v x : List Float)
    → ◌≡◌ {A = vq.After} (record { said = a; shape = x' }) (vq.answer_r n y v x) → result r b' ≡ result_of (lists_mask a) b
    → result {A = (List ℤ × List ℕ) × List Float} r (b', x') ≡ result_of (lists_formed (vq.answer_r n y v x)) (b, x)
by_shape b n y v x e h = joined _ n y v x b (ap (λ (t : vq.After). t.said) e) (ap (λ (t : vq.After). t.shape) e) h

-- a shape that was read, whose numbers were handed on
pub shape-left : {a : Said ReadShape} {x' : List Float} {b' : List ℤ × List ℕ} {r : ℕ} {n k spread parts : ℤ} {d d' : Reader} (b : List ℤ × List ℕ) (s : List ℕ)
    (x : List Float) (gain : Float)
    → SFits w32 n → SFits w32 k → SFits w32 spread → SFits w32 parts → d ≡ d'
    → ◌≡◌ {A = vq.After} (record { said = a; shape = x' }) (vq.unquantised (vq.shape_request (back n) (back k) (back spread) (back parts) gain) s d x)
    → result r b' ≡ result_of (lists_mask a) b
    → result {A = (List ℤ × List ℕ) × List Float} r (b', x') ≡ result_of (lists_formed (vq.unquantised (vq.shape_request n k spread parts gain) s d' x)) (b, x)
shape-left b s x gain n k spread parts same e h =
    by_shape b _ _ _ _ (rw (to_z-of_z n, to_z-of_z k, to_z-of_z spread, to_z-of_z parts, same) at e) h
