-- Every energy stays finite, whatever the packet. Assumes nothing.
use Prim.Native.Nat.{ℕ, zero, suc, ◌+◌, ◌-◌, ◌*◌, ◌<◌, ◌≤◌}
use mathlib.Core.Path.{◌≡◌, refl, ◌∙◌}
use mathlib.Core.Bool.{Bool, true, ◌&&◌, and-eq-true_iff}
use mathlib.Core.List.{List, [], ◌∷◌}
use native.Mathlib.Omega.{arith}
use lib.Dec.{T, leb, lit≤}
use lib.IntN.{ℤ, nat_abs}
use lib.ListN.{length, get_or, set, length-set}
use lib.Ieee.{Float, nan, binary32, fits, add}
use lib.Ieee.Fits.{add-fits}
use lib.Ieee.Scale.{finite}
use denote.Floats.{is_true}
use borrow.Author.Tests.{eqb-true}
use Rattle.laws.specs.Lists.{every}
use Rattle.laws.specs.Signs.{clip}
use Rattle.laws.proofs.Lists.{every-at}
use Rattle.laws.proofs.Places.{places-keep}
use Rattle.laws.proofs.Tests.{cond-by}
use Rattle.laws.proofs.Within.{Within, within_more}
use Rattle.modes.proofs.PredictionRule.{coef_within, beta_within}
use Rattle.entcode.specs.Said.{lent_after}
use Rattle.entdec.specs.declared.Reader.{Reader}
use Rattle.entdec.proofs.Accepted.{opened}
use Rattle.entdec.proofs.Values.{raw-value}
use Rattle.quant_bands.specs.declared.coarse_band.Kind.{Kind}
use Rattle.quant_bands.specs.Prediction.{predicted}
use Rattle.quant_bands.specs.Steps.{read_step}
use Rattle.quant_bands.specs.Coarse.{CoarseState, kind_of, energy_at, coarse_start, coarse_band, coarse}
use Rattle.quant_bands.specs.Finalise.{Spending, spending, spend_at, takes_bit, spend_band, spend_pass, finalise}
use Rattle.quant_bands.specs.Question.{energies_ok, is_intra, count_at, refusal_coarse, refusal_finalise}
use Rattle.quant_bands.specs.Promises.{CoarseStaysFinite, FinaliseStaysFinite}
use Rattle.quant_bands.proofs.Stepping.{step-size}
use Rattle.quant_bands.proofs.BandKind.{kind-legal}
use Rattle.quant_bands.proofs.Offsets.{offset-within}
use Rattle.quant_bands.proofs.Spent.{takes_so}
use Rattle.quant_bands.proofs.Accepts.{coarse_in, bands_in, sized}
use Rattle.quant_bands.proofs.Bounds.{predicted-finite, carried-within, step-within}
use Rattle.quant_bands.proofs.Largest.{quarter_finite}

-- ---- a list of f32 that are finite

-- a finite f32
abbrev good : Float → Bool
good x = fits binary32 x && finite x

-- a test that holds, as a fact
yes : (b : Bool) → b ≡ true → T b
yes b e = rw e tt

-- a finite f32 stored keeps them so
every_set : (l : List Float) (i : ℕ) (x : Float) → good x ≡ true → every good l ≡ true → every good (set l i x) ≡ true
unfolding every
every_set [] i x h e = e
every_set (y ∷ l) zero x h e = (and-eq-true_iff (good x) (every good l)).1 (h, ((and-eq-true_iff (good y) (every good l)).0 e).1)
every_set (y ∷ l) (suc i) x h e =
    let p = (and-eq-true_iff (good y) (every good l)).0 e in
    (and-eq-true_iff (good y) (every good (set l i x))).1 (p.0, every_set l i x h p.1)

-- two tests of every entry are one
every-both : (l : List Float) → every (fits binary32) l ≡ true → every finite l ≡ true → every good l ≡ true
unfolding every
every-both [] e f = refl
every-both (x ∷ l) e f =
    let p = (and-eq-true_iff (fits binary32 x) (every (fits binary32) l)).0 e in
    let q = (and-eq-true_iff (finite x) (every finite l)).0 f in
    (and-eq-true_iff (good x) (every good l)).1 ((and-eq-true_iff (fits binary32 x) (finite x)).1 (p.0, q.0), every-both l p.1 q.1)

-- of which one is kept
every-finite : (l : List Float) → every good l ≡ true → every finite l ≡ true
unfolding every
every-finite [] e = refl
every-finite (x ∷ l) e =
    let p = (and-eq-true_iff (good x) (every good l)).0 e in
    (and-eq-true_iff (finite x) (every finite l)).1 (((and-eq-true_iff (fits binary32 x) (finite x)).0 p.0).1, every-finite l p.1)

-- 42 of them
pub record Solid (es : List Float) : Type 0 where
  pub long : length es ≡ 42
  pub all : every good es ≡ true

-- one of them
solid_at : (es : List Float) (k : ℕ) → k < 42 → Solid es → T (fits binary32 (get_or es k nan)) × T (finite (get_or es k nan))
solid_at es k h g =
    let p = (and-eq-true_iff (fits binary32 (get_or es k nan)) (finite (get_or es k nan))).0 (every-at good es nan g.all k (omega (arith, g.long))) in
    (yes _ p.0, yes _ p.1)

-- a sum stored
solid_set : (es : List Float) (k : ℕ) (x y : Float) → T (finite (add binary32 x y)) → Solid es → Solid (set es k (add binary32 x y))
solid_set es k x y t g =
    record {
      long = length-set es k _ ∙ g.long;
      all = every_set es k _
          ((and-eq-true_iff (fits binary32 (add binary32 x y)) (finite (add binary32 x y))).1 (is_true _ (add-fits binary32 x y), is_true _ t))
          g.all;
    }

-- ---- the coarse decode

module _ (m : Kind) (hc : Within m.coef 230 256) (hb : Within m.beta 1 1) (s : List ℕ)
    (small : (d : Reader) → nat_abs (read_step m.zero m.decay s d).value ≤ 32768) where
  -- a coarse step stores a finite energy
  energy_solid : (k n : ℕ) (prev : Float) (d : Reader) (es : List Float) → k < 42 → n ≤ 21 → Within prev (n * 65536) 1 → Solid es
      → Solid (energy_at m s k prev d es).energies
  unfolding energy_at predicted
  energy_solid k n prev d es h l w g =
      let q = step-within (read_step m.zero m.decay s d).value (small d) in
      let o = solid_at es k h g in
      solid_set es k _ _ (predicted-finite m.coef (get_or es k nan) prev _ hc o.0 o.1 (within_more prev (n * 65536) 1376256 1 (omega arith) w) q) g

  -- and hands on little more than it inherits
  energy-hands : (k n : ℕ) (prev : Float) (d : Reader) (es : List Float) → n ≤ 21 → Within prev (n * 65536) 1
      → Within (energy_at m s k prev d es).hands (suc n * 65536) 1
  unfolding energy_at
  energy-hands k n prev d es l w = carried-within m.beta prev _ n l hb w (step-within (read_step m.zero m.decay s d).value (small d))

-- after n bands
-- the energies are finite, and what each channel inherits is small
record Kept (n : ℕ) (g : CoarseState) : Type 0 where
  list : Solid g.energies
  in_first : Within g.first (n * 65536) 1
  in_second : Within g.second (n * 65536) 1

module _ (c lm : ℕ) (intra : Bool) (s : List ℕ) (h : lm < 4) where
  -- a band keeps that
  band-kept : (i n : ℕ) (g : CoarseState) → i < 21 → n < 21 → Kept n g → Kept (suc n) (coarse_band c lm intra s i g)
  unfolding coarse_band
  band-kept i n g l r k =
      let m = kind_of lm intra i in
      let hc : Within m.coef 230 256 = unfold kind_of in coef_within intra lm h in
      let hb : Within m.beta 1 1 = unfold kind_of in beta_within intra lm h in
      let sm : (d : Reader) → nat_abs (read_step m.zero m.decay s d).value ≤ 32768 = λ d. step-size m.zero m.decay s d (kind-legal lm intra i h) in
      let es = energy_solid m hc hb s sm i n g.first g.next g.energies (omega arith) (omega arith) k.in_first k.list in
      let a = energy-hands m hc hb s sm i n g.first g.next g.energies (omega arith) k.in_first in
      cond-by (λ (x : CoarseState). Kept (suc n) x) (leb 2 c)
      (λ e.
      record {
        list = energy_solid m hc hb s sm (i + 21) n g.second _ _ (omega arith) (omega arith) k.in_second es;
        in_first = a;
        in_second = energy-hands m hc hb s sm (i + 21) n g.second _ _ (omega arith) k.in_second;
      })
      (λ e. record { list = es; in_first = a; in_second = within_more g.second (n * 65536) (suc n * 65536) 1 (omega arith) k.in_second })

  -- and so do all bands
  pub coarse_solid : (start end : ℕ) (d : Reader) (es : List Float) → end ≤ 21 → Solid es → Solid (coarse c lm intra start end s d es).energies
  unfolding coarse
  coarse_solid start end d es e g =
      (places-keep (coarse_band c lm intra s) Kept start (end - start) (coarse_start d es) (record { list = g; in_first = lit≤ tt; in_second = lit≤ tt })
      (λ n x l k. band-kept (start + n) n x (omega arith) (omega arith) k)
      ).list

-- ---- the last bits

-- a last bit stores a finite energy
spend_solid : (fine : ℕ) (s : List ℕ) (k : ℕ) (g : Spending) → fine < 8 → k < 42 → Solid g.energies → Solid (spend_at fine s k g).energies
unfolding spend_at
spend_solid fine s k g h l f =
    let o = solid_at g.energies k l f in
    solid_set g.energies k _ _ (quarter_finite (get_or g.energies k nan) _ o.0 o.1 (offset-within _ fine (raw-value 1 s g.next) h)) f

module _ (c pass : ℕ) (fine priority : ℕ → ℕ) (s : List ℕ) where
  -- a band keeps them so
  spend-band_solid : (i : ℕ) (g : Spending) → i < 21 → Solid g.energies → Solid (spend_band c pass fine priority s i g).energies
  unfolding spend_band
  spend-band_solid i g l f =
      cond-by (λ (x : Spending). Solid x.energies) (takes_bit c pass (fine i) (priority i) g.left)
      (λ e.
      let h = (takes_so c pass (fine i) (priority i) g.left e).0 in
      let a = spend_solid (fine i) s i g h (omega arith) f in
      cond-by (λ (x : Spending). Solid x.energies) (leb 2 c) (λ e. spend_solid (fine i) s (i + 21) _ h (omega arith) a) (λ e. a))
      (λ e. f)

  -- and a pass
  pass_solid : (start end : ℕ) (g : Spending) → end ≤ 21 → Solid g.energies → Solid (spend_pass c pass fine priority start end s g).energies
  unfolding spend_pass
  pass_solid start end g e f =
      places-keep (spend_band c pass fine priority s) (λ n x. Solid x.energies) start (end - start) g f
      (λ n x l k. spend-band_solid (start + n) x (omega arith) k)

-- and both passes
pub finalise_solid : (c : ℕ) (fine priority : ℕ → ℕ) (start end left : ℕ) (s : List ℕ) (d : Reader) (es : List Float) → end ≤ 21 → Solid es
    → Solid (finalise c fine priority start end left s d es).energies
unfolding finalise
finalise_solid c fine priority start end left s d es e f = pass_solid c 1 fine priority s start end _ e
    (pass_solid c 0 fine priority s start end (spending es left d) e f)

-- ---- the calls: refused or not, energies that are finite f32 stay finite

-- a refusal leaves the energies as they were
answer-finite : (n : ℕ) (fs es : List Float) → energies_ok es ≡ true → (n ≡ 0 → energies_ok fs ≡ true) → energies_ok (lent_after n fs es) ≡ true
unfolding lent_after
answer-finite zero fs es f h = h refl
answer-finite (suc n) fs es f h = f

-- an accepted coarse decode
coarse_accepted : (c lm start end intra : ℤ) (s : List ℕ) (d : Reader) (es : List Float) → every (fits binary32) es ≡ true → energies_ok es ≡ true
    → refusal_coarse c lm start end intra s d es ≡ 0 → energies_ok (coarse (clip c) (clip lm) (is_intra intra) (clip start) (clip end) s d es).energies ≡ true
unfolding refusal_coarse
coarse_accepted c lm start end intra s d es e f z =
    let o = opened _ d _ _ _ 0 z in
    let q = coarse_in c lm start end intra o.known in
    every-finite _
    (coarse_solid (clip c) (clip lm) (is_intra intra) s q.1 (clip start) (clip end) d es q.0.end-le
    (record { long = eqb-true (length es) 42 o.sizes; all = every-both es e f })
    ).all

-- a refusal leaves them, and what is decoded is finite
pub coarse-finite : CoarseStaysFinite
coarse-finite c lm start end intra s d es e f = answer-finite _ _ es f (λ z. coarse_accepted c lm start end intra s d es e f z)

-- accepted last bits
finalise_accepted : (c start end : ℤ) (fine priorities : List ℤ) (left : ℤ) (s : List ℕ) (d : Reader) (es : List Float) → every (fits binary32) es ≡ true
    → energies_ok es ≡ true → refusal_finalise c start end fine priorities s d es ≡ 0
    → energies_ok (finalise (clip c) (count_at fine) (count_at priorities) (clip start) (clip end) (clip left) s d es).energies ≡ true
unfolding refusal_finalise
finalise_accepted c start end fine priorities left s d es e f z =
    let o = opened _ d _ _ _ 0 z in
    let q = bands_in c start end o.known in
    every-finite _
    (finalise_solid (clip c) (count_at fine) (count_at priorities) (clip start) (clip end) (clip left) s d es q.end-le
    (record { long = (sized (length es) (length fine) (length priorities) o.sizes).0; all = every-both es e f })
    ).all

-- a refusal leaves them, and a finite sum is stored
pub finalise-finite : FinaliseStaysFinite
finalise-finite c start end fine priorities left s d es e f =
    answer-finite _ _ es f (λ z. finalise_accepted c start end fine priorities left s d es e f z)
