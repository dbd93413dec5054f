-- Every entry of an accepted shape is finite. Assumes nothing.
use Prim.Native.Nat.{ℕ, suc, ◌*◌, ◌^◌, ◌≤◌, ◌<◌}
use mathlib.Core.Path.{◌≡◌, refl, sym, ap, ◌∙◌}
use mathlib.Core.Bool.{true, false, ◌&&◌, ◌||◌, false≢true, and-eq-true_iff}
use mathlib.Core.Logic.{⊎_elim}
use mathlib.Core.List.{List, [], ◌∷◌}
use native.Mathlib.Nat.{mul-pos}
use native.Mathlib.Omega.{arith}
use lib.Dec.{T, ltb, eqb, lit<, lit≤}
use lib.IntN.{ℤ, pos, negsuc, nat_abs}
use lib.ListN.{length}
use lib.Ieee.{Float, nan, inf, fin, binary32, up, down, mul, div, of_int, neg, le, lt, eq}
use lib.Ieee.Scale.{finite}
use lib.Ieee.Positive.{num, den, positive}
use denote.Floats.{is_true}
use borrow.Author.Tests.{ltb-true, eqb-true}
use Rattle.laws.specs.Signs.{clip}
use Rattle.laws.specs.Lists.{every}
use Rattle.laws.proofs.Tests.{or_parts}
use Rattle.laws.proofs.Within.{Within, within-finite, Whole, round-within, mul-within}
use Rattle.entcode.specs.Said.{number}
use Rattle.entcode.proofs.Said.{number-answer}
use Rattle.entdec.specs.declared.Reader.{Reader}
use Rattle.entdec.proofs.Accepted.{Open, opened}
use Rattle.cwrs.specs.Word.{pulses, energy}
use Rattle.cwrs.specs.Answer.{read_word}
use Rattle.cwrs.proofs.Words.{pulses_cons}
use Rattle.vq.specs.Root.{root_of}
use Rattle.vq.specs.Shape.{float_one, factor_of, scaled, shape_of}
use Rattle.vq.specs.Answer.{ShapeRequest, gain_ok, length_ok, numbers_ok, special_shape, refusal_shape, read_shape_of, After, unquantised}
use Rattle.vq.proofs.Quotient.{num-some, div_is}
use Rattle.vq.proofs.Nearer.{root_nearest, root_least}
use Rattle.vq.proofs.Refusing.{domain, answer_got}
use Rattle.vq.proofs.Vectors.{Vector, read_vector}

-- ---- the gain

-- a < b or a = b, as `le` has it of two numbers of one sign
at_most : (x y a b : ℕ) → (a ≡ b → x ≤ y) → (ltb x y || (eqb a b && true)) ≡ true → x ≤ y
at_most x y a b f h =
    ⊎_elim (λ l. omega (arith, ltb-true x y l)) (λ l. f (eqb-true a b ((and-eq-true_iff (eqb a b) true).0 l).0))
    (or_parts (ltb x y) (eqb a b && true) h)

-- by the sign, and what the order of floats says of it
pub unit_within : (g : Float) → gain_ok g ≡ true → Within g 1 1
unfolding le lt eq neg
unit_within nan h = absurd (false≢true h)
unit_within (inf true) h = absurd (false≢true h)
unit_within (inf false) h = absurd (false≢true h)
unit_within (fin true m e) h =
    let p = (and-eq-true_iff (le (neg float_one) (fin true m e)) (le (fin true m e) float_one)).0 h in
    omega (arith, at_most (m * up e * 1) (1 * down e) (1 * down e) (m * up e * 1) (λ q. omega arith) p.0)
unit_within (fin false m e) h =
    let p = (and-eq-true_iff (le (neg float_one) (fin false m e)) (le (fin false m e) float_one)).0 h in
    omega (arith, at_most (m * up e * 1) (1 * down e) (m * up e * 1) (1 * down e) (λ q. omega arith) p.1)

-- ---- the factor

-- 1 is an f32, as the bounds ask
one_whole : Whole 1
one_whole = record { q = 1; k = 0; is = refl; few = lit< tt; under = lit< tt }

-- and so is 128
part-whole : Whole 128
part-whole = record { q = 1; k = 7; is = refl; few = lit< tt; under = lit< tt }

-- the inverse of a root that is at least 1 is at most 1
share-within : (r : Float) → T (positive r) → den r ≤ num r → Within (div binary32 float_one r) 1 1
share-within r p l =
    rw (div_is binary32 float_one r tt p) (round-within false (num float_one * den r) (num r * den float_one) 1 (mul-pos (num-some r p) (lit< tt)) (omega arith)
    one_whole)

-- times a gain of at most 1, it still is
factor_within : (n : ℕ) (gain : Float) → 0 < n → n < 2 ^ 48 → Within gain 1 1 → Within (factor_of n gain) 1 1
factor_within n gain p h w =
    mul-within (div binary32 float_one (root_of n)) gain 1 1 1 1 (lit< tt) (share-within (root_of n) (root_nearest n p h).plus (root_least n p h)) w (lit≤ tt)
    one_whole

-- ---- the shape

-- a place has at most 128 pulses
pulse_within : (y : ℤ) → nat_abs y ≤ 128 → Within (of_int binary32 y) 128 1
unfolding of_int
pulse_within (pos n) h = round-within false n 1 128 (lit< tt) (omega arith) part-whole
pulse_within (negsuc n) h = round-within true (suc n) 1 128 (lit< tt) (omega arith) part-whole

-- so each product is at most 128
scaled-finite : (g : Float) (v : List ℤ) → Within g 1 1 → pulses v ≤ 128 → every finite (scaled g v) ≡ true
unfolding scaled every
scaled-finite g [] w h = refl
scaled-finite g (y ∷ v) w h =
    let p = pulses_cons y v in
    let x = mul-within g (of_int binary32 y) 1 128 1 128 (lit< tt) w (pulse_within y (omega arith)) (lit≤ tt) part-whole in
    let z = mul binary32 g (of_int binary32 y) in
    (and-eq-true_iff (finite z) (every finite (scaled g v))).1 (is_true (finite z) (within-finite z 128 1 x), scaled-finite g v w (omega arith))

-- whatever vector is read
pub shape-finite : (n : ℕ) (gain : Float) (v : List ℤ) → Vector n v → gain_ok gain ≡ true → every finite (shape_of gain v) ≡ true
shape-finite n gain v r g =
    scaled-finite (factor_of (energy v) gain) v (factor_within (energy v) gain r.some (omega (arith, r.most)) (unit_within gain g)) r.few

-- number 0, as facts
accepted : (q : ShapeRequest) (places : ℕ) (s : List ℕ) (d : Reader) → refusal_shape q places s d ≡ 0
    → Open (length s) d (length_ok q.n places) (numbers_ok q.n q.k q.spread q.b) (gain_ok q.gain)
    (special_shape (clip q.n) (clip q.k) (clip q.spread))
unfolding refusal_shape
accepted q places s d e = opened _ _ _ _ _ _ e

-- whatever the call is asked, over any packet and any lent shape
pub accepted_finite : (q : ShapeRequest) (s : List ℕ) (d : Reader) (x : List Float) → number (unquantised q s d x).said ≡ 0
    → every finite (unquantised q s d x).shape ≡ true
accepted_finite q s d x e =
    let n = clip q.n in
    let k = clip q.k in
    let r = read_shape_of n k (clip q.b) s d in
    let v = shape_of q.gain (read_word n k s d) in
    let z : refusal_shape q (length x) s d ≡ 0 = sym (number-answer (refusal_shape q (length x) s d) r) ∙ e in
    let o = accepted q (length x) s d z in
    let t = domain q.n q.k q.spread q.b o.known in
    ap (λ (f : After). every finite f.shape) (sym (answer_got (refusal_shape q (length x) s d) r v x z))
    ∙ shape-finite n q.gain (read_word n k s d) (read_vector n k s d t.places.low t.pulses.low t.pulses.high) o.entries
