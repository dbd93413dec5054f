-- A number that was applied is refused as 10 ever after. Assumes nothing.
use Prim.Native.Nat.{ℕ, zero, suc, ◌+◌, ◌≤◌, ◌<◌}
use mathlib.Core.Path.{◌≡◌, refl, sym, ap, ◌∙◌}
use mathlib.Core.Bool.{Bool, true, false, cond, ◌&&◌, and-eq-true_iff, false≢true}
use mathlib.Core.List.{List, [], ◌∷◌}
use native.Mathlib.Omega.{arith}
use lib.Dec.{eqb}
use lib.Ieee.{Float, binary32, fits}
use lib.Ieee.Scale.{finite}
use lib.IntN.{ℤ}
use lib.ListN.{length}
use borrow.Author.Tests.{eq-eqb, le-leb, lt-ltb, le-ltb}
use Rattle.laws.specs.Lists.{every}
use Rattle.laws.specs.Signs.{clip}
use Rattle.laws.proofs.Tests.{by_le, split_on}
use Rattle.entcode.specs.Refusal.{refusal}
use Rattle.entdec.specs.Rule.{reader_ok, read_refusal}
use Rattle.entdec.proofs.Accepted.{Open, opened, sound-ok}
use Rattle.quant_bands.specs.Question.{is_intra}
use Rattle.quant_bands.proofs.Accepts.{coarse_in}
use Rattle.quant_bands.proofs.Finite.{coarse_solid}
use Rattle.stream.specs.declared.Record.{Record}
use Rattle.stream.specs.Frame.{Call, fresh, numbers_ok, order_of, refusal_frame, frame_refused, frame_answer, framed}
use Rattle.stream.specs.History.{record_after, finite32, Usable, well_put, BelowRefused, TenIsBelow, PastRefused, AgainRefused, TwiceRefused}
use Rattle.stream.proofs.Accepts.{known}
use Rattle.stream.proofs.Once.{code_is, next_up, number-next, next_goes_up}

-- ---- a usable record stays usable

-- a fresh record is usable
pub fresh_usable : Usable fresh
unfolding fresh every fits
fresh_usable = record { long = refl; all = refl }

-- a list of finite f32 is finite, which is what a frame asks of its record
pub finite-all : (l : List Float) → every finite32 l ≡ true → every finite l ≡ true
unfolding every
finite-all [] e = refl
finite-all (x ∷ l) e =
    let p = (and-eq-true_iff (finite32 x) (every finite32 l)).0 e in
    (and-eq-true_iff (finite x) (every finite l)).1 (((and-eq-true_iff (fits binary32 x) (finite x)).0 p.0).1, finite-all l p.1)

-- by the number of the refusal: a decode keeps energies finite, and a refusal keeps all
answer_usable : (n : ℕ) (r : Record) (q : Call) → refusal_frame r q ≡ n → Usable r → Usable (frame_answer n r q).rec
unfolding frame_answer refusal_frame
answer_usable zero r q h u =
    let k = known _ _ _ _ _ _ _ (opened _ _ _ _ _ _ h).known in
    let i = coarse_in q.c q.lm q.start q.end q.intra k.coarse in
    let y = coarse_solid (clip q.c) (clip q.lm) (is_intra q.intra) q.packet i.1 (clip q.start) (clip q.end) q.coder r.energies
    i.0.end-le (record { long = u.long; all = u.all }) in
    record { long = y.long; all = y.all }
answer_usable (suc n) r q h u = u

-- a frame leaves a usable record usable, applied or refused
pub framed_usable : (r : Record) (q : Call) → Usable r → Usable (framed r q).rec
framed_usable r q u = answer_usable (refusal_frame r q) r q refl u

-- and so do all the calls after it
pub usable_after : (qs : List Call) (r : Record) → Usable r → Usable (record_after r qs)
unfolding record_after
usable_after [] r u = u
usable_after (q ∷ qs) r u = usable_after qs (framed r q).rec (framed_usable r q u)

-- ---- a number below the next

-- of the order alone: 10
below-is : (next number : ℕ) → number < next → order_of next number ≡ 10
below-is next number h = rw (lt-ltb number next h)

-- where the tests of 2, 1 and 3 pass and the order says 10, the refusal is 10
ten : (a b c l : Bool) (special : ℕ) (unclosed tell_fits : Bool) → (a && b && c) ≡ true → l ≡ true → special ≡ 10
    → refusal (a && true) (b && c) l special unclosed tell_fits ≡ 10
unfolding refusal
ten true true true l special unclosed tell_fits e f g = rw (f, g)
ten true true false l special unclosed tell_fits e f g = absurd (false≢true e)
ten true false c l special unclosed tell_fits e f g = absurd (false≢true e)
ten false b c l special unclosed tell_fits e f g = absurd (false≢true e)

-- so such a frame is 10
below_ten : (r : Record) (q : Call) → well_put r q ≡ true → every finite r.energies ≡ true → q.number < r.next → refusal_frame r q ≡ 10
unfolding refusal_frame read_refusal
below_ten r q w f h =
    ten (eqb q.coder.storage (length q.packet)) (reader_ok q.coder) _ _ _ _ _ w f (below-is r.next q.number h)

-- and its answer leaves record and reader
pub below-refused : BelowRefused
unfolding frame_answer
below-refused r q w f h = ap (λ (n : ℕ). frame_answer n r q) (below_ten r q w f h)

-- the number of the order alone is 10, where the other tests pass
order_ten : (next number : ℕ) (tell_fits : Bool) → refusal true true true (order_of next number) true tell_fits ≡ 10 → number < next
unfolding refusal
order_ten next number tell_fits e =
    by_le next number (λ h. by_le number next (λ g. absurd (equal h g tell_fits e)) (λ g. absurd (above g e))) (λ h. h)
  where
    equal : next ≤ number → number ≤ next → (tell_fits : Bool) → refusal true true true (order_of next number) true tell_fits ≡ 10 → ⊥
    equal h g true e = let z = rw (le-ltb number next h, le-ltb next number g) at e in omega (arith, z)
    equal h g false e = let z = rw (le-ltb number next h, le-ltb next number g) at e in omega (arith, z)

    above : next < number → refusal true true true (order_of next number) true tell_fits ≡ 10 → ⊥
    above g e = let z = rw (le-ltb number next (omega arith), lt-ltb next number g) at e in omega (arith, z)

-- 10 says that the tests before it pass
ten_is : (a b c l : Bool) (next number : ℕ) (tell_fits : Bool) → refusal (a && true) (b && c) l (order_of next number) true tell_fits ≡ 10
    → ((a && b && c) ≡ true) × (l ≡ true) × (number < next)
ten_is true true true true next number tell_fits e = (refl, refl, order_ten next number tell_fits e)
ten_is true true true false next number tell_fits e = absurd (unfold refusal in omega (arith, e))
ten_is true true false l next number tell_fits e = absurd (unfold refusal in omega (arith, e))
ten_is true false c l next number tell_fits e = absurd (unfold refusal in omega (arith, e))
ten_is false b c l next number tell_fits e = absurd (unfold refusal in omega (arith, e))

-- of a frame
ten_below : (r : Record) (q : Call) → refusal_frame r q ≡ 10 → (well_put r q ≡ true) × (every finite r.energies ≡ true) × (q.number < r.next)
unfolding refusal_frame read_refusal
ten_below r q e = ten_is (eqb q.coder.storage (length q.packet)) (reader_ok q.coder) _ _ r.next q.number _ e

-- by the answer's code
pub ten_is_below : TenIsBelow
ten_is_below r q e = ten_below r q (sym (code_is (refusal_frame r q) r q) ∙ e)

-- of a usable record
below_usable : (r : Record) (q : Call) → Usable r → q.number < r.next → well_put r q ≡ true → framed r q ≡ frame_refused 10 r q.coder
below_usable r q u h w = below-refused r q w (finite-all r.energies u.all) h

-- ---- a next number outside its domain

-- the test of the numbers fails, whatever the others are
outside : (r : Record) (q : Call) → 4294967295 < r.next → numbers_ok r.next q.number q.c q.lm q.start q.end q.intra ≡ false
outside r q h =
    split_on (numbers_ok r.next q.number q.c q.lm q.start q.end q.intra)
    (λ e. absurd (let l = (known _ _ _ _ _ _ _ e).most in omega arith))
    (λ e. e)

-- a number outside its domain is 1, whatever the tests after it say, and 2 goes before it
one_or_two : (a b c l : Bool) (special : ℕ) (tell_fits : Bool) → c ≡ false → refusal (a && true) (b && c) l special true tell_fits ≡ cond a 1 2
unfolding refusal
one_or_two true true c l special tell_fits e = rw e
one_or_two true false c l special tell_fits e = refl
one_or_two false b c l special tell_fits e = refl

-- of a frame
past-number : (r : Record) (q : Call) → 4294967295 < r.next → refusal_frame r q ≡ cond (eqb q.coder.storage (length q.packet)) 1 2
unfolding refusal_frame read_refusal
past-number r q h = one_or_two (eqb q.coder.storage (length q.packet)) (reader_ok q.coder) _ _ _ _ (outside r q h)

-- either number leaves record and reader
one_or_two_refused : (t : Bool) (r : Record) (q : Call) → frame_answer (cond t 1 2) r q ≡ frame_refused (cond t 1 2) r q.coder
unfolding frame_answer
one_or_two_refused true r q = refl
one_or_two_refused false r q = refl

-- both together
pub past-refused : PastRefused
past-refused r q h =
    ap (λ (n : ℕ). frame_answer n r q) (past-number r q h) ∙ one_or_two_refused (eqb q.coder.storage (length q.packet)) r q

-- ---- the theorems

-- a number that was applied stays below the next, so it is refused as 10 on the usable record that is then there
pub again_refused : AgainRefused
again_refused r q qs q' u h e w =
    let z : refusal_frame r q ≡ 0 = sym (code_is (refusal_frame r q) r q) ∙ h in
    let m = number-next r q z in
    let g = next_goes_up (refusal_frame r q) r q z in
    let l = next_up qs (framed r q).rec in
    below_usable (record_after (framed r q).rec qs) q' (usable_after qs (framed r q).rec (framed_usable r q u)) (omega arith) w

-- the numbers of a frame that was applied stay in their domain
numbers_again : (next number : ℕ) (c lm start end intra : ℤ) → numbers_ok next number c lm start end intra ≡ true → number ≡ next
    → numbers_ok (next + 1) number c lm start end intra ≡ true
unfolding numbers_ok
numbers_again next number c lm start end intra e p =
    let k = known next number c lm start end intra e in
    let l = k.last in
    simp (k.coarse, le-leb number 4294967294 l, le-leb (next + 1) 4294967295 (omega arith))

-- what number 0 says
opens : (r : Record) (q : Call) → refusal_frame r q ≡ 0 → Open (length q.packet) q.coder true
    (numbers_ok r.next q.number q.c q.lm q.start q.end q.intra) (every finite r.energies) (order_of r.next q.number)
unfolding refusal_frame
opens r q h = opened _ _ _ _ _ _ h

-- where 2 and 1 do not apply to a frame that is applied, they do not apply to it a second time
well_put_lem : (r : Record) (q : Call) → refusal_frame r q ≡ 0 → well_put (framed r q).rec q ≡ true
well_put_lem r q h =
    let o = opens r q h in
    let n = numbers_again r.next q.number q.c q.lm q.start q.end q.intra o.known (number-next r q h) in
    rw (next_goes_up (refusal_frame r q) r q h, eq-eqb q.coder.storage (length q.packet) o.whole, sound-ok q.coder o.state, n)

-- the second call has the same number, which is below the next by then
pub twice_refused : TwiceRefused
twice_refused r q u h =
    let z : refusal_frame r q ≡ 0 = sym (code_is (refusal_frame r q) r q) ∙ h in
    let m = number-next r q z in
    let g = next_goes_up (refusal_frame r q) r q z in
    below_usable (framed r q).rec q (framed_usable r q u) (omega arith) (well_put_lem r q z)
