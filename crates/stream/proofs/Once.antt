-- Each frame number is applied once, in order. Assumes nothing.
use Prim.Native.Nat.{ℕ, zero, suc, ◌+◌, ◌-◌, ◌≤◌, ◌<◌}
use mathlib.Core.Path.{◌≡◌, refl, sym, ap, ◌∙◌}
use mathlib.Core.Bool.{Bool, cond}
use mathlib.Core.List.{List, [], ◌∷◌}
use native.Mathlib.Nat.{zero-add}
use native.Mathlib.Numerals.{add-one}
use native.Mathlib.Omega.{arith}
use lib.Dec.{eqb}
use lib.ListN.{length}
use borrow.Author.Tests.{eq-eqb, ne_eqb, eqb-true, eqb-false, lt-ltb, le-ltb}
use Rattle.laws.proofs.Tests.{by_le, cond-by}
use Rattle.entdec.proofs.Accepted.{opened}
use Rattle.stream.specs.declared.Record.{Record}
use Rattle.stream.specs.Frame.{Framed}
use Rattle.stream.specs.Frame.{Call, fresh, order_of, refusal_frame, frame_refused, frame_answer, framed}
use Rattle.stream.proofs.Accepts.{answer-refused}
use Rattle.stream.specs.History.{record_after, applied_in, numbers_from, times, OnlyTheNext, RefusedChangesNothing, InOrder, EachOnce, CountsUp, NeverAgain}

-- ---- one frame

-- only the next number is in order
pub in_order : (next number : ℕ) → order_of next number ≡ 0 → number ≡ next
in_order next number h =
    by_le next number (λ a. by_le number next (λ b. omega arith) (λ b. absurd (above b)))
    (λ a. absurd (below a))
  where
    below : number < next → ⊥
    below a = let e = rw (lt-ltb number next a) at h in omega (arith, e)

    above : next < number → ⊥
    above b = let e = rw (le-ltb number next (omega arith), lt-ltb next number b) at h in omega (arith, e)

-- the answer's code is the number of the refusal
pub code_is : (n : ℕ) (r : Record) (q : Call) → (frame_answer n r q).code ≡ n
unfolding frame_answer
code_is zero r q = refl
code_is (suc n) r q = refl

-- number 0 is in order
pub number-next : (r : Record) (q : Call) → refusal_frame r q ≡ 0 → q.number ≡ r.next
unfolding refusal_frame
number-next r q h = in_order r.next q.number (opened _ _ _ _ _ _ h).none

-- an applied frame raises the next number by one
pub next_goes_up : (n : ℕ) (r : Record) (q : Call) → n ≡ 0 → (frame_answer n r q).rec.next ≡ r.next + 1
unfolding frame_answer
next_goes_up zero r q h = refl
next_goes_up (suc n) r q h = absurd (omega arith)

-- code 0 says that the order was 0, which only the next number gets
pub only_the_next : OnlyTheNext
only_the_next r q h =
    let e : refusal_frame r q ≡ 0 = sym (code_is (refusal_frame r q) r q) ∙ h in
    (number-next r q e, next_goes_up (refusal_frame r q) r q e)

-- a code that is not 0 is the number of a refusal
pub refused_changes_nothing : RefusedChangesNothing
refused_changes_nothing r q h =
    let c = code_is (refusal_frame r q) r q in
    sym (answer-refused (refusal_frame r q) r q (λ e. h (c ∙ e))) ∙ ap (λ (n : ℕ). frame_refused n r q.coder) (sym c)

-- ---- a stream of frames

-- the numbers a from n on were applied, and m comes next
abbrev pub Counted : ℕ → List ℕ → ℕ → Type 0
Counted n a m = (a ≡ numbers_from n (length a)) × (m ≡ n + length a)

-- before any call
pub counted_none : (n : ℕ) → Counted n [] n
unfolding numbers_from
counted_none n = (refl, omega arith)

-- one more before them
counted-more : (n number n' : ℕ) (a : List ℕ) (m : ℕ) → number ≡ n → n' ≡ n + 1 → Counted n' a m → Counted n (number ∷ a) m
unfolding numbers_from
counted-more n number n' a m p q h =
    let e : n' ≡ suc n = q ∙ add-one n in
    let g = h.1 in
    (ap (λ (k : ℕ). k ∷ a) p ∙ ap (λ (l : List ℕ). n ∷ l) (h.0 ∙ ap (λ (k : ℕ). numbers_from k (length a)) e), omega arith)

-- one frame before them, applied or refused
pub counted-frame : (r : Record) (q : Call) (a : List ℕ) (m : ℕ) → Counted (framed r q).rec.next a m
    → Counted r.next (cond (eqb (framed r q).code 0) (q.number ∷ a) a) m
counted-frame r q a m h =
    cond-by (λ l. Counted r.next l m) (eqb (framed r q).code 0)
    (λ e.
    let o = only_the_next r q (eqb-true (framed r q).code 0 e) in
    counted-more r.next q.number (framed r q).rec.next a m o.0 o.1 h)
    (λ e.
    let same : (framed r q).rec.next ≡ r.next = ap (λ (y : Framed). y.rec.next) (refused_changes_nothing r q (eqb-false (framed r q).code 0 e)) in
    rw same at h)

-- call by call
counted : (qs : List Call) (r : Record) → Counted r.next (applied_in r qs) (record_after r qs).next
unfolding applied_in record_after
counted [] r = counted_none r.next
counted (q ∷ qs) r = counted-frame r q (applied_in (framed r q).rec qs) (record_after (framed r q).rec qs).next (counted qs (framed r q).rec)

-- the next number never falls
pub next_up : (qs : List Call) (r : Record) → r.next ≤ (record_after r qs).next
next_up qs r = let h = (counted qs r).1 in omega arith

-- where m comes next, m - n of them were
pub counted_is : (n : ℕ) (a : List ℕ) (m : ℕ) → Counted n a m → (n ≤ m) × (a ≡ numbers_from n (m - n))
counted_is n a m h =
    let g = h.1 in
    let e : m - n ≡ length a = omega arith in
    (omega arith, h.0 ∙ ap (numbers_from n) (sym e))

-- from any record
pub counts_up : CountsUp
counts_up r qs = counted_is r.next (applied_in r qs) (record_after r qs).next (counted qs r)

-- a number that was applied is below the next ever after, and only the next is applied
pub never_again : NeverAgain
never_again r q qs q' h e h' =
    let o = only_the_next r q h in
    let o' = only_the_next (record_after (framed r q).rec qs) q' h' in
    let m = o.0 in
    let g = o.1 in
    let m' = o'.0 in
    let l = next_up qs (framed r q).rec in
    omega arith

-- from a fresh record
pub in_order_all : InOrder
unfolding fresh
in_order_all qs =
    let h = counted qs fresh in
    let e : (record_after fresh qs).next ≡ length (applied_in fresh qs) = h.1 ∙ zero-add (length (applied_in fresh qs)) in
    h.0 ∙ ap (λ (k : ℕ). numbers_from 0 k) (sym e)

-- in the numbers from m on, n stands nowhere if it is below them or past them, and once if it is one of them
times-low : (n m k : ℕ) → n < m → times n (numbers_from m k) ≡ 0
unfolding times numbers_from
times-low n m zero h = refl
times-low n m (suc k) h = rw (ne_eqb m n (λ e. omega arith)) (times-low n (suc m) k (omega arith))

-- past them
times-past : (n m k : ℕ) → m + k ≤ n → times n (numbers_from m k) ≡ 0
unfolding times numbers_from
times-past n m zero h = refl
times-past n m (suc k) h = rw (ne_eqb m n (λ e. omega arith)) (times-past n (suc m) k (omega arith))

-- one of them
times_in : (n m k : ℕ) → m ≤ n → n < m + k → times n (numbers_from m k) ≡ 1
unfolding times numbers_from
times_in n m zero h g = absurd (omega arith)
times_in n m (suc k) h g =
    by_le n m (λ l. rw (eq-eqb m n (omega arith)) (ap suc (times-low n (suc m) k (omega arith))))
    (λ l. rw (ne_eqb m n (λ e. omega arith)) (times_in n (suc m) k (omega arith) (omega arith)))

-- so in them it stands at most once
pub times-most : (n m k : ℕ) → times n (numbers_from m k) ≤ 1
times-most n m k =
    by_le m n
    (λ h. by_le (m + k) n (λ g. let e = times-past n m k g in omega arith) (λ g. let e = times_in n m k h g in omega arith))
    (λ h. let e = times-low n m k h in omega arith)

-- the numbers applied are those from 0 on, in which a number stands once
pub each_once : EachOnce
each_once qs n =
    let m = (record_after fresh qs).next in
    ap (times n) (in_order_all qs)
    ∙ by_le m n (λ h. times-past n 0 m (omega arith) ∙ sym (ap (λ (b : Bool). cond b 1 0) (le-ltb n m h)))
    (λ h. times_in n 0 m (omega arith) (omega arith) ∙ sym (ap (λ (b : Bool). cond b 1 0) (lt-ltb n m h)))
