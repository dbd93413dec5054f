-- The places of the Laplace values: each value has some, no place belongs to two, every place below 32,768 belongs to one, and a reader of a
-- place finds the value that was written there. Assumes nothing.
use Prim.Native.Nat.{ℕ, zero, suc, ◌+◌, ◌-◌, ◌*◌, ◌/◌, ◌≤◌, ◌<◌}
use mathlib.Core.Path.{◌≡◌, refl, ap, sym, subst, ◌∙◌}
use mathlib.Core.Bool.{Bool, true, false}
use lib.Dec.{ltb}
use native.Mathlib.Omega.{arith}
use native.Mathlib.Nat.{le_refl}
use borrow.Author.Tests.{ltb-true, ltb-false, leb-true, leb-false, lt-ltb, le-ltb, le-leb, lt-leb}
use Rattle.laws.proofs.Tests.{split_on}
use Rattle.modes.proofs.Laplace.{Legal, runs_out-next, runs_out-zero}
use Rattle.laplace.specs.declared.chain.Step.{Step}
use Rattle.laplace.specs.Chain.{
  first_step,
  next_step,
  walk,
  up_to,
  past,
  side,
  zero_span,
  values_with_place,
  beyond,
  span_at,
  span_of,
  deep,
  side_at,
  locate_at,
}
use Rattle.laplace.specs.Chain.{locate, Proper}
use Rattle.laplace.proofs.Walks.{Ends, goes_on, on_some, on_more, walk_step, walk-done, ends-within}

-- ---- where a walk ends

-- e is where a walk of at most k steps from s ends: not before s, and its places lie within the 32,768
pub record Went (k : ℕ) (s e : Step) : Type 0 where
  pub up : s.fl ≤ e.fl
  pub on : s.i ≤ e.i
  pub most : e.i ≤ s.i + k
  pub within : e.fl + 2 * e.f + 2 ≤ 32768

-- a walk of no step
stay : (k dec : ℕ) (s : Step) → Ends k dec s → Went k s s
stay k dec s h = record { up = le_refl _; on = le_refl _; most = omega arith; within = ends-within k dec s h }

-- every walk along a chain that comes to its end
pub walk_went : (more : Step → Bool) (k dec : ℕ) (s : Step) → Ends k dec s → Went k s (walk more k dec s)
unfolding walk
walk_went more zero dec s h = stay zero dec s h
walk_went more (suc k) dec s h =
    split_on (goes_on more s)
    (λ t.
    let p = on_some more s t in
    let w = walk_went more k dec (next_step dec s) (runs_out-next dec k s.fl s.f p h) in
    rw (walk_step more k dec s t) (record { up = omega arith; on = omega arith; most = omega arith; within = w.within }))
    (λ t. rw (walk-done more (suc k) dec s t) (stay (suc k) dec s h))

-- it ends because there is no more to do, and not for want of steps
pub walk-stops : (more : Step → Bool) (k dec : ℕ) (s : Step) → Ends k dec s
    → goes_on more (walk more k dec s) ≡ false
unfolding walk
walk-stops more zero dec s h =
    let z = runs_out-zero dec s.fl s.f h in
    rw (le-ltb 0 s.f (omega arith))
walk-stops more (suc k) dec s h =
    split_on (goes_on more s)
    (λ t.
    let p = on_some more s t in
    rw (walk_step more k dec s t) (walk-stops more k dec (next_step dec s) (runs_out-next dec k s.fl s.f p h)))
    (λ t. rw (walk-done more (suc k) dec s t) t)

-- a writer goes no further than its value, a reader not past its place
pub up_to-le : (a k dec : ℕ) (s : Step) → s.i ≤ a → (walk (up_to a) k dec s).i ≤ a
unfolding walk
up_to-le a zero dec s h = h
up_to-le a (suc k) dec s h =
    split_on (goes_on (up_to a) s)
    (λ t.
    let q = ltb-true s.i a (on_more (up_to a) s t) in
    rw (walk_step (up_to a) k dec s t) (up_to-le a k dec (next_step dec s) (omega arith)))
    (λ t. rw (walk-done (up_to a) (suc k) dec s t) h)

-- and a reader's walk ends at or before its place
pub past-le : (fm k dec : ℕ) (s : Step) → s.fl ≤ fm → (walk (past fm) k dec s).fl ≤ fm
unfolding walk
past-le fm zero dec s h = h
past-le fm (suc k) dec s h =
    split_on (goes_on (past fm) s)
    (λ t.
    let q = leb-true (s.fl + 2 * s.f + 2) fm (on_more (past fm) s t) in
    rw (walk_step (past fm) k dec s t) (past-le fm k dec (next_step dec s) q))
    (λ t. rw (walk-done (past fm) (suc k) dec s t) h)

-- the reader of a place of a value ends where the writer of the value does
pub agree : (a fm k dec : ℕ) (s : Step) → Ends k dec s
    → (walk (up_to a) k dec s).fl ≤ fm → (0 < (walk (up_to a) k dec s).f → fm < (walk (up_to a) k dec s).fl + 2 * (walk (up_to a) k dec s).f + 2)
    → walk (past fm) k dec s ≡ walk (up_to a) k dec s
unfolding walk
agree a fm zero dec s h l u = refl
agree a fm (suc k) dec s h l u =
    split_on (ltb 0 s.f)
    (λ p.
    let p' = ltb-true 0 s.f p in
    split_on (up_to a s)
    (λ m.
    let t : goes_on (up_to a) s ≡ true = rw (p, m) in
    let e = walk_step (up_to a) k dec s t in
    let l' = rw e at l in
    let w = walk_went (up_to a) k dec (next_step dec s) (runs_out-next dec k s.fl s.f p' h) in
    let t' : goes_on (past fm) s ≡ true = rw (p, le-leb (s.fl + 2 * s.f + 2) fm (omega arith)) in
    walk_step (past fm) k dec s t' ∙ agree a fm k dec (next_step dec s) (runs_out-next dec k s.fl s.f p' h) l' (rw e at u) ∙ sym e)
    (λ m.
    let t : goes_on (up_to a) s ≡ false = rw (p, m) in
    let e = walk-done (up_to a) (suc k) dec s t in
    let u' = (rw e at u) p' in
    let t' : goes_on (past fm) s ≡ false = rw (p, lt-leb (s.fl + 2 * s.f + 2) fm u') in
    walk-done (past fm) (suc k) dec s t' ∙ sym e))
    (λ p.
    let t : goes_on (up_to a) s ≡ false = rw p in
    let t' : goes_on (past fm) s ≡ false = rw p in
    walk-done (past fm) (suc k) dec s t' ∙ sym (walk-done (up_to a) (suc k) dec s t))

-- and the other way
pub agree_back : (fm d k dec : ℕ) (s : Step) → Ends k dec s
    → (0 < (walk (past fm) k dec s).f → d ≡ 0)
    → walk (up_to ((walk (past fm) k dec s).i + d)) k dec s ≡ walk (past fm) k dec s
unfolding walk
agree_back fm d zero dec s h z = refl
agree_back fm d (suc k) dec s h z =
    split_on (ltb 0 s.f)
    (λ p.
    let p' = ltb-true 0 s.f p in
    split_on (past fm s)
    (λ m.
    let t : goes_on (past fm) s ≡ true = rw (p, m) in
    let e = walk_step (past fm) k dec s t in
    let w = walk_went (past fm) k dec (next_step dec s) (runs_out-next dec k s.fl s.f p' h) in
    let t' : goes_on (up_to ((walk (past fm) k dec (next_step dec s)).i + d)) s ≡ true = rw (
      p,
      lt-ltb s.i ((walk (past fm) k dec (next_step dec s)).i + d)
          (omega arith),
    ) in
    subst (λ (x : Step). walk (up_to (x.i + d)) (suc k) dec s ≡ x) (sym e)
    (walk_step (up_to ((walk (past fm) k dec (next_step dec s)).i + d)) k dec s t' ∙ agree_back fm d k dec (next_step dec s)
    (runs_out-next dec k s.fl s.f p' h) (rw e at z)))
    (λ m.
    let t : goes_on (past fm) s ≡ false = rw (p, m) in
    let e = walk-done (past fm) (suc k) dec s t in
    let y = (rw e at z) p' in
    let t' : goes_on (up_to (s.i + d)) s ≡ false = rw (p, le-ltb s.i (s.i + d) (omega arith)) in
    subst (λ (x : Step). walk (up_to (x.i + d)) (suc k) dec s ≡ x) (sym e) (walk-done (up_to (s.i + d)) (suc k) dec s t')))
    (λ p.
    let t : goes_on (past fm) s ≡ false = rw p in
    let e = walk-done (past fm) (suc k) dec s t in
    let t' : goes_on (up_to (s.i + d)) s ≡ false = rw p in
    subst (λ (x : Step). walk (up_to (x.i + d)) (suc k) dec s ≡ x) (sym e) (walk-done (up_to (s.i + d)) (suc k) dec s t'))

-- ---- the places of one value

-- how far past the chain's end a written value lies: never where f is not 0
pub beyond-zero : (neg : Bool) (a : ℕ) (e : Step) → 0 < e.f → beyond neg a e ≡ 0
beyond-zero neg a e p = rw (lt-ltb 0 e.f p)

-- nor further than the last value that has a place
beyond-le : (neg : Bool) (a : ℕ) (e : Step) → beyond neg a e ≤ values_with_place neg e.fl - 1
beyond-le neg a e = split_on (ltb 0 e.f) (λ p. rw p (omega arith)) (λ p. rw p (omega arith))

-- where f is 0 or d is, and as many as d values have a place, the places are proper
side_proper : (neg : Bool) (e : Step) (d : ℕ) → e.i ≤ 33 → e.fl + 2 * e.f + 2 ≤ 32768 → (0 < e.f → d ≡ 0) → d ≤ values_with_place neg e.fl - 1
    → Proper (side neg e d)
side_proper neg e d n r z l =
    split_on (ltb 0 e.f)
    (λ p. go neg (z (ltb-true 0 e.f p)))
    (λ p. tail neg (ltb-false 0 e.f p) l)
  where
    go : (b : Bool) → d ≡ 0 → Proper (side b e d)
    go true y = record { some = omega arith; within = omega arith; small = omega arith }
    go false y = record { some = omega arith; within = omega arith; small = omega arith }

    tail : (b : Bool) → e.f ≤ 0 → d ≤ values_with_place b e.fl - 1 → Proper (side b e d)
    tail true y h = record { some = omega arith; within = omega arith; small = omega arith }
    tail false y h = record { some = omega arith; within = omega arith; small = omega arith }

-- the reader of such a place, at the same step, finds the value
side-found : (neg : Bool) (fm : ℕ) (e : Step) (d : ℕ) → (0 < e.f → d ≡ 0) → (side neg e d).fl ≤ fm → fm < (side neg e d).fh → locate_at fm e ≡ side neg e d
side-found neg fm e d z l u =
    let q : deep fm e ≡ d =
    split_on (ltb 0 e.f)
    (λ p. rw p (sym (z (ltb-true 0 e.f p))))
    (λ p. rw p (half neg (ltb-false 0 e.f p) l u)) in
    ap (λ (x : ℕ). side_at fm e x) q ∙ ap (λ (b : Bool). side b e d) (sign neg l u)
  where
    half : (b : Bool) → e.f ≤ 0 → (side b e d).fl ≤ fm → fm < (side b e d).fh → (fm - e.fl) / 2 ≡ d
    half true y h k = omega arith
    half false y h k = omega arith

    sign : (b : Bool) → (side b e d).fl ≤ fm → fm < (side b e d).fh → ltb fm (e.fl + 2 * d + e.f + 1) ≡ b
    sign true h k = lt-ltb fm (e.fl + 2 * d + e.f + 1) (omega arith)
    sign false h k = le-ltb fm (e.fl + 2 * d + e.f + 1) (omega arith)

-- they lie from the step's begin on, and before the next step's where f is not 0
side-low : (neg : Bool) (fm : ℕ) (e : Step) (d : ℕ) → (side neg e d).fl ≤ fm → e.fl ≤ fm
side-low true fm e d l = omega arith
side-low false fm e d l = omega arith

-- and before the next step's, where f is not 0
side-high : (neg : Bool) (fm : ℕ) (e : Step) → fm < (side neg e 0).fh → fm < e.fl + 2 * e.f + 2
side-high true fm e u = omega arith
side-high false fm e u = omega arith

-- what a reader at a step finds holds its place
pub deep-zero : (fm : ℕ) (e : Step) → 0 < e.f → deep fm e ≡ 0
deep-zero fm e p = rw (lt-ltb 0 e.f p)

-- a reader stops at a step whose places end after its own
stop-high : (fm : ℕ) (e : Step) → goes_on (past fm) e ≡ false → 0 < e.f → fm < e.fl + 2 * e.f + 2
stop-high fm e t p = leb-false (e.fl + 2 * e.f + 2) fm (rw (lt-ltb 0 e.f p) at t)

-- where it is, in numbers
deep-at : (fm : ℕ) (e : Step) → e.fl ≤ fm → (0 < e.f → fm < e.fl + 2 * e.f + 2)
    → (e.fl + 2 * deep fm e ≤ fm) × (fm < e.fl + 2 * deep fm e + (2 * e.f + 2))
deep-at fm e l u =
    split_on (ltb 0 e.f)
    (λ p. let h = u (ltb-true 0 e.f p) in rw p (omega arith, omega arith))
    (λ p. let h = ltb-false 0 e.f p in rw p (omega arith, omega arith))

-- so what it finds has places that can be coded, its own among them
located_proper : (fm : ℕ) (e : Step) → e.i ≤ 33 → e.fl + 2 * e.f + 2 ≤ 32768 → e.fl ≤ fm → fm < 32768 → (0 < e.f → fm < e.fl + 2 * e.f + 2)
    → Proper (locate_at fm e) × ((locate_at fm e).fl ≤ fm) × (fm < (locate_at fm e).fh)
located_proper fm e n r l h u =
    let q = deep-at fm e l u in
    split_on (ltb 0 e.f)
    (λ p. let z = deep-zero fm e (ltb-true 0 e.f p) in
    split_on (ltb fm (e.fl + 2 * deep fm e + e.f + 1))
    (λ t. let t' = ltb-true fm (e.fl + 2 * deep fm e + e.f + 1) t in
    rw t (record { some = omega arith; within = omega arith; small = omega arith }, omega arith, omega arith))
    (λ t. let t' = ltb-false fm (e.fl + 2 * deep fm e + e.f + 1) t in
    rw t (record { some = omega arith; within = omega arith; small = omega arith }, omega arith, omega arith)))
    (λ p. let z = ltb-false 0 e.f p in
    split_on (ltb fm (e.fl + 2 * deep fm e + e.f + 1))
    (λ t. let t' = ltb-true fm (e.fl + 2 * deep fm e + e.f + 1) t in
    rw t (record { some = omega arith; within = omega arith; small = omega arith }, omega arith, omega arith))
    (λ t. let t' = ltb-false fm (e.fl + 2 * deep fm e + e.f + 1) t in
    rw t (record { some = omega arith; within = omega arith; small = omega arith }, omega arith, omega arith)))

-- a writer of the value that a reader found at a step, at the same step, codes the same
beyond-found : (neg : Bool) (fm : ℕ) (e : Step) → e.fl ≤ fm → fm < 32768 → ltb fm (e.fl + 2 * deep fm e + e.f + 1) ≡ neg
    → beyond neg (e.i + deep fm e) e ≡ deep fm e
beyond-found true fm e l h t =
    let t' = ltb-true fm (e.fl + 2 * deep fm e + e.f + 1) t in
    split_on (ltb 0 e.f) (λ p. rw p) (λ p. let z = ltb-false 0 e.f p in rw p (omega (arith, rw p at t')))
beyond-found false fm e l h t =
    let t' = ltb-false fm (e.fl + 2 * deep fm e + e.f + 1) t in
    split_on (ltb 0 e.f) (λ p. rw p) (λ p. let z = ltb-false 0 e.f p in rw p (omega (arith, rw p at t')))

-- so the two agree on the whole span
located_span : (fm : ℕ) (e : Step) → e.fl ≤ fm → fm < 32768 → span_at (locate_at fm e).neg (locate_at fm e).mag e ≡ locate_at fm e
located_span fm e l h = ap (λ (x : ℕ). side (ltb fm (e.fl + 2 * deep fm e + e.f + 1)) e x) (beyond-found _ fm e l h refl)

-- ---- the laws

module _ (fs dec : ℕ) (ok : Legal fs dec) where
  -- some places, within the 32,768
  pub span_proper : (neg : Bool) (a : ℕ) → Proper (span_of neg a fs dec)
  unfolding span_of
  span_proper neg a =
      split_on (ltb 0 a)
      (λ p.
      let e : Step = walk (up_to a) 32 dec (first_step fs dec) in
      let w : Went 32 (first_step fs dec) e = walk_went (up_to a) 32 dec (first_step fs dec) ok.ended in
      rw p (side_proper neg e _ w.most w.within (beyond-zero neg a e) (beyond-le neg a e)))
      (λ p. rw p (record { some = ok.some; within = omega (arith, ok.most); small = omega arith }))

  -- a reader of a place of a value finds the value and its places
  pub span_found : (neg : Bool) (a fm : ℕ) → (span_of neg a fs dec).fl ≤ fm → fm < (span_of neg a fs dec).fh → locate fm fs dec ≡ span_of neg a fs dec
  unfolding span_of locate
  span_found neg a fm l u =
      split_on (ltb 0 a)
      (λ p.
      let e : Step = walk (up_to a) 32 dec (first_step fs dec) in
      let d : ℕ = beyond neg a e in
      let l' : (side neg e d).fl ≤ fm = rw p at l in
      let u' : fm < (side neg e d).fh = rw p at u in
      let w : Went 32 (first_step fs dec) e = walk_went (up_to a) 32 dec (first_step fs dec) ok.ended in
      let low : e.fl ≤ fm = side-low neg fm e d l' in
      let g : walk (past fm) 32 dec (first_step fs dec) ≡ e =
      agree a fm 32 dec (first_step fs dec) ok.ended low
      (λ h. side-high neg fm e (rw (beyond-zero neg a e h) at u')) in
      rw (p, le-ltb fm fs (omega arith), g) (side-found neg fm e d (beyond-zero neg a e) l' u'))
      (λ p.
      let u' : fm < fs = rw p at u in
      rw (p, lt-ltb fm fs u'))

  -- every place belongs to the value that is found there
  pub found_proper : (fm : ℕ) → fm < 32768 → Proper (locate fm fs dec) × ((locate fm fs dec).fl ≤ fm) × (fm < (locate fm fs dec).fh)
  unfolding locate
  found_proper fm h =
      split_on (ltb fm fs)
      (λ p. rw p (record { some = ok.some; within = omega (arith, ok.most); small = omega arith }, omega arith, ltb-true fm fs p))
      (λ p.
      let e : Step = walk (past fm) 32 dec (first_step fs dec) in
      let w : Went 32 (first_step fs dec) e = walk_went (past fm) 32 dec (first_step fs dec) ok.ended in
      let l : e.fl ≤ fm = past-le fm 32 dec (first_step fs dec) (ltb-false fm fs p) in
      rw p (located_proper fm e w.most w.within l h (stop-high fm e (walk-stops (past fm) 32 dec (first_step fs dec) ok.ended))))

  -- and it is what a writer of that value codes
  pub found_span : (fm : ℕ) → fm < 32768 → span_of (locate fm fs dec).neg (locate fm fs dec).mag fs dec ≡ locate fm fs dec
  unfolding locate span_of
  found_span fm h =
      split_on (ltb fm fs)
      (λ p. rw p)
      (λ p.
      let e : Step = walk (past fm) 32 dec (first_step fs dec) in
      let w : Went 32 (first_step fs dec) e = walk_went (past fm) 32 dec (first_step fs dec) ok.ended in
      let l : e.fl ≤ fm = past-le fm 32 dec (first_step fs dec) (ltb-false fm fs p) in
      let g : walk (up_to (e.i + deep fm e)) 32 dec (first_step fs dec) ≡ e = agree_back fm (deep fm e) 32 dec (first_step fs dec) ok.ended (deep-zero fm e) in
      rw (p, lt-ltb 0 (e.i + deep fm e) (omega arith), g) (located_span fm e l h))

  -- a value that a writer codes is coded as itself
  pub span_again : (neg : Bool) (a : ℕ) → span_of (span_of neg a fs dec).neg (span_of neg a fs dec).mag fs dec ≡ span_of neg a fs dec
  span_again neg a =
      let r = span_proper neg a in
      let q = span_found neg a (span_of neg a fs dec).fl (le_refl _) r.some in
      rw q at (found_span (span_of neg a fs dec).fl (omega arith))

-- ---- the definitions' two cases

-- a value that is not zero
pub span_more : (neg : Bool) (a fs dec : ℕ) → 0 < a → span_at neg a (walk (up_to a) 32 dec (first_step fs dec)) ≡ span_of neg a fs dec
unfolding span_of
span_more neg a fs dec h = rw (lt-ltb 0 a h)

-- zero
pub span_none : (neg : Bool) (a fs dec : ℕ) → a ≤ 0 → zero_span fs ≡ span_of neg a fs dec
unfolding span_of
span_none neg a fs dec h = rw (le-ltb 0 a h)

-- a place of zero
pub locate-none : (fm fs dec : ℕ) → fm < fs → zero_span fs ≡ locate fm fs dec
unfolding locate
locate-none fm fs dec h = rw (lt-ltb fm fs h)

-- a later place
pub locate-more : (fm fs dec : ℕ) → fs ≤ fm → locate_at fm (walk (past fm) 32 dec (first_step fs dec)) ≡ locate fm fs dec
unfolding locate
locate-more fm fs dec h = rw (le-ltb fm fs h)
