-- A walk along the chain of a Laplace model: one step, its end, and what is left of it from a step on. Assumes nothing.
use Prim.Native.Nat.{ℕ, zero, suc, ◌+◌, ◌-◌, ◌*◌, ◌≤◌, ◌<◌}
use mathlib.Core.Path.{◌≡◌, refl, sym, ◌∙◌}
use mathlib.Core.Bool.{Bool, true, false, ◌&&◌, and-eq-true_iff}
use lib.Dec.{ltb}
use native.Mathlib.Omega.{arith}
use borrow.Author.Tests.{ltb-true, ltb-false, lt-ltb, le-ltb}
use Rattle.laws.proofs.Tests.{split_on, by_le}
use Rattle.modes.specs.Laplace.{runs_out}
use Rattle.modes.proofs.Laplace.{Legal, runs_out-next, runs_out-zero, runs_out-room, runs_out-after}
use Rattle.laplace.specs.declared.chain.Step.{Step}
use Rattle.laplace.specs.Chain.{first_step, next_step, walk}

-- from s the chain comes to its end within k steps
abbrev pub Ends : ℕ → ℕ → Step → Type 0
Ends k dec s = runs_out k dec s.fl s.f ≡ true

-- ---- one step of a walk, and its end

-- a walk goes on from s
abbrev pub goes_on : (Step → Bool) → Step → Bool
goes_on more s = ltb 0 s.f && more s

-- then f is not 0
pub on_some : (more : Step → Bool) (s : Step) → goes_on more s ≡ true → 0 < s.f
on_some more s t = ltb-true 0 s.f ((and-eq-true_iff (ltb 0 s.f) (more s)).0 t).0

-- and there is more to do
pub on_more : (more : Step → Bool) (s : Step) → goes_on more s ≡ true → more s ≡ true
on_more more s t = ((and-eq-true_iff (ltb 0 s.f) (more s)).0 t).1

-- it goes on where there is more to do and f is not 0
pub on_here : (more : Step → Bool) (s : Step) → 0 < s.f → more s ≡ true → goes_on more s ≡ true
on_here more s p e = (and-eq-true_iff (ltb 0 s.f) (more s)).1 (lt-ltb 0 s.f p, e)

-- not where there is no more to do
pub off_here : (more : Step → Bool) (s : Step) → more s ≡ false → goes_on more s ≡ false
off_here more s e = split_on (ltb 0 s.f) (λ p. rw (p, e) refl) (λ p. rw p refl)

-- nor where f is 0
pub off_end : (more : Step → Bool) (s : Step) → s.f ≤ 0 → goes_on more s ≡ false
off_end more s n = rw (le-ltb 0 s.f n) refl

-- a walk that goes on is a step and what is left of it
pub walk_step : (more : Step → Bool) (k dec : ℕ) (s : Step) → goes_on more s ≡ true → walk more (suc k) dec s ≡ walk more k dec (next_step dec s)
unfolding walk
walk_step more k dec s e = rw e

-- one that does not stays
pub walk-done : (more : Step → Bool) (k dec : ℕ) (s : Step) → goes_on more s ≡ false → walk more k dec s ≡ s
unfolding walk
walk-done more zero dec s e = refl
walk-done more (suc k) dec s e = rw e

-- the places of a step's value lie within the 32,768
pub ends-within : (k dec : ℕ) (s : Step) → Ends k dec s → s.fl + 2 * s.f + 2 ≤ 32768
ends-within k dec s e =
    split_on (ltb 0 s.f)
    (λ p. let h = runs_out-after dec k s.fl s.f (ltb-true 0 s.f p) e in omega arith)
    (λ p. let h = runs_out-room dec k s.fl s.f e in omega (arith, ltb-false 0 s.f p))

-- ---- a walk under way: what is left from s gives what all gave from s₀. The counter i says how many steps are left.

-- a step that a walk comes to, whatever it looks for
pub record Along (dec : ℕ) (s : Step) : Type 0 where
  pub low : 1 ≤ s.i
  pub high : s.i ≤ 33
  pub ended : Ends (33 - s.i) dec s

-- what is left of a walk from s on gives what the whole gave
abbrev pub Left : (Step → Bool) → ℕ → Step → Step → Type 0
Left more dec s₀ s = walk more (33 - s.i) dec s ≡ walk more 32 dec s₀

-- the first step is one
pub along_first : (fs dec : ℕ) → Legal fs dec → Along dec (first_step fs dec)
along_first fs dec f = record { low = omega arith; high = omega arith; ended = f.ended }

module _ (dec : ℕ) (s : Step) (o : Along dec s) where
  -- the step's places lie within the 32,768
  pub along_within : s.fl + 2 * s.f + 2 ≤ 32768
  along_within = ends-within (33 - s.i) dec s o.ended

  -- while f is not 0, a step is left
  one_left : 0 < s.f → 33 - s.i ≡ suc (33 - (s.i + 1))
  one_left p =
      by_le 33 s.i
      (λ h.
      let e : 33 - s.i ≡ 0 = omega arith in
      let z = runs_out-zero dec s.fl s.f (rw e at o.ended) in
      absurd (omega arith))
      (λ h. omega arith)

  -- so there are at most 32
  pub along_high : 0 < s.f → s.i ≤ 32
  along_high p = let e = one_left p in omega arith

  -- the next step is one too
  pub along_next : 0 < s.f → Along dec (next_step dec s)
  along_next p =
      let e = one_left p in
      record {
        low = omega arith;
        high = omega arith;
        ended = runs_out-next dec (33 - (s.i + 1)) s.fl s.f p (rw e at o.ended);
      }

  -- a step leaves the rest of the walk
  pub left_next : (more : Step → Bool) (s₀ : Step) → goes_on more s ≡ true → Left more dec s₀ s → Left more dec s₀ (next_step dec s)
  left_next more s₀ t h = let e = one_left (on_some more s t) in sym (walk_step more (33 - (s.i + 1)) dec s t) ∙ (rw e at h)

-- where a walk goes on no more, nothing is left of it
pub left_done : (more : Step → Bool) (dec : ℕ) (s₀ s : Step) → goes_on more s ≡ false → Left more dec s₀ s → s ≡ walk more 32 dec s₀
left_done more dec s₀ s t h = sym (walk-done more (33 - s.i) dec s t) ∙ h
