-- A run answered again in the same way ends in the same result. Assumes nothing.
use Prim.Native.Nat.{ℕ, zero, suc, ◌+◌, ◌-◌}
use mathlib.Core.Bool.{Bool, true, false, cond}
use mathlib.Core.List.{List, [], ◌∷◌}
use mathlib.Core.Path.{◌≡◌, refl, ap, subst}
use native.Mathlib.Omega.{arith}
use lib.Dec.{ltb}
use Rattle.rate_spec.specs.Types.{Ask, AllocIn, AllocOut}
use Rattle.rate_spec.specs.Skips.{Round, Skipped, asks, dropped, skip, skip_start, top_bits}
use Rattle.rate_spec.specs.Alloc.{alloc, alloc_from, ask_dual, ask_intensity, dual_asked, finish, first_round}
use Rattle.rate_spec.specs.Answers.{alloc_of_flags, flags_ask}
use Rattle.rate_spec.specs.Trials.{bits_of}
use Rattle.rate_spec.proofs.Steps.{skip_on, skip_stop, skip_unasked, stop_at}

module _ {τ : Type 0} (B : Ask τ) where
  -- asked for flags from t on, B says fs and is then at u, whatever bands it is asked about
  abbrev pub Says : τ → List Bool → τ → Type 0
  Says t [] u = t ≡ u
  Says t (f ∷ fs) u = (t₁ : τ) × ((coded bits : ℕ) → B.skip coded bits t ≡ (f, t₁)) × Says t₁ fs u

  -- where the symbol is coded, the question q is answered by x
  abbrev pub Tells : {X : Type 0} → Bool → (τ → X × τ) → X → τ → τ → Type 0
  Tells true q x t u = q t ≡ (x, u)
  Tells false q x t u = t ≡ u

  -- B answers all questions as they were answered in the run that gave `out`
  pub record Agrees (a : AllocIn) (out : AllocOut) (t u : τ) : Type 0 where
    pub t₁ : τ
    pub t₂ : τ
    pub says : Says t out.flags t₁
    pub intensity : Tells out.intensity_coded (B.intensity (suc out.coded - a.start)) (out.intensity - a.start) t₁ t₂
    pub dual : Tells out.dual_coded B.dual out.dual t₂ u

module _ (a : AllocIn) (bits : ℕ → ℕ) {σ τ : Type 0} (A : Ask σ) (B : Ask τ) where
  -- B, answering as A was answered in n rounds from r, gets the same
  abbrev Follows : ℕ → Round → Type 0
  Follows n r = (s : σ) (t u : τ) → Says B t (skip a bits A n r s).0.flags u → skip a bits B n r t ≡ ((skip a bits A n r s).0, u)

  round : (n : ℕ) (r : Round) → Follows n (dropped a bits r) → Follows (suc n) r
  round n r ih s t u h = go (asks a bits r) refl (A.skip r.coded (top_bits a bits r) s) refl
    where
      asked : (s₁ : σ) (stop : Bool) → asks a bits r ≡ true → A.skip r.coded (top_bits a bits r) s ≡ (stop, s₁)
          → skip a bits B (suc n) r t ≡ ((skip a bits A (suc n) r s).0, u)
      asked s₁ true p q =
          let e = skip_stop a bits A n r s s₁ p q in
          let g = subst (λ (k : Skipped × σ). Says B t k.0.flags u) e h in
          rw (e, skip_stop a bits B n r t g.0 p (g.1 _ _)) (ap (λ (x : τ). (stop_at r, x)) g.2)
      asked s₁ false p q =
          let e = skip_on a bits A n r s s₁ p q in
          let g = subst (λ (k : Skipped × σ). Says B t k.0.flags u) e h in
          rw (e, skip_on a bits B n r t g.0 p (g.1 _ _), ih s₁ g.0 u g.2)

      go : (q : Bool) → asks a bits r ≡ q → (x : Bool × σ) → A.skip r.coded (top_bits a bits r) s ≡ x
          → skip a bits B (suc n) r t ≡ ((skip a bits A (suc n) r s).0, u)
      go true p x e = asked x.1 x.0 p e
      go false p x e =
          let i = skip_unasked a bits A n r s p in
          rw (i, skip_unasked a bits B n r t p) (ih s t u (subst (λ (k : Skipped × σ). Says B t k.0.flags u) i h))

  -- by induction over the rounds
  pub follow_skip : (n : ℕ) (r : Round) → Follows n r
  unfolding skip
  follow_skip zero r s t u h = rw h
  follow_skip (suc n) r s t u h = round n r (follow_skip n (dropped a bits r)) s t u h

module _ (a : AllocIn) {σ τ : Type 0} (A : Ask σ) (B : Ask τ) where
  follow_intensity : (r : Round) (s : σ) (t u : τ)
      → Tells B (ltb 0 r.reserve) (B.intensity (suc r.coded - a.start)) ((ask_intensity a A r s).0 - a.start) t u
      → ask_intensity a B r t ≡ ((ask_intensity a A r s).0, u)
  unfolding ask_intensity
  follow_intensity r s t u h = go (ltb 0 r.reserve) (A.intensity (suc r.coded - a.start) s) h
    where
      go : (b : Bool) (x : ℕ × σ) → Tells B b (B.intensity (suc r.coded - a.start)) ((cond {A = ℕ × σ} b (a.start + x.0, x.1) (0, s)).0 - a.start) t u
          → cond {A = ℕ × τ} b (a.start + (B.intensity (suc r.coded - a.start) t).0, (B.intensity (suc r.coded - a.start) t).1) (0, t)
          ≡ ((cond {A = ℕ × σ} b (a.start + x.0, x.1) (0, s)).0, u)
      go true x e = let p : a.start + x.0 - a.start ≡ x.0 = omega arith in rw (e, p)
      go false x e = rw e

  follow_dual : (i : ℕ) (s : σ) (t u : τ) → Tells B (dual_asked a i) B.dual (ask_dual a A i s).0 t u → ask_dual a B i t ≡ ((ask_dual a A i s).0, u)
  unfolding ask_dual
  follow_dual i s t u h = go (dual_asked a i) h
    where
      go : (b : Bool) → Tells B b B.dual (cond b (A.dual s) (false, s)).0 t u → cond b (B.dual t) (false, t) ≡ ((cond b (A.dual s) (false, s)).0, u)
      go true e = e
      go false e = rw e

  -- and then through the two stereo questions
  pub follow_from : (bits : ℕ → ℕ) (s : σ) (t u : τ) → Agrees B a (alloc_from a A bits s).0 t u → alloc_from a B bits t ≡ ((alloc_from a A bits s).0, u)
  unfolding alloc_from finish
  follow_from bits s t u h =
      rw (
        follow_skip a bits A B (a.end - suc (skip_start a)) (first_round a bits) s t h.t₁ h.says,
        follow_intensity _ _ h.t₁ h.t₂ h.intensity,
        follow_dual _ _ h.t₂ u h.dual,
      )

  -- whoever answers as a run was answered gets its result
  pub follow : (s : σ) (t u : τ) → Agrees B a (alloc a A s).0 t u → alloc a B t ≡ ((alloc a A s).0, u)
  unfolding alloc
  follow s t u h = follow_from (bits_of a) s t u h

-- a list of flags says what it has
says_own : (a : AllocIn) (i : ℕ) (d : Bool) (fs : List Bool) → Says (flags_ask a i d) fs fs []
unfolding flags_ask
says_own a i d [] = refl
says_own a i d (f ∷ fs) = (fs, λ coded bits. refl, says_own a i d fs)

tells_own : {X : Type 0} (a : AllocIn) (i : ℕ) (d : Bool) (b : Bool) (q : List Bool → X × List Bool) (x : X) → q [] ≡ (x, [])
    → Tells (flags_ask a i d) b q x [] []
tells_own a i d true q x e = e
tells_own a i d false q x e = refl

-- who has the answers of a run in a list answers as in that run
pub own : (a : AllocIn) (out : AllocOut) → Agrees (flags_ask a out.intensity out.dual) a out out.flags []
unfolding flags_ask
own a out =
    record {
      t₁ = [];
      t₂ = [];
      says = says_own a out.intensity out.dual out.flags;
      intensity = tells_own a out.intensity out.dual out.intensity_coded (λ s. (out.intensity - a.start, s)) (out.intensity - a.start) refl;
      dual = tells_own a out.intensity out.dual out.dual_coded (λ s. (out.dual, s)) out.dual refl;
    }

-- so the flags, intensity and dual stereo of a run give its result again
pub replay : (a : AllocIn) {σ : Type 0} (A : Ask σ) (s : σ)
    → alloc_of_flags a (alloc a A s).0.flags (alloc a A s).0.intensity (alloc a A s).0.dual ≡ (alloc a A s).0
unfolding alloc_of_flags
replay a A s = let out = (alloc a A s).0 in ap (λ (x : AllocOut × List Bool). x.0)
    (follow a A (flags_ask a out.intensity out.dual) s out.flags [] (own a out))
